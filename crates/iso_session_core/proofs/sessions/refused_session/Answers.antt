use Rattle.std.proofs.Common.{rules, ap}
use Rattle.iso_model.specs.Session.Sessions.{session_script}
use Rattle.iso_session_core.proofs.EndLemmas.{refused_session, written_to}
use Rattle.iso_session_core.proofs.sessions.refused_session.Goals as goal

pub returns : goal.returns
returns g c text queries budget =
    let script = session_script text queries budget in
    written_to script _ _ _ _ _
    (refused_session budget script _ _ _ c.close.result c.new.ensures.place c.close.ensures.ended c.close.ensures.ok c.close.ensures.err)
    (ap g.W.Write.contents (search rules))
