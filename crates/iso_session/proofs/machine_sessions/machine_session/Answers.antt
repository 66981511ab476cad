use Rattle.iso_model.specs.Search.Runs.{ComesAbove}
use Rattle.iso_model.specs.Search.RunLaws.Spans.{ComesBeyond}
use Rattle.iso_model.specs.Session.Sessions.{session_script}
use Rattle.iso_session_core.specs.Progress.{outcome_of}
use Rattle.iso_session_core.proofs.EndLemmas.{writes_refused, writes_walk}
use Rattle.iso_session.proofs.machine_sessions.machine_session.Goals as goal

pub returns : goal.returns
returns g c =
    let limits = c.args.limits.now in
    let script = session_script c.args.text.now c.args.queries.now limits.budget in
    writes_walk _ (ComesAbove limits.cells) (ComesBeyond limits.frames) _ _ _ script _ _
    (outcome_of c.session_on.result) c.in-Ok.ensures.limits c.session_on.ensures

pub returns-in_default : goal.returns-in_default
returns-in_default g c =
    let limits = c.args.limits.now in
    let script = session_script c.args.text.now c.args.queries.now limits.budget in
    writes_refused limits.budget (ComesAbove limits.cells) (ComesBeyond limits.frames) script _ _
    (outcome_of c.refused_session.result) (c.refused_session.ensures c.args.text.now c.args.queries.now limits.budget)
