use Rattle.std.proofs.Common.{rules, ap}
use Rattle.iso_model.specs.Session.Sessions.{session_script}
use Rattle.iso_session_core.specs.Progress.{outcome_of}
use Rattle.iso_session_core.proofs.EndLemmas.{closes, breaks, writes_kept, written_to}
use Rattle.iso_session_core.proofs.sessions.session_on.Goals as goal

pub returns-in_err-flow : goal.returns-in_err-flow
returns-in_err-flow g c =
    let script = session_script c.args.text.now c.args.queries.now c.args.budget in
    written_to script _ _ _ _ _
    (breaks _ _ _ _ script c.from_residual.result c.new-console.ensures.place c.from_residual.ensures.0 c.in_err-flow.ensures.does)
    (ap g.W.Write.contents (search rules))

pub returns : goal.returns
returns g c =
    let does = rw c.in_ok-flow.was at c.run_parts.ensures.does in
    let script = session_script c.args.text.now c.args.queries.now c.args.budget in
    written_to script _ _ _ _ _
    (writes_kept _ _ _ _ _ script _ _ (outcome_of c.close.result) c.run_parts.ensures.limits
    (closes _ _ _ _ _ _ _ _ script c.in_ok-flow.flow c.close.result c.new-console.ensures.place does c.close.ensures.ended c.close.ensures.ok c.close.ensures.err))
    (ap g.W.Write.contents (search rules))
