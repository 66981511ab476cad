use Rattle.std.proofs.Common.{suc, length}
use Rattle.iso_toplevel_core.specs.Dialogues.{dialogue}
use Rattle.iso_toplevel_core.proofs.PartLemmas.{does_after}
use Rattle.iso_toplevel_core.proofs.TalkLemmas.{one_more}
use Rattle.iso_toplevel_core.proofs.EndLemmas.{greeting_stops, greeting_fails, as_many}
use Rattle.iso_toplevel_core.proofs.toplevels.greet_and_talk.Goals as goal

pub returns-in_err-flow-clause-does : goal.returns-in_err-flow-clause-does
returns-in_err-flow-clause-does g c = λ s stands xs is.
    greeting_fails _ _ _ _ _ _ _ xs _ _ _ c.in_err-flow.field-0.0 c.from_residual.result c.from_residual.ensures.1
    (c.in_err-flow.ensures.leads (dialogue c.args.manner.waits c.args.manner.budget (suc (length xs)) s.world xs))

pub returns-in-On-clause-does : goal.returns-in-On-clause-does
returns-in-On-clause-does g c = λ s stands xs is.
    let leads = rw (c.in_ok-flow.was, c.in-On.is) at (c.greet.ensures.leads (dialogue c.args.manner.waits c.args.manner.budget (suc (length xs)) s.world xs)) in
    does_after _ _ _ _ _ _ _ _ xs xs _ _ _ _ c.talk.result (as_many xs) leads (c.talk.ensures.does s stands xs is (suc (length xs)) (one_more xs))

pub returns-in_default-clause-does : goal.returns-in_default-clause-does
returns-in_default-clause-does g c = λ s stands xs is.
    let leads = rw c.in_ok-flow.was at (c.greet.ensures.leads (dialogue c.args.manner.waits c.args.manner.budget (suc (length xs)) s.world xs)) in
    greeting_stops _ _ _ _ _ _ _ xs _ _ (dialogue c.args.manner.waits c.args.manner.budget (suc (length xs)) s.world xs) _ c.in_ok-flow.flow leads c.in_default.not-On c.requires.ready
