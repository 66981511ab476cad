use Rattle.iso_model.specs.Session.Sessions.{Closes, Done}
use Rattle.iso_model.specs.Search.Walker.{idle, first_world}
use Rattle.iso_toplevel_core.specs.Dialogues.{whole_dialogue}
use Rattle.iso_toplevel_core.proofs.PartLemmas.{does_after}
use Rattle.iso_toplevel_core.proofs.EndLemmas.{text_stops, text_breaks, as_many}
use Rattle.iso_toplevel_core.proofs.toplevels.run_parts.Goals as goal

pub returns-in_err-flow-clause-does : goal.returns-in_err-flow-clause-does
returns-in_err-flow-clause-does g c = λ xs is.
    let begins = rw c.body_of_text.ensures at (c.in_err-flow.ensures.does (idle first_world) c.requires.new (λ w. whole_dialogue c.args.manner.waits c.args.manner.budget xs w)) in
    text_breaks _ _ _ _ _ _ _ xs _ _ _ c.from_residual.result c.from_residual.ensures.1 begins

pub greet_and_talk-requires-clause-ready : goal.greet_and_talk-requires-clause-ready
greet_and_talk-requires-clause-ready g c =
    (rw (c.in_ok-flow.was, c.in-On.is) at (c.consult_text.ensures.does (idle first_world) c.requires.new (λ w. Closes Done))).ready

pub greet_and_talk-requires-clause-stands : goal.greet_and_talk-requires-clause-stands
greet_and_talk-requires-clause-stands g c =
    let goes = rw (c.in_ok-flow.was, c.in-On.is) at (c.consult_text.ensures.does (idle first_world) c.requires.new (λ w. Closes Done)) in
    (goes.at, goes.stands)

pub returns-in-On-clause-does : goal.returns-in-On-clause-does
returns-in-On-clause-does g c = λ xs is.
    let goes = rw (c.in_ok-flow.was, c.in-On.is, c.body_of_text.ensures) at (c.consult_text.ensures.does (idle first_world) c.requires.new (λ w. whole_dialogue c.args.manner.waits c.args.manner.budget xs w)) in
    does_after _ _ _ _ _ _ _ _ xs xs _ _ _ _ c.greet_and_talk.result (as_many xs) goes.advances (c.greet_and_talk.ensures.does goes.at goes.stands xs is)

pub returns-in_default-clause-does : goal.returns-in_default-clause-does
returns-in_default-clause-does g c = λ xs is.
    let does = rw (c.body_of_text.ensures, c.in_ok-flow.was) at (c.consult_text.ensures.does (idle first_world) c.requires.new (λ w. whole_dialogue c.args.manner.waits c.args.manner.budget xs w)) in
    text_stops _ _ _ _ _ _ _ xs _ _ (λ w. whole_dialogue c.args.manner.waits c.args.manner.budget xs w) _ c.in_ok-flow.flow c.in_default.not-On does
