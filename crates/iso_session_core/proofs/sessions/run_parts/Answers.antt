use Rattle.iso_model.specs.Session.Sessions.{Closes, Done, whole_queries}
use Rattle.iso_model.specs.Syntax.Tokens.{tokens}
use Rattle.iso_model.specs.Search.Walker.{idle, first_world}
use Rattle.iso_session_core.proofs.ProgressLemmas.{advance_none, does_after, stops_after, breaks_after}
use Rattle.iso_session_core.proofs.sessions.run_parts.Goals as goal

pub returns-in_err-flow-clause-does : goal.returns-in_err-flow-clause-does
returns-in_err-flow-clause-does g c =
    let begins = rw c.body_of_text.ensures at (c.in_err-flow.ensures.does (idle first_world) c.requires.new (λ w. whole_queries c.args.budget (tokens c.args.queries.now) w)) in
    breaks_after _ _ _ _ _ _ _ _ _ (λ _. Closes Done) c.from_residual.result (advance_none _ _) c.from_residual.ensures.0 begins

pub run_queries-requires-clause-ready : goal.run_queries-requires-clause-ready
run_queries-requires-clause-ready g c =
    (rw (c.in_ok-flow.was, c.in-On.is) at (c.consult_text.ensures.does (idle first_world) c.requires.new (λ w. Closes Done))).ready

pub run_queries-requires-clause-stands : goal.run_queries-requires-clause-stands
run_queries-requires-clause-stands g c =
    let goes = rw (c.in_ok-flow.was, c.in-On.is) at (c.consult_text.ensures.does (idle first_world) c.requires.new (λ w. Closes Done)) in
    (goes.at, goes.stands)

pub returns-in-On-clause-does : goal.returns-in-On-clause-does
returns-in-On-clause-does g c =
    let goes = rw (c.in_ok-flow.was, c.in-On.is, c.body_of_text.ensures) at (c.consult_text.ensures.does (idle first_world) c.requires.new (λ w. whole_queries c.args.budget (tokens c.args.queries.now) w)) in
    does_after _ _ _ _ _ _ _ _ _ (λ _. Closes Done) c.run_queries.result goes.advances (c.run_queries.ensures.does goes.at goes.stands)

pub returns-in_default-clause-does : goal.returns-in_default-clause-does
returns-in_default-clause-does g c =
    let does = rw (c.body_of_text.ensures, c.in_ok-flow.was) at (c.consult_text.ensures.does (idle first_world) c.requires.new (λ w. whole_queries c.args.budget (tokens c.args.queries.now) w)) in
    stops_after _ _ _ _ _ _ _ _ _ _ (λ _. Closes Done) c.in_ok-flow.flow (advance_none _ _) c.in_default.not-On does
