use Rattle.iso_model.specs.Session.Sessions.{Closes, Done, kept_script}
use Rattle.iso_session_core.proofs.ProgressLemmas.{advance_none, does_after, stops_after, breaks_after}
use Rattle.iso_session_core.proofs.ConsultLemmas.{Behind}
use Rattle.iso_session_core.proofs.consulting.consult_text.Goals as goal

pub returns-in_err-flow-clause-does : goal.returns-in_err-flow-clause-does
returns-in_err-flow-clause-does g c = λ s stands next.
    let behind : Behind = λ goals w. kept_script c.args.budget goals w next in
    let begins = c.in_err-flow.ensures.does s stands behind in
    breaks_after _ _ _ _ _ _ _ _ _ next c.from_residual.result (advance_none _ _) c.from_residual.ensures.0 begins.does

pub run_kept-requires-clause-ready : goal.run_kept-requires-clause-ready
run_kept-requires-clause-ready g c =
    let first = c.requires.stands in
    let goes = rw (c.in_ok-flow.was, c.in-On.is) at (c.consult_items.ensures.does first.0 first.1 (λ goals w. Closes Done)) in
    goes.does.ready

pub run_kept-requires-clause-stands : goal.run_kept-requires-clause-stands
run_kept-requires-clause-stands g c =
    let first = c.requires.stands in
    let goes = rw (c.in_ok-flow.was, c.in-On.is) at (c.consult_items.ensures.does first.0 first.1 (λ goals w. Closes Done)) in
    (goes.does.at, goes.does.stands)

pub run_kept-requires-clause-kept : goal.run_kept-requires-clause-kept
run_kept-requires-clause-kept g c =
    let first = c.requires.stands in
    let goes = c.consult_items.ensures.does first.0 first.1 (λ goals w. Closes Done) in
    (goes.goals, rw c.as_slice.ensures.value goes.are)

pub returns-in-On-clause-does : goal.returns-in-On-clause-does
returns-in-On-clause-does g c = λ s stands next.
    let behind : Behind = λ goals w. kept_script c.args.budget goals w next in
    let goes = rw (c.in_ok-flow.was, c.in-On.is) at (c.consult_items.ensures.does s stands behind) in
    does_after _ _ _ _ _ _ _ _ _ next c.run_kept.result goes.does.advances
    (c.run_kept.ensures.does goes.does.at goes.does.stands goes.goals (rw c.as_slice.ensures.value goes.are) next)

pub returns : goal.returns
returns g c = record {
  does = λ s stands next.
      let behind : Behind = λ goals w. kept_script c.args.budget goals w next in
      let part = rw c.in_ok-flow.was at (c.consult_items.ensures.does s stands behind) in
      stops_after _ _ _ _ _ _ _ _ _ (behind part.goals) next c.in_ok-flow.flow (advance_none _ _) c.in_default.not-On part.does;
  limits = c.consult_items.ensures.limits;
  writer = c.consult_items.ensures.writer;
}
