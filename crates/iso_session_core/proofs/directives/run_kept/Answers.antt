use Rattle.std.proofs.Common.{List, ◌∙◌, refl}
use Rattle.iso_model.specs.Session.Directives.{Kept}
use Rattle.iso_model.specs.Session.Sessions.{Script, Closes, Done, kept_script}
use Rattle.iso_model.specs.Search.Walker.{World, State}
use Rattle.iso_session_core.specs.Directed.{AreKept}
use Rattle.iso_session_core.proofs.ProgressLemmas.{advance_none, stops_after, breaks_after, keeps_limits-both}
use Rattle.iso_session_core.proofs.DirectiveLemmas.{kept_begins, kept_fits, kept_turn, kept_goes, kept_end}
use Rattle.iso_session_core.proofs.directives.run_kept.Goals as goal

pub loop-entry-init : goal.loop-entry-init
loop-entry-init g c = record {
  ready = c.requires.ready;
  stands = c.requires.stands;
  left = c.requires.kept;
  limits = λ l s may. may;
  place = λ s stands goals are next. kept_begins _ c.args.budget c.args.kept.now s goals _ next stands are;
  writer = refl;
}

pub run_directive-requires-clause-ready : goal.run_directive-requires-clause-ready
run_directive-requires-clause-ready g c = c.loop-entry.invariant.ready

pub run_directive-requires-clause-stands : goal.run_directive-requires-clause-stands
run_directive-requires-clause-stands g c = c.loop-entry.invariant.stands

pub run_directive-requires-clause-fits : goal.run_directive-requires-clause-fits
run_directive-requires-clause-fits g c =
    let left = c.loop-entry.invariant.left in
    (kept_fits c.args.kept.now c.loop-entry.entry-index c.entry-item.result left.0 c.loop-entry-test.true c.entry-item.is left.1).0

pub run_directive-requires-clause-numbered : goal.run_directive-requires-clause-numbered
run_directive-requires-clause-numbered g c =
    let left = c.loop-entry.invariant.left in
    (kept_fits c.args.kept.now c.loop-entry.entry-index c.entry-item.result left.0 c.loop-entry-test.true c.entry-item.is left.1).1

pub returns-in_err-flow-clause-does : goal.returns-in_err-flow-clause-does
returns-in_err-flow-clause-does g c = λ s stands goals are next.
    let place = c.loop-entry.invariant.place s stands goals are next in
    let turn = kept_turn _ c.args.budget c.args.kept.now c.loop-entry.entry-index c.entry-item.result _ _ _ next c.loop-entry-test.true c.entry-item.is place in
    breaks_after _ _ _ _ _ _ _ _ _ next c.from_residual.result turn.advances c.from_residual.ensures.0
    (c.in_err-flow.ensures.does turn.at turn.stands turn.k turn.counts (λ v. kept_script c.args.budget turn.goals v next))

pub returns-in_default-clause-does : goal.returns-in_default-clause-does
returns-in_default-clause-does g c = λ s stands goals are next.
    let place = c.loop-entry.invariant.place s stands goals are next in
    let turn = kept_turn _ c.args.budget c.args.kept.now c.loop-entry.entry-index c.entry-item.result _ _ _ next c.loop-entry-test.true c.entry-item.is place in
    let does = rw c.in_ok-flow.was at (c.run_directive.ensures.does turn.at turn.stands turn.k turn.counts (λ v. kept_script c.args.budget turn.goals v next)) in
    stops_after _ _ _ _ _ _ _ _ _ _ next c.in_ok-flow.flow turn.advances c.in_default.not-On does

pub loop-entry-preserved : goal.loop-entry-preserved
loop-entry-preserved g c =
    let goes = λ (s : State) (stands : g.E.Engine.stands_for c.args.engine.now s) (goals : List Kept) (are : AreKept c.args.kept.now goals) (next : World → Script).
    let place = c.loop-entry.invariant.place s stands goals are next in
    let turn = kept_turn _ c.args.budget c.args.kept.now c.loop-entry.entry-index c.entry-item.result _ _ _ next c.loop-entry-test.true c.entry-item.is place in
    let does = rw (c.in_ok-flow.was, c.in-On.is) at (c.run_directive.ensures.does turn.at turn.stands turn.k turn.counts (λ v. kept_script c.args.budget turn.goals v next)) in
    kept_goes _ _ _ c.args.budget c.entry-item.result _ _ _ _ _ next turn does in
    let first = goes c.requires.stands.0 c.requires.stands.1 c.requires.kept.0 c.requires.kept.1 (λ w. Closes Done) in
    record {
      ready = first.0;
      stands = (first.1.at, first.1.stands);
      left = (first.1.goals, first.1.are);
      limits = keeps_limits-both _ _ _ c.loop-entry.invariant.limits c.run_directive.ensures.limits;
      place = λ s stands goals are next. (goes s stands goals are next).1;
      writer = c.run_directive.ensures.writer ∙ c.loop-entry.invariant.writer;
    }

pub returns-clause-does : goal.returns-clause-does
returns-clause-does g c = λ s stands goals are next.
    let place = c.loop-entry.invariant.place s stands goals are next in
    kept_end _ _ c.args.budget c.args.kept.now c.loop-entry.entry-index _ _ _ next c.loop-entry-test.false place c.loop-entry.invariant.ready
