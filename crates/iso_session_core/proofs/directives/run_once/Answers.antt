use Rattle.std.proofs.Common.{ℕ, refl, ◌∙◌}
use Rattle.iso_model.specs.Terms.Trees.{Tree}
use Rattle.iso_model.specs.Session.Sessions.{Script}
use Rattle.iso_model.specs.Search.Walker.{World, started}
use Rattle.iso_session_core.proofs.ProgressLemmas.{midway_awake, keeps_limits-both}
use Rattle.iso_session_core.proofs.DirectiveLemmas.{directive_begins, shown_comes, shown_breaks, shown_goes, directive_ends}
use Rattle.iso_session_core.proofs.directives.run_once.Goals as goal

pub loop-bytes-init : goal.loop-bytes-init
loop-bytes-init g c = record {
  awake = c.requires.awake;
  stands = c.requires.stands;
  limits = λ l s may. may;
  place = λ goal w budget stands k next. directive_begins _ k goal w budget _ next stands;
  writer = refl;
}

pub returns-in_err-write_output-in-Output-clause-does : goal.returns-in_err-write_output-in-Output-clause-does
returns-in_err-write_output-in-Output-clause-does g c = λ goal w budget stands k counts next.
    let place = c.loop-bytes.invariant.place goal w budget stands k next in
    let turn = shown_comes place (c.in-Output.ensures.pauses place.at place.stands c.loop-bytes.invariant.awake).0 in
    let begins = rw c.as_slice.ensures.value at c.in_err-write_output-in-Output.ensures.err in
    shown_breaks _ _ _ _ next c.from_residual.result turn c.from_residual.ensures.0 begins

pub loop-bytes-preserved : goal.loop-bytes-preserved
loop-bytes-preserved g c =
    let written = rw c.as_slice.ensures.value at c.in_ok-write_output-in-Output.ensures.ok in
    let within = rw c.as_slice.ensures.value at c.in_ok-write_output-in-Output.ensures.within in
    let goes = λ (goal : Tree) (w : World) (budget : ℕ) (stands : g.E.Engine.stands_for c.args.engine.now (started goal budget w)) (k : ℕ) (next : World → Script).
    let place = c.loop-bytes.invariant.place goal w budget stands k next in
    shown_goes _ (shown_comes place (c.in-Output.ensures.pauses place.at place.stands c.loop-bytes.invariant.awake).0) written within in
    let first = c.loop-bytes.invariant.stands in
    let pauses = c.in-Output.ensures.pauses first.0 first.1 c.loop-bytes.invariant.awake in
    record {
      awake = midway_awake _ pauses.1;
      stands = (pauses.0.new, pauses.0.stands);
      limits = keeps_limits-both _ _ _ c.loop-bytes.invariant.limits c.in-Output.ensures.limits;
      place = goes;
      writer = c.in_ok-write_output-in-Output.ensures.writer ∙ c.loop-bytes.invariant.writer;
    }

pub returns-in_default-clause-does : goal.returns-in_default-clause-does
returns-in_default-clause-does g c = λ goal w budget stands k counts next.
    let place = c.loop-bytes.invariant.place goal w budget stands k next in
    let pauses = c.resume.ensures.pauses place.at place.stands c.loop-bytes.invariant.awake in
    directive_ends _ _ c.ops.result.now _ c.ops.ensures _ _ _ c.args.number k counts goal w budget place.at c.resume.result next c.end_directive.result place.gave place.advances
    pauses (c.resume.ensures.limit place.at place.stands) c.end_directive.ensures.ends c.in_default.not-Output
