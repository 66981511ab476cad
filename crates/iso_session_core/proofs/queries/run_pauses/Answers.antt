use Rattle.std.proofs.Common.{◌≡◌, ℕ, map, refl, ◌∙◌}
use Rattle.iso_model.specs.Syntax.Grammar.{ReadTerm}
use Rattle.iso_model.specs.Terms.TermOf.{term_of}
use Rattle.iso_model.specs.Session.Lines.{answer_line}
use Rattle.iso_model.specs.Session.Sessions.{Script, query_goal}
use Rattle.iso_model.specs.Search.Walker.{World, started}
use Rattle.iso_session_core.specs.Named.{names_of}
use Rattle.iso_session_core.proofs.ProgressLemmas.{ready_awake, where_ready, midway_awake, keeps_limits-both}
use Rattle.iso_session_core.proofs.QueryLemmas.{query_ends, run_begins, output_comes, output_breaks, output_goes, answer_comes, answer_stops, answer_breaks, answer_goes}
use Rattle.iso_session_core.proofs.queries.run_pauses.Goals as goal

pub loop-bytes-init : goal.loop-bytes-init
loop-bytes-init g c = record {
  awake = c.requires.awake;
  stands = c.requires.stands;
  limits = λ l s may. may;
  place = λ query w budget named stands next. run_begins _ query w budget _ next stands;
  writer = refl;
}

pub returns-in_err-write_output-in-Output-clause-does : goal.returns-in_err-write_output-in-Output-clause-does
returns-in_err-write_output-in-Output-clause-does g c = λ query w budget named stands next.
    let place = c.loop-bytes.invariant.place query w budget named stands next in
    let turn = output_comes place (c.in-Output.ensures.pauses place.at place.stands c.loop-bytes.invariant.awake).0 in
    let begins = rw c.as_slice.ensures.value at c.in_err-write_output-in-Output.ensures.err in
    output_breaks _ _ _ _ next c.from_residual.result turn c.from_residual.ensures.0 begins

pub loop-bytes-preserved-in-Output : goal.loop-bytes-preserved-in-Output
loop-bytes-preserved-in-Output g c =
    let written = rw c.as_slice.ensures.value at c.in_ok-write_output-in-Output.ensures.ok in
    let within = rw c.as_slice.ensures.value at c.in_ok-write_output-in-Output.ensures.within in
    let goes = λ (query : ReadTerm) (w : World) (budget : ℕ) (named : names_of c.args.names.now ≡ query.names) (stands : g.E.Engine.stands_for c.args.engine.now (started (query_goal query.term) budget w)) (next : World → Script).
    let place = c.loop-bytes.invariant.place query w budget named stands next in
    output_goes _ (output_comes place (c.in-Output.ensures.pauses place.at place.stands c.loop-bytes.invariant.awake).0) written within in
    let first = c.loop-bytes.invariant.stands in
    let pauses = c.in-Output.ensures.pauses first.0 first.1 c.loop-bytes.invariant.awake in
    record {
      awake = midway_awake _ pauses.1;
      stands = (pauses.0.new, pauses.0.stands);
      limits = keeps_limits-both _ _ _ c.loop-bytes.invariant.limits c.in-Output.ensures.limits;
      place = goes;
      writer = c.in_ok-write_output-in-Output.ensures.writer ∙ c.loop-bytes.invariant.writer;
    }

pub returns-in_err-flow-in-Answer-clause-does : goal.returns-in_err-flow-in-Answer-clause-does
returns-in_err-flow-in-Answer-clause-does g c = λ query w budget named stands next.
    let place = c.loop-bytes.invariant.place query w budget named stands next in
    let pauses = c.in-Answer.ensures.pauses place.at place.stands c.loop-bytes.invariant.awake in
    let turn = answer_comes c.saturating_add-count.result place pauses.0 c.saturating_add-count.ensures in
    let line = rw (c.as_slice-in-Answer.ensures.value, named) at c.answer_line-line.ensures in
    answer_breaks _ _ _ c.from_residual-in_err-flow-in-Answer.result turn c.ops-ops.result.now (where_ready _ turn.at (λ u. c.ops-ops.result.now ≡ u.world.operators) pauses.1 (c.ops-ops.ensures turn.at turn.stands)) c.from_residual-in_err-flow-in-Answer.ensures.0
    (c.in_err-flow-in-Answer.ensures.puts (answer_line c.ops-ops.result.now c.saturating_add-count.result query.names (map term_of c.in-Answer.values.items)) line)

pub returns-in_default-2-clause-does : goal.returns-in_default-2-clause-does
returns-in_default-2-clause-does g c = λ query w budget named stands next.
    let place = c.loop-bytes.invariant.place query w budget named stands next in
    let pauses = c.in-Answer.ensures.pauses place.at place.stands c.loop-bytes.invariant.awake in
    let turn = answer_comes c.saturating_add-count.result place pauses.0 c.saturating_add-count.ensures in
    let line = rw (c.as_slice-in-Answer.ensures.value, named) at c.answer_line-line.ensures in
    let puts = rw c.in_ok-flow-in-Answer.was at (c.put_line.ensures.puts (answer_line c.ops-ops.result.now c.saturating_add-count.result query.names (map term_of c.in-Answer.values.items)) line) in
    answer_stops _ _ _ c.in_ok-flow-in-Answer.flow turn c.ops-ops.result.now (where_ready _ turn.at (λ u. c.ops-ops.result.now ≡ u.world.operators) pauses.1 (c.ops-ops.ensures turn.at turn.stands)) pauses.1 c.in_default-2.not-On puts

pub loop-bytes-preserved : goal.loop-bytes-preserved
loop-bytes-preserved g c =
    let goes = λ (query : ReadTerm) (w : World) (budget : ℕ) (named : names_of c.args.names.now ≡ query.names) (stands : g.E.Engine.stands_for c.args.engine.now (started (query_goal query.term) budget w)) (next : World → Script).
    let place = c.loop-bytes.invariant.place query w budget named stands next in
    let pauses = c.in-Answer.ensures.pauses place.at place.stands c.loop-bytes.invariant.awake in
    let turn = answer_comes c.saturating_add-count.result place pauses.0 c.saturating_add-count.ensures in
    let line = rw (c.as_slice-in-Answer.ensures.value, named) at c.answer_line-line.ensures in
    let puts = rw (c.in_ok-flow-in-Answer.was, c.in-On.is) at (c.put_line.ensures.puts (answer_line c.ops-ops.result.now c.saturating_add-count.result query.names (map term_of c.in-Answer.values.items)) line) in
    answer_goes _ turn c.ops-ops.result.now (where_ready _ turn.at (λ u. c.ops-ops.result.now ≡ u.world.operators) pauses.1 (c.ops-ops.ensures turn.at turn.stands)) puts in
    let first = c.loop-bytes.invariant.stands in
    let pauses = c.in-Answer.ensures.pauses first.0 first.1 c.loop-bytes.invariant.awake in
    record {
      awake = ready_awake _ pauses.1;
      stands = (pauses.0.new, pauses.0.stands);
      limits = keeps_limits-both _ _ _ c.loop-bytes.invariant.limits c.in-Answer.ensures.limits;
      place = goes;
      writer = c.put_line.ensures.writer ∙ c.loop-bytes.invariant.writer;
    }

pub returns-in_default-clause-does : goal.returns-in_default-clause-does
returns-in_default-clause-does g c = λ query w budget named stands next.
    let place = c.loop-bytes.invariant.place query w budget named stands next in
    let pauses = c.resume.ensures.pauses place.at place.stands c.loop-bytes.invariant.awake in
    query_ends _ _ c.ops.result.now _ c.ops.ensures _ _ _ query w budget place.done place.at c.resume.result next c.end_query.result place.gave place.advances
    pauses (c.resume.ensures.limit place.at place.stands) c.end_query.ensures.ends c.in_default.not-Answer c.in_default.not-Output
