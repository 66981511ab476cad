use Rattle.std.proofs.Common.{◌≡◌, ℕ, List, Some, drop, map, refl, ◌∙◌}
use Rattle.iso_model.specs.Syntax.Grammar.{ReadTerm}
use Rattle.iso_model.specs.Terms.TermOf.{term_of}
use Rattle.iso_model.specs.Session.Lines.{solution_text}
use Rattle.iso_model.specs.Session.Sessions.{query_goal}
use Rattle.iso_model.specs.Search.Walker.{World, started}
use Rattle.iso_session_core.specs.Named.{names_of}
use Rattle.iso_session_core.specs.Consoles.{place}
use Rattle.iso_session_core.proofs.ProgressLemmas.{ready_awake, where_ready, midway_awake, keeps_limits-both}
use Rattle.iso_toplevel_core.specs.Dialogues.{Behind}
use Rattle.iso_toplevel_core.proofs.QueryLemmas.{run_begins, output_goes, output_breaks, answer_breaks, answer_stops, answer_put, goes_on, is_dropped, decision_breaks, decision_memory, decision_stops, decision_goes, query_ends, still_off, still_ends}
use Rattle.iso_toplevel_core.proofs.queries.run_pauses.Goals as goal

pub loop-bytes-init : goal.loop-bytes-init
loop-bytes-init g c = record {
  awake = c.requires.awake;
  stands = c.requires.stands;
  limits = λ l s may. may;
  place = λ query w budget named stands xs is next. run_begins _ c.args.waits query w budget xs _ _ next stands is;
  writer = refl;
}

pub returns-in_err-write_output-in-Output-clause-does : goal.returns-in_err-write_output-in-Output-clause-does
returns-in_err-write_output-in-Output-clause-does g c = λ query w budget named stands xs is next.
    let place = c.loop-bytes.invariant.place query w budget named stands xs is next in
    let pauses = c.in-Output.ensures.pauses place.at place.stands c.loop-bytes.invariant.awake in
    let begins = rw c.as_slice.ensures.value at c.in_err-write_output-in-Output.ensures.err in
    output_breaks _ _ _ query w budget xs _ _ _ next _ _ place _ _ _ _ _ c.from_residual.result pauses.0 c.from_residual.ensures.1 begins

pub loop-bytes-preserved-in-Output : goal.loop-bytes-preserved-in-Output
loop-bytes-preserved-in-Output g c =
    let written = rw c.as_slice.ensures.value at c.in_ok-write_output-in-Output.ensures.ok in
    let ends = rw c.as_slice.ensures.value at c.in_ok-write_output-in-Output.ensures.within in
    let within = rw c.as_slice-in-Output.ensures.value at c.is_within-within.ensures in
    let goes = λ (query : ReadTerm) (w : World) (budget : ℕ) (named : names_of c.args.names.now ≡ query.names) (stands : g.E.Engine.stands_for c.args.engine.now (started (query_goal query.term) budget w)) (xs : List ℕ) (is : g.R.Read.remaining c.args.input.now ≡ Some xs) (next : Behind).
    let place = c.loop-bytes.invariant.place query w budget named stands xs is next in
    output_goes _ _ _ query w budget xs _ _ _ next _ _ place _ _ _ (c.in-Output.ensures.pauses place.at place.stands c.loop-bytes.invariant.awake).0 written ends within in
    let first = c.loop-bytes.invariant.stands in
    let pauses = c.in-Output.ensures.pauses first.0 first.1 c.loop-bytes.invariant.awake in
    record {
      awake = midway_awake _ pauses.1;
      stands = (pauses.0.new, pauses.0.stands);
      limits = keeps_limits-both _ _ _ c.loop-bytes.invariant.limits c.in-Output.ensures.limits;
      place = goes;
      writer = c.in_ok-write_output-in-Output.ensures.writer ∙ c.loop-bytes.invariant.writer;
    }

pub returns-in_err-flow-in-Answer-clause-does : goal.returns-in_err-flow-in-Answer-clause-does
returns-in_err-flow-in-Answer-clause-does g c = λ query w budget named stands xs is next.
    let place = c.loop-bytes.invariant.place query w budget named stands xs is next in
    let pauses = c.in-Answer.ensures.pauses place.at place.stands c.loop-bytes.invariant.awake in
    let composed = rw (c.as_slice-in-Answer.ensures.value, named) at c.answer-piece.ensures in
    let table = c.ops.result.now in
    let puts = rw c.in_err-flow-in-Answer.was at (c.put.ensures.puts c.loop-bytes.within (drop 1 (solution_text table query.names (map term_of c.in-Answer.values.items))) 32 composed) in
    let same = where_ready _ pauses.0.new (λ u. table ≡ u.world.operators) pauses.1 (c.ops.ensures pauses.0.new pauses.0.stands) in
    answer_breaks _ _ _ query w budget xs _ _ _ next _ _ place table pauses.0 same _ _ _ _ c.in_err-flow-in-Answer.field-0.0 c.from_residual-in_err-flow-in-Answer.result c.from_residual-in_err-flow-in-Answer.ensures.1 puts

pub returns-in_default-2-clause-does : goal.returns-in_default-2-clause-does
returns-in_default-2-clause-does g c = λ query w budget named stands xs is next.
    let place = c.loop-bytes.invariant.place query w budget named stands xs is next in
    let pauses = c.in-Answer.ensures.pauses place.at place.stands c.loop-bytes.invariant.awake in
    let composed = rw (c.as_slice-in-Answer.ensures.value, named) at c.answer-piece.ensures in
    let table = c.ops.result.now in
    let puts = rw c.in_ok-flow-in-Answer.was at (c.put.ensures.puts c.loop-bytes.within (drop 1 (solution_text table query.names (map term_of c.in-Answer.values.items))) 32 composed) in
    let same = where_ready _ pauses.0.new (λ u. table ≡ u.world.operators) pauses.1 (c.ops.ensures pauses.0.new pauses.0.stands) in
    answer_stops _ _ _ query w budget xs _ _ _ next _ _ place table pauses.0 same _ _ _ _ c.in_ok-flow-in-Answer.flow puts c.in_default-2.not-On pauses.1

pub returns-in_default-2-clause-still : goal.returns-in_default-2-clause-still
returns-in_default-2-clause-still g c = still_off _ _ c.in_ok-flow-in-Answer.flow c.in_default-2.not-On

pub returns-in_err-decide-in-Answer-clause-does : goal.returns-in_err-decide-in-Answer-clause-does
returns-in_err-decide-in-Answer-clause-does g c = λ query w budget named stands xs is next.
    let place = c.loop-bytes.invariant.place query w budget named stands xs is next in
    let pauses = c.in-Answer.ensures.pauses place.at place.stands c.loop-bytes.invariant.awake in
    let composed = rw (c.as_slice-in-Answer.ensures.value, named) at c.answer-piece.ensures in
    let table = c.ops.result.now in
    let puts = rw (c.in_ok-flow-in-Answer.was, c.in-On.is) at (c.put.ensures.puts c.loop-bytes.within (drop 1 (solution_text table query.names (map term_of c.in-Answer.values.items))) 32 composed) in
    let same = where_ready _ pauses.0.new (λ u. table ≡ u.world.operators) pauses.1 (c.ops.ensures pauses.0.new pauses.0.stands) in
    let put = answer_put _ _ _ query w budget xs _ _ _ next _ _ place table pauses.0 same _ puts in
    let decides = rw c.in_err-decide-in-Answer.was at (c.decide.ensures.decides place.left place.known_left (goes_on _ _ _ query w budget xs _ _ _ next _ _ place pauses.0) (is_dropped _ _ _ query w budget xs _ _ _ next _ _ place pauses.0)) in
    decision_breaks _ _ _ query w budget xs _ _ _ next _ _ place pauses.0 _ _ _ put _ _ c.in_err-decide-in-Answer.field-0.0 c.from_residual-in_err-decide-in-Answer.result c.from_residual-in_err-decide-in-Answer.ensures.1 decides

pub returns-in-Stop-clause-does : goal.returns-in-Stop-clause-does
returns-in-Stop-clause-does g c = λ query w budget named stands xs is next.
    let place = c.loop-bytes.invariant.place query w budget named stands xs is next in
    let pauses = c.in-Answer.ensures.pauses place.at place.stands c.loop-bytes.invariant.awake in
    let composed = rw (c.as_slice-in-Answer.ensures.value, named) at c.answer-piece.ensures in
    let table = c.ops.result.now in
    let puts = rw (c.in_ok-flow-in-Answer.was, c.in-On.is) at (c.put.ensures.puts c.loop-bytes.within (drop 1 (solution_text table query.names (map term_of c.in-Answer.values.items))) 32 composed) in
    let same = where_ready _ pauses.0.new (λ u. table ≡ u.world.operators) pauses.1 (c.ops.ensures pauses.0.new pauses.0.stands) in
    let put = answer_put _ _ _ query w budget xs _ _ _ next _ _ place table pauses.0 same _ puts in
    let decides = rw (c.in_ok-decide-in-Answer.was, c.in-Stop.is) at (c.decide.ensures.decides place.left place.known_left (goes_on _ _ _ query w budget xs _ _ _ next _ _ place pauses.0) (is_dropped _ _ _ query w budget xs _ _ _ next _ _ place pauses.0)) in
    decision_stops _ _ _ query w budget xs _ _ _ next _ _ place pauses.0 _ _ _ put _ decides pauses.1

pub returns-in-Stop-clause-still : goal.returns-in-Stop-clause-still
returns-in-Stop-clause-still g c =
    let first = c.loop-bytes.invariant.stands in
    let pauses = c.in-Answer.ensures.pauses first.0 first.1 c.loop-bytes.invariant.awake in
    record { at = pauses.0.new; stands = pauses.0.stands; ready = pauses.1 }

pub returns-in-NoMemory-clause-does : goal.returns-in-NoMemory-clause-does
returns-in-NoMemory-clause-does g c = λ query w budget named stands xs is next.
    let place = c.loop-bytes.invariant.place query w budget named stands xs is next in
    let pauses = c.in-Answer.ensures.pauses place.at place.stands c.loop-bytes.invariant.awake in
    let composed = rw (c.as_slice-in-Answer.ensures.value, named) at c.answer-piece.ensures in
    let table = c.ops.result.now in
    let puts = rw (c.in_ok-flow-in-Answer.was, c.in-On.is) at (c.put.ensures.puts c.loop-bytes.within (drop 1 (solution_text table query.names (map term_of c.in-Answer.values.items))) 32 composed) in
    let same = where_ready _ pauses.0.new (λ u. table ≡ u.world.operators) pauses.1 (c.ops.ensures pauses.0.new pauses.0.stands) in
    let put = answer_put _ _ _ query w budget xs _ _ _ next _ _ place table pauses.0 same _ puts in
    let decides = rw (c.in_ok-decide-in-Answer.was, c.in-NoMemory.is) at (c.decide.ensures.decides place.left place.known_left (goes_on _ _ _ query w budget xs _ _ _ next _ _ place pauses.0) (is_dropped _ _ _ query w budget xs _ _ _ next _ _ place pauses.0)) in
    decision_memory _ _ _ query w budget xs _ _ _ next _ _ place pauses.0 _ _ (g.R.Read.remaining c.decide.new.input) put _ _ decides pauses.1

pub loop-bytes-preserved : goal.loop-bytes-preserved
loop-bytes-preserved g c =
    let goes = λ (query : ReadTerm) (w : World) (budget : ℕ) (named : names_of c.args.names.now ≡ query.names) (stands : g.E.Engine.stands_for c.args.engine.now (started (query_goal query.term) budget w)) (xs : List ℕ) (is : g.R.Read.remaining c.args.input.now ≡ Some xs) (next : Behind).
    let place = c.loop-bytes.invariant.place query w budget named stands xs is next in
    let pauses = c.in-Answer.ensures.pauses place.at place.stands c.loop-bytes.invariant.awake in
    let composed = rw (c.as_slice-in-Answer.ensures.value, named) at c.answer-piece.ensures in
    let table = c.ops.result.now in
    let puts = rw (c.in_ok-flow-in-Answer.was, c.in-On.is) at (c.put.ensures.puts c.loop-bytes.within (drop 1 (solution_text table query.names (map term_of c.in-Answer.values.items))) 32 composed) in
    let same = where_ready _ pauses.0.new (λ u. table ≡ u.world.operators) pauses.1 (c.ops.ensures pauses.0.new pauses.0.stands) in
    let put = answer_put _ _ _ query w budget xs _ _ _ next _ _ place table pauses.0 same _ puts in
    let decides = rw (c.in_ok-decide-in-Answer.was, c.in-Next.is) at (c.decide.ensures.decides place.left place.known_left (goes_on _ _ _ query w budget xs _ _ _ next _ _ place pauses.0) (is_dropped _ _ _ query w budget xs _ _ _ next _ _ place pauses.0)) in
    decision_goes _ _ _ query w budget xs _ _ _ next _ _ place pauses.0 _ _ _ put decides in
    let first = c.loop-bytes.invariant.stands in
    let pauses = c.in-Answer.ensures.pauses first.0 first.1 c.loop-bytes.invariant.awake in
    record {
      awake = ready_awake _ pauses.1;
      stands = (pauses.0.new, pauses.0.stands);
      limits = keeps_limits-both _ _ _ c.loop-bytes.invariant.limits c.in-Answer.ensures.limits;
      place = goes;
      writer = c.decide.ensures.writer ∙ c.put.ensures.writer ∙ c.loop-bytes.invariant.writer;
    }

pub returns-in_default-clause-does : goal.returns-in_default-clause-does
returns-in_default-clause-does g c = λ query w budget named stands xs is next.
    let place = c.loop-bytes.invariant.place query w budget named stands xs is next in
    let pauses = c.resume.ensures.pauses place.at place.stands c.loop-bytes.invariant.awake in
    query_ends _ _ _ query w budget xs _ _ _ next _ _ place _ _ _ c.end_query.result c.ops-ops.result.now c.ops-ops.ensures c.resume.result pauses (c.resume.ensures.limit place.at place.stands) c.end_query.ensures.ends c.in_default.not-Answer c.in_default.not-Output

pub returns-in_default-clause-still : goal.returns-in_default-clause-still
returns-in_default-clause-still g c =
    let first = c.loop-bytes.invariant.stands in
    let pauses = c.resume.ensures.pauses first.0 first.1 c.loop-bytes.invariant.awake in
    still_ends _ c.args.waits c.loop-bytes.within c.loop-bytes.answered c.ops-ops.result.now _ first.0 c.resume.result (place g.W.Write.contents c.loop-bytes.console) (place g.W.Write.contents c.end_query.new.console) _ pauses c.end_query.ensures.ends c.in_default.not-Answer c.in_default.not-Output
