use Rattle.std.proofs.Common.{◌≡◌, List, ℕ, Some, ◌∙◌, refl}
use Rattle.iso_model.specs.Syntax.Tokens.{tokens}
use Rattle.iso_session_core.specs.Consoles.{place}
use Rattle.iso_session_core.proofs.ProgressLemmas.{keeps_limits-both}
use Rattle.iso_session_core.proofs.ConsultLemmas.{nothing_found}
use Rattle.iso_model.specs.Search.Walker.{State}
use Rattle.iso_toplevel_core.specs.Dialogues.{Behind, queries_shown}
use Rattle.iso_toplevel_core.proofs.PartLemmas.{stops_after, failed_after}
use Rattle.iso_toplevel_core.proofs.QueryLemmas.{queries_begin, queries_end, query_found, query_goes, still_off}
use Rattle.iso_toplevel_core.proofs.queries.run_queries.Goals as goal

pub loop-next-init : goal.loop-next-init
loop-next-init g c = record {
  ready = c.requires.ready;
  stands = c.requires.stands;
  limits = λ l s m. m;
  place = λ s stands xs is next. rw c.new-tokens.ensures.all (queries_begin (g.E.Engine.stands_for c.args.engine.now) c.args.manner.waits c.args.manner.budget s (tokens c.args.queries.now) xs _ (place g.W.Write.contents c.args.console.now) next stands is);
  writer = refl;
}

pub returns-in_default-next-clause-does : goal.returns-in_default-next-clause-does
returns-in_default-next-clause-does g c = λ s stands xs is next.
    let place = c.loop-next.invariant.place s stands xs is next in
    let none = nothing_found _ _ c.loop-next.tokens c.take_item.new.tokens c.in-Ok.next (c.in-Ok.ensures.item place.at place.stands) c.in_default-next.not-Some in
    queries_end _ c.args.manner.waits _ c.args.manner.budget c.loop-next.tokens xs _ _ _ _ next place c.loop-next.invariant.ready none

pub returns-in_err-flow-clause-does : goal.returns-in_err-flow-clause-does
returns-in_err-flow-clause-does g c = λ s stands xs is next.
    let place = c.loop-next.invariant.place s stands xs is next in
    let turn = query_found _ c.args.manner.waits c.args.manner.budget c.loop-next.tokens c.take_item.new.tokens c.in-Ok.next c.in-Some.item xs _ _ _ _ next
    place (c.in-Ok.ensures.item place.at place.stands) c.in-Some.is c.in-Ok.ensures.shorter in
    failed_after _ _ _ _ _ _ _ _ xs _ _ _ next c.in_err-flow.field-0.0 c.from_residual.result turn.advances c.from_residual.ensures.1
    (c.in_err-flow.ensures.does turn.at turn.stands turn.left turn.known_left (λ v later. queries_shown c.args.manner.waits c.args.manner.budget turn.turns c.take_item.new.tokens v later next))

pub returns-in_default-2-clause-does : goal.returns-in_default-2-clause-does
returns-in_default-2-clause-does g c = λ s stands xs is next.
    let place = c.loop-next.invariant.place s stands xs is next in
    let turn = query_found _ c.args.manner.waits c.args.manner.budget c.loop-next.tokens c.take_item.new.tokens c.in-Ok.next c.in-Some.item xs _ _ _ _ next
    place (c.in-Ok.ensures.item place.at place.stands) c.in-Some.is c.in-Ok.ensures.shorter in
    let does = rw c.in_ok-flow.was at (c.run_item.ensures.does turn.at turn.stands turn.left turn.known_left (λ v later. queries_shown c.args.manner.waits c.args.manner.budget turn.turns c.take_item.new.tokens v later next)) in
    stops_after _ _ _ _ _ _ _ _ xs turn.left _ _ _ _ _ next c.in_ok-flow.flow turn.advances c.in_default-2.not-On does

pub returns-in_default-2-clause-still : goal.returns-in_default-2-clause-still
returns-in_default-2-clause-still g c = still_off _ _ c.in_ok-flow.flow c.in_default-2.not-On

pub loop-next-preserved : goal.loop-next-preserved
loop-next-preserved g c =
    let goes = λ (s : State) (stands : g.E.Engine.stands_for c.args.engine.now s) (xs : List ℕ) (is : g.R.Read.remaining c.args.input.now ≡ Some xs) (next : Behind).
    let place = c.loop-next.invariant.place s stands xs is next in
    let turn = query_found _ c.args.manner.waits c.args.manner.budget c.loop-next.tokens c.take_item.new.tokens c.in-Ok.next c.in-Some.item xs _ _ _ _ next
    place (c.in-Ok.ensures.item place.at place.stands) c.in-Some.is c.in-Ok.ensures.shorter in
    let does = rw (c.in_ok-flow.was, c.in-On.is) at (c.run_item.ensures.does turn.at turn.stands turn.left turn.known_left (λ v later. queries_shown c.args.manner.waits c.args.manner.budget turn.turns c.take_item.new.tokens v later next)) in
    query_goes _ _ c.args.manner.waits _ c.args.manner.budget _ c.take_item.new.tokens xs _ _ _ _ _ _ next turn does in
    let still = rw (c.in_ok-flow.was, c.in-On.is) at c.run_item.ensures.still in
    record {
      ready = still.ready;
      stands = (still.at, still.stands);
      limits = keeps_limits-both _ _ _ c.loop-next.invariant.limits c.run_item.ensures.limits;
      place = goes;
      writer = c.run_item.ensures.writer ∙ c.loop-next.invariant.writer;
    }
