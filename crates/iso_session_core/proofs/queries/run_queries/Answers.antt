use Rattle.std.proofs.Common.{◌∙◌, refl}
use Rattle.iso_model.specs.Syntax.Tokens.{tokens}
use Rattle.iso_session_core.specs.Consoles.{place}
use Rattle.iso_model.specs.Session.Sessions.{Closes, Done, queries_script}
use Rattle.iso_model.specs.Search.Walker.{State}
use Rattle.iso_session_core.proofs.ProgressLemmas.{stops_after, breaks_after, keeps_limits-both}
use Rattle.iso_session_core.proofs.ConsultLemmas.{nothing_found}
use Rattle.iso_session_core.proofs.QueryLemmas.{queries_begin, queries_end, query_found, query_goes}
use Rattle.iso_session_core.proofs.queries.run_queries.Goals as goal

pub loop-next-init : goal.loop-next-init
loop-next-init g c = record {
  ready = c.requires.ready;
  stands = c.requires.stands;
  limits = λ l s m. m;
  place = λ s stands. rw c.new-tokens.ensures.all (queries_begin (g.E.Engine.stands_for c.args.engine.now) s c.args.budget (tokens c.args.queries.now) (place g.W.Write.contents c.args.console.now) stands);
  writer = refl;
}

pub returns-in_default-next-clause-does : goal.returns-in_default-next-clause-does
returns-in_default-next-clause-does g c = λ s stands.
    let place = c.loop-next.invariant.place s stands in
    let none = nothing_found _ _ c.loop-next.tokens c.take_item.new.tokens c.in-Ok.next (c.in-Ok.ensures.item place.at place.stands) c.in_default-next.not-Some in
    queries_end _ _ c.args.budget c.loop-next.tokens _ _ _ place c.loop-next.invariant.ready none

pub returns-in_err-flow-clause-does : goal.returns-in_err-flow-clause-does
returns-in_err-flow-clause-does g c = λ s stands.
    let place = c.loop-next.invariant.place s stands in
    let turn = query_found _ c.args.budget c.loop-next.tokens c.take_item.new.tokens c.in-Ok.next c.in-Some.item _ _ _
    place (c.in-Ok.ensures.item place.at place.stands) c.in-Some.is c.in-Ok.ensures.shorter in
    breaks_after _ _ _ _ _ _ _ _ _ (λ _. Closes Done) c.from_residual.result turn.advances c.from_residual.ensures.0
    (c.in_err-flow.ensures.does turn.at turn.stands (queries_script turn.turns c.args.budget c.take_item.new.tokens))

pub returns-in_default-2-clause-does : goal.returns-in_default-2-clause-does
returns-in_default-2-clause-does g c = λ s stands.
    let place = c.loop-next.invariant.place s stands in
    let turn = query_found _ c.args.budget c.loop-next.tokens c.take_item.new.tokens c.in-Ok.next c.in-Some.item _ _ _
    place (c.in-Ok.ensures.item place.at place.stands) c.in-Some.is c.in-Ok.ensures.shorter in
    let does = rw c.in_ok-flow.was at (c.run_item.ensures.does turn.at turn.stands (queries_script turn.turns c.args.budget c.take_item.new.tokens)) in
    stops_after _ _ _ _ _ _ _ _ _ _ (λ _. Closes Done) c.in_ok-flow.flow turn.advances c.in_default-2.not-On does

pub loop-next-preserved : goal.loop-next-preserved
loop-next-preserved g c =
    let goes = λ (s : State) (stands : g.E.Engine.stands_for c.args.engine.now s).
    let place = c.loop-next.invariant.place s stands in
    let turn = query_found _ c.args.budget c.loop-next.tokens c.take_item.new.tokens c.in-Ok.next c.in-Some.item _ _ _
    place (c.in-Ok.ensures.item place.at place.stands) c.in-Some.is c.in-Ok.ensures.shorter in
    let does = rw (c.in_ok-flow.was, c.in-On.is) at (c.run_item.ensures.does turn.at turn.stands (queries_script turn.turns c.args.budget c.take_item.new.tokens)) in
    query_goes _ _ _ c.args.budget _ c.take_item.new.tokens _ _ _ _ turn does in
    let first = goes c.requires.stands.0 c.requires.stands.1 in
    record {
      ready = first.0;
      stands = (first.1.at, first.1.stands);
      limits = keeps_limits-both _ _ _ c.loop-next.invariant.limits c.run_item.ensures.limits;
      place = λ s stands. (goes s stands).1;
      writer = c.run_item.ensures.writer ∙ c.loop-next.invariant.writer;
    }
