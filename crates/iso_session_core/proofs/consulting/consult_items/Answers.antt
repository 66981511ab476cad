use Rattle.std.proofs.Common.{ℕ, ◌+◌, ◌∙◌, [], refl}
use Rattle.iso_model.specs.Syntax.Tokens.{tokens}
use Rattle.iso_session_core.specs.Consoles.{place}
use Rattle.iso_model.specs.Session.Sessions.{Closes, Done, text_script}
use Rattle.iso_model.specs.Search.Walker.{State}
use Rattle.iso_session_core.proofs.ProgressLemmas.{keeps_limits-both}
use Rattle.iso_session_core.proofs.ConsultLemmas.{Behind, text_begins, text_ends, text_stops, text_found, text_goes, text_stops_after, text_breaks_after, nothing_found}
use Rattle.iso_session_core.proofs.consulting.consult_items.Goals as goal

pub loop-next-init : goal.loop-next-init
loop-next-init g c = record {
  ready = c.requires.ready;
  stands = c.requires.stands;
  limits = λ l s m. m;
  place = λ s stands next. rw c.new-tokens.ensures.all
      (text_begins (g.E.Engine.stands_for c.args.engine.now) c.args.budget c.args.kept.now.items s (tokens c.args.text.now) (place g.W.Write.contents c.args.console.now) next stands c.requires.none);
  writer = refl;
}

pub returns-in_default-clause-does : goal.returns-in_default-clause-does
returns-in_default-clause-does g c = λ s stands next.
    text_stops _ _ _ c.args.budget _ c.loop-next.number c.loop-next.tokens _ _ _ next (c.loop-next.invariant.place s stands next) c.loop-next.invariant.ready

pub returns-in_default-next-clause-does : goal.returns-in_default-next-clause-does
returns-in_default-next-clause-does g c = λ s stands next.
    let place = c.loop-next.invariant.place s stands next in
    let none = nothing_found _ _ c.loop-next.tokens c.take_item.new.tokens c.in-Ok.next (c.in-Ok.ensures.item place.at place.stands) c.in_default-next.not-Some in
    text_ends _ (λ l s. Unit {0}) _ c.args.budget _ c.loop-next.number c.loop-next.tokens _ _ _ next place c.loop-next.invariant.ready none

pub returns-in_err-flow-clause-does : goal.returns-in_err-flow-clause-does
returns-in_err-flow-clause-does g c = λ s stands next.
    let place = c.loop-next.invariant.place s stands next in
    let turn = text_found _ c.args.budget _ c.loop-next.number c.saturating_add-number.result c.loop-next.tokens c.take_item.new.tokens c.in-Ok.next c.in-Some.item _ _ _ next
    place (c.in-Ok.ensures.item place.at place.stands) c.in-Some.is c.in-Ok.ensures.shorter c.saturating_add-number.ensures in
    let behind : Behind = λ later v. text_script c.args.budget turn.turns (turn.k + 1) c.take_item.new.tokens v later next in
    text_breaks_after _ _ _ _ _ _ _ _ _ _ next c.from_residual.result turn.advances c.from_residual.ensures.0
    (c.in_err-flow.ensures.does turn.at turn.stands turn.k turn.counts turn.goals turn.are behind)

pub returns-in_default-2-clause-does : goal.returns-in_default-2-clause-does
returns-in_default-2-clause-does g c = λ s stands next.
    let place = c.loop-next.invariant.place s stands next in
    let turn = text_found _ c.args.budget _ c.loop-next.number c.saturating_add-number.result c.loop-next.tokens c.take_item.new.tokens c.in-Ok.next c.in-Some.item _ _ _ next
    place (c.in-Ok.ensures.item place.at place.stands) c.in-Some.is c.in-Ok.ensures.shorter c.saturating_add-number.ensures in
    let behind : Behind = λ later v. text_script c.args.budget turn.turns (turn.k + 1) c.take_item.new.tokens v later next in
    let does = rw c.in_ok-flow.was at (c.consult_item.ensures.does turn.at turn.stands turn.k turn.counts turn.goals turn.are behind) in
    text_stops_after _ _ _ _ _ _ _ _ _ _ behind next c.in_ok-flow.flow turn.advances c.in_default-2.not-On does

pub loop-next-preserved : goal.loop-next-preserved
loop-next-preserved g c =
    let goes = λ (s : State) (stands : g.E.Engine.stands_for c.args.engine.now s) (next : Behind).
    let place = c.loop-next.invariant.place s stands next in
    let turn = text_found _ c.args.budget _ c.loop-next.number c.saturating_add-number.result c.loop-next.tokens c.take_item.new.tokens c.in-Ok.next c.in-Some.item _ _ _ next
    place (c.in-Ok.ensures.item place.at place.stands) c.in-Some.is c.in-Ok.ensures.shorter c.saturating_add-number.ensures in
    let behind : Behind = λ later v. text_script c.args.budget turn.turns (turn.k + 1) c.take_item.new.tokens v later next in
    let does = rw (c.in_ok-flow.was, c.in-On.is) at (c.consult_item.ensures.does turn.at turn.stands turn.k turn.counts turn.goals turn.are behind) in
    text_goes _ _ (λ l s. Unit {0}) _ c.args.budget _ _ c.saturating_add-number.result _ c.take_item.new.tokens _ _ _ _ next turn does in
    let first = goes c.requires.stands.0 c.requires.stands.1 (λ goals w. Closes Done) in
    record {
      ready = first.0;
      stands = (first.1.at, first.1.stands);
      limits = keeps_limits-both _ _ _ c.loop-next.invariant.limits c.consult_item.ensures.limits;
      place = λ s stands next. (goes s stands next).1;
      writer = c.consult_item.ensures.writer ∙ c.loop-next.invariant.writer;
    }
