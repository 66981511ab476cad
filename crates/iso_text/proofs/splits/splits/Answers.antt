use Rattle.std.proofs.Common.{◌+◌, ◌∙◌, ap, sym, subst, ℕ}
use Rattle.iso_text.proofs.PlaceLemmas.{IsPlace, first_place, next_place}
use Rattle.iso_text.proofs.SplitLemmas.{splits_begin, splits_go_on, splits_end}
use Rattle.iso_text.proofs.splits.splits.Goals as goal

pub loop-place-init : goal.loop-place-init
loop-place-init c =
    let text = c.args.text.now in
    let same = c.into_iter-place-iterator.ensures.into_iter_gives in
    let at_begin = ap (λ s. s.at) same ∙ c.char_indices-place-items.ensures.offset in
    let all = ap (λ s. s.rest.now) same ∙ c.char_indices-place-items.ensures.rest in (
      0,
      subst (λ (n : ℕ). IsPlace text 0 n c.into_iter-place-iterator.result.rest.now) (sym at_begin) (subst (IsPlace text 0 0) (sym all) (first_place text c.utf8.text)),
      splits_begin text c.in_ok-kept.kept.items c.in_ok-kept.ensures.items,
    )

pub loop-place-preserved : goal.loop-place-preserved
loop-place-preserved c =
    let text = c.args.text.now in
    let i = c.loop-place.invariant in
    let it = c.loop-place.place-iterator in
    let step = c.in-Some.ensures.steps in
    let next = c.next.new.self in (
      i.0 + 1,
      subst (λ (n : ℕ). IsPlace text (i.0 + 1) n next.rest.now) (sym step.2) (next_place text i.0 it.at it.rest.now next.rest.now c.in-Some.field-0-1 i.1 step.1),
      splits_go_on text i.0 it.at it.rest.now c.loop-place.kept.items c.push.new.self.items c.in-Some.place i.1 i.2 step.0 c.in_ok-push.ensures.items,
    )

pub returns-clause-offers : goal.returns-clause-offers
returns-clause-offers c =
    let i = c.loop-place.invariant in
    let it = c.loop-place.place-iterator in
    splits_end c.args.text.now i.0 it.at it.rest.now c.loop-place.kept.items c.push-2.new.self.items c.reverse.new.self.items i.1 i.2 c.in-None.ensures.steps.0 c.in_ok-push-2.ensures.items c.reverse.ensures.items
