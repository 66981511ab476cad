use Rattle.std.proofs.Common.{encode_utf8, ◌≡◌, ◌+◌, ◌-◌, ◌<◌, ◌^◌, ◌∙◌, ℕ, List, length, chars, drop, ap, sym, subst, refl, arith}
use Rattle.std.proofs.lemmas.Str.{chars-nil}
use Rattle.iso_text.specs.Bounds.{text_of}
use Rattle.iso_text.proofs.PlaceLemmas.{IsPlace, first_place, next_place, rest_place, count_after}
use Rattle.iso_text.proofs.SubLemmas.{sub_begin, sub_step, sub_end, places_turned}
use Rattle.iso_text.proofs.sub_atoms.sub_atoms.Goals as goal

pub loop-start-init : goal.loop-start-init
loop-start-init c =
    let text = c.args.text.now in
    let same = c.into_iter-start-iterator.ensures.into_iter_gives in
    let at_begin = ap (λ s. s.at) same ∙ c.char_indices-start-items.ensures.offset in
    let all = ap (λ s. s.rest.now) same ∙ c.char_indices-start-items.ensures.rest in
    let counted = c.count_characters-count.ensures.count in (
      0,
      omega (arith, counted),
      subst (λ (n : ℕ). IsPlace text 0 n c.into_iter-start-iterator.result.rest.now) (sym at_begin) (subst (IsPlace text 0 0) (sym all) (first_place text c.utf8.text)),
      sub_begin text c.args.asked (text_of c.args.part) c.in_ok-kept.kept.items c.in_ok-kept.ensures.items,
    )

pub keep_at-requires-clause-rest : goal.keep_at-requires-clause-rest
keep_at-requires-clause-rest c =
    let text = c.args.text.now in
    let i = c.loop-start.invariant in
    let it = c.loop-start.start-iterator in
    let slice = c.range_from.ensures.value ∙ ap (λ (n : ℕ). drop n text) c.in-Some.ensures.steps.0 ∙ rest_place text i.0 it.at it.rest.now i.2 in
    let left = count_after text i.0 it.at it.rest.now i.2 in
    let counted = i.1 in
    let same : c.loop-start.rest ≡ length (chars it.rest.now) = omega (arith, left, counted) in
    same ∙ ap (λ (bs : List ℕ). length (chars bs)) (sym slice)

pub loop-start-preserved : goal.loop-start-preserved
loop-start-preserved c =
    let text = c.args.text.now in
    let i = c.loop-start.invariant in
    let it = c.loop-start.start-iterator in
    let step = c.in-Some.ensures.steps in
    let next = c.next.new.self in
    let slice = c.range_from.ensures.value ∙ ap (λ (n : ℕ). drop n text) step.0 ∙ rest_place text i.0 it.at it.rest.now i.2 in
    let here = next_place text i.0 it.at it.rest.now next.rest.now c.in-Some.field-0-1 i.2 step.1 in
    let left = count_after text (i.0 + 1) (it.at + length (encode_utf8 c.in-Some.field-0-1)) next.rest.now here in
    let total = c.count_characters-count.ensures.count in
    let small : length (chars text) < 2 ^ 63 = rw (← total) c.count_characters-count.ensures.small in
    let counted = i.1 in
    let before-is : c.count_characters-count.result - c.loop-start.rest ≡ i.0 = omega (arith, total, counted) in
    let rest-is : c.loop-start.rest ≡ length (chars text) - i.0 = omega (arith, counted) in (
      i.0 + 1,
      omega (arith, left, counted),
      subst (λ (n : ℕ). IsPlace text (i.0 + 1) n next.rest.now) (sym step.2) here,
      sub_step text i.0 it.at it.rest.now c.args.asked (text_of c.args.part) c.loop-start.kept.items c.keep_at.new.kept.items
          record { before = c.count_characters-count.result - c.loop-start.rest; start = c.in-Some.start; rest = c.loop-start.rest } c.range_from.result.now i.2 small i.3 before-is step.0 rest-is slice c.in_ok-keep_at.ensures,
    )

pub keep_at-requires-2-clause-rest : goal.keep_at-requires-2-clause-rest
keep_at-requires-2-clause-rest c = sym (ap length chars-nil)

pub returns-clause-offers : goal.returns-clause-offers
returns-clause-offers c = λ t is.
    (let text = c.args.text.now in
    let i = c.loop-start.invariant in
    let it = c.loop-start.start-iterator in
    let total = c.count_characters-count.ensures.count in
    let small : length (chars text) < 2 ^ 63 = rw (← total) c.count_characters-count.ensures.small in
    (sub_end text i.0 it.at it.rest.now c.args.asked (text_of c.args.part) c.loop-start.kept.items c.keep_at-2.new.kept.items c.reverse.new.self.items
    record { before = c.count_characters-count.result; start = length text; rest = 0 } i.2 small i.3 c.in-None.ensures.steps.0 total refl refl c.in_ok-keep_at-2.ensures c.reverse.ensures.items).offers t is)

pub returns-clause-places : goal.returns-clause-places
returns-clause-places c = λ t five is.
    (let text = c.args.text.now in
    let i = c.loop-start.invariant in
    let it = c.loop-start.start-iterator in
    let total = c.count_characters-count.ensures.count in
    let small : length (chars text) < 2 ^ 63 = rw (← total) c.count_characters-count.ensures.small in
    places_turned t c.reverse.new.self.items ((sub_end text i.0 it.at it.rest.now c.args.asked (text_of c.args.part) c.loop-start.kept.items c.keep_at-2.new.kept.items c.reverse.new.self.items
    record { before = c.count_characters-count.result; start = length text; rest = 0 } i.2 small i.3 c.in-None.ensures.steps.0 total refl refl c.in_ok-keep_at-2.ensures c.reverse.ensures.items).places t five is))
