-- One slot after another is emptied, if its clause was removed.
use Rattle.std.proofs.Common.{◌≡◌, ◌<◌, ◌∙◌, ap, sym, subst, length, set, arith, Some}
use Rattle.std.specs.List.{slice_get}
use Rattle.std.proofs.lemmas.Option.{slice_get-get_or}
use Rattle.iso_clauses.specs.declared.slots.Slot.{Slot}
use Rattle.iso_clauses.specs.Slots.{Cleans}
use Rattle.iso_clauses.proofs.ForgetLemmas.{Cleans-cleaned}
use Rattle.iso_clauses.proofs.tidying.forget_values.Goals as goal

pub loop-place-preserved : goal.loop-place-preserved
loop-place-preserved g c =
    let slots = c.loop-place.slots.items in
    let k = c.loop-place.place in
    let s = c.index_mut.result.now in
    let within : k < length slots = omega (arith, c.loop-place-test.true, c.len-place-end.ensures, c.loop-place.invariant.size, c.args.slots.now.ok.0) in
    let at : slice_get slots k ≡ Some s = slice_get-get_or slots k s within ∙ ap Some (sym c.index_mut.ensures.value) in
    subst (λ (t : Slot g.row.C.Denot). Cleans c.args.slots.now.items (set slots k t) c.args.removals) (sym c.forget_value.ensures)
    (Cleans-cleaned c.args.slots.now.items slots c.args.removals k s at within c.index_mut.ensures.value c.loop-place.invariant)
