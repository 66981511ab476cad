-- A clause that isn't given, or that the call can't use, is passed over.
use Rattle.std.proofs.Common.{◌≡◌, ◌<◌, ◌≤◌, ◌+◌, ◌-◌, ◌∙◌, ℕ, List, ap, sym, subst, refl, arith, take, drop, drop-drop, get_or, length, Some, true, is_some, option_map}
use Rattle.std.specs.List.{slice_get, All}
use Rattle.std.specs.Option.{option_and_then}
use Rattle.std.proofs.lemmas.List.{length-drop, get_or-drop, take_rest}
use Rattle.std.proofs.lemmas.Option.{slice_get_read}
use Rattle.iso_clauses.specs.Slots.{given, given_by, clause_at, key_at}
use Rattle.iso_clauses.specs.Stepping.{first_number, behind}
use Rattle.iso_clauses.specs.Fits.{fits}
use Rattle.iso_clauses.specs.declared.slots.Label.{Label}
use Rattle.iso_clauses.specs.declared.slots.Slot.{Slot}
use Rattle.iso_clauses.proofs.ViewLemmas.{given-passes, given-steps}
use Rattle.iso_db.specs.Keyed.{usable}
use Rattle.iso_db.specs.Tails.{IsTail}
use Rattle.iso_db.proofs.KeyedLemmas.{usable_passed, usable_taken}
use Rattle.iso_db.proofs.keyed.next_usable.Goals as goal
use Rattle.iso_db.proofs.keyed.next_usable.Goals.{else-gives-via-then-gives+else-fits, else-gives-via-else-gives}

-- the first of the numbers that are left is that of a clause that was added
first_within : (size : ℕ) (numbers rest : List ℕ) (id : ℕ) → All (λ n. n < size) numbers → IsTail numbers rest → 1 ≤ length rest → id ≡ get_or rest 0 id → id < size
first_within size numbers rest id all (k, is, few) some at =
    let inside : k + 0 < length numbers = omega (arith, some, ap length is ∙ length-drop k numbers) in
    subst (λ n. n < size) (sym (at ∙ ap (λ ns. get_or ns 0 id) is ∙ get_or-drop k numbers 0 id)) (all (k + 0) id inside)

-- without their first one they end the numbers, too
tail_behind : (numbers rest : List ℕ) → IsTail numbers rest → 1 ≤ length rest → IsTail numbers (take (length rest - 1) (drop 1 rest))
tail_behind numbers rest (k, is, few) some =
    (k + 1, take_rest rest 1 ∙ ap (drop 1) is ∙ drop-drop 1 k numbers, omega (arith, some, ap length is ∙ length-drop k numbers))

pub index-slot-requires : goal.index-slot-requires
index-slot-requires g c =
    let within : c.id-item.result < length c.args.slots.now.items =
    first_within (length c.args.slots.now.items) c.args.numbers.now c.loop-rest.rest.now c.id-item.result c.requires c.loop-rest.invariant.tail c.in-len1-up.len_at_least c.id-item.is in
    omega (arith, within, c.number.ensures, c.args.slots.now.ok.0)

pub returns-then-fits : goal.returns-then-fits
returns-then-fits g c =
    let slots = c.args.slots.now.items in
    let key = c.args.key in
    let made = c.args.removals.now in
    let rest = c.loop-rest.rest.now in
    let id = c.id-item.result in
    let slot = c.index-slot.result.now in
    let some = c.in-len1-up.len_at_least in
    let within : id < length slots = first_within (length slots) c.args.numbers.now rest id c.requires c.loop-rest.invariant.tail some c.id-item.is in
    let here : slice_get slots id ≡ Some slot =
    slice_get_read slots (length slots) id slot refl within (c.index-slot.ensures ∙ ap (λ k. get_or slots k slot) c.number.ensures) in
    let there : is_some (clause_at slots made id) ≡ true = ap (λ o. is_some (option_and_then (given_by made id) o)) here ∙ sym (c.gives.ensures id) ∙ c.if-gives.true in
    let fit : fits key (key_at slots id) ≡ true =
    ap (λ o. fits key (option_and_then (λ (l : Label). l.key) (option_map (λ (s : Slot g.row.C.Denot). s.label) o))) here ∙ sym c.fits.ensures ∙ c.if-fits.true in
    let steps = given-steps slots made rest 0 id some c.id-item.is there in
    let taken = usable_taken slots key id (given slots made rest) steps.0 fit in
    record {
      steps = (
        taken.0 ∙ ap first_number c.loop-rest.invariant.left,
        ap (λ ns. usable slots key (given slots made ns)) (take_rest rest 1) ∙ ap (usable slots key) steps.1 ∙ taken.1 ∙ ap behind c.loop-rest.invariant.left,
      );
      behind = tail_behind c.args.numbers.now rest c.loop-rest.invariant.tail some;
    }

pub loop-rest-preserved : goal.loop-rest-preserved
loop-rest-preserved g c =
    let slots = c.args.slots.now.items in
    let key = c.args.key in
    let made = c.args.removals.now in
    let rest = c.loop-rest.rest.now in
    let id = c.id-item.result in
    let slot = c.index-slot.result.now in
    let some = c.in-len1-up.len_at_least in
    let within : id < length slots = first_within (length slots) c.args.numbers.now rest id c.requires c.loop-rest.invariant.tail some c.id-item.is in
    let here : slice_get slots id ≡ Some slot =
    slice_get_read slots (length slots) id slot refl within (c.index-slot.ensures ∙ ap (λ k. get_or slots k slot) c.number.ensures) in
    let clause = ap (λ o. is_some (option_and_then (given_by made id) o)) here in
    let keyed = ap (λ o. fits key (option_and_then (λ (l : Label). l.key) (option_map (λ (s : Slot g.row.C.Denot). s.label) o))) here in
    let others = ap (λ ns. usable slots key (given slots made ns)) (take_rest rest 1) in
    record {
      tail = tail_behind c.args.numbers.now rest c.loop-rest.invariant.tail some;
      left = others ∙ elim c.else-gives.branch [
        | else-gives-via-then-gives+else-fits w ↦ (
            let steps = given-steps slots made rest 0 id some c.id-item.is (clause ∙ sym (c.gives.ensures id) ∙ w.if-gives.true) in
            ap (usable slots key) steps.1 ∙ usable_passed slots key id (given slots made rest) steps.0 (keyed ∙ sym w.fits.ensures ∙ w.if-fits.false) ∙ c.loop-rest.invariant.left)
        | else-gives-via-else-gives w ↦
            ap (usable slots key) (given-passes slots made rest 0 id some c.id-item.is (clause ∙ sym (c.gives.ensures id) ∙ w.if-gives.false)) ∙ c.loop-rest.invariant.left
      ];
    }
