-- The slot of the clause is marked.
use Rattle.std.proofs.Common.{◌≡◌, ◌<◌, ◌+◌, sym, ap, ◌∙◌, subst, true, Some, None, List, length, is_some, set}
use Rattle.std.specs.List.{slice_get}
use Rattle.std.proofs.lemmas.Option.{slice_get-get_or}
use Rattle.iso_clauses.specs.Slots.{clause_at, Removes}
use Rattle.iso_clauses.specs.declared.slots.Slot.{Slot}
use Rattle.iso_clauses.proofs.SlotLemmas.{killed, given_there, given_alive, Removes-killed, IsCounted-killed}
use Rattle.iso_clauses.proofs.slots.kill.Given.{Over}
use Rattle.iso_clauses.proofs.slots.kill.Goals as goal

given : (g : Over) (c : goal.After-slots-1 g) → is_some (clause_at {C = g.row.C.Denot} c.args.slots.now.items c.args.removals.now c.number.result) ≡ true
given g c =
    ap (λ n. is_some (clause_at {C = g.row.C.Denot} c.args.slots.now.items c.args.removals.now n)) c.number.ensures
    ∙ ap (λ (ss : List (Slot g.row.C.Denot)). is_some (clause_at ss c.args.removals.now c.args.id)) (sym c.as_slice.ensures.value)
    ∙ sym c.is_given.ensures ∙ c.if-not-is_given.false

within : (g : Over) (c : goal.After-slots-1 g) → c.number.result < length c.args.slots.now.items
within g c = given_there c.args.slots.now.items c.args.removals.now c.number.result (given g c)

at : (g : Over) (c : goal.After-slots-1 g) → slice_get c.args.slots.now.items c.number.result ≡ Some c.index_mut.result.now
at g c = slice_get-get_or c.args.slots.now.items c.number.result c.index_mut.result.now (within g c) ∙ ap Some (sym c.index_mut.ensures.value)

alive : (g : Over) (c : goal.After-slots-1 g) → c.index_mut.result.now.died ≡ None
alive g c = given_alive c.args.slots.now.items c.args.removals.now c.number.result c.index_mut.result.now c.requires (at g c) (given g c)

pub returns-clause-removes : goal.returns-clause-removes
returns-clause-removes g c =
    let slots = c.args.slots.now.items in
    let r = c.args.removals.now in
    let s = c.index_mut.result.now in
    subst (λ n. Removes n slots r (set slots c.number.result (killed r s)) (r + 1)) c.number.ensures
    (Removes-killed slots r c.number.result s (at g c) (within g c) c.requires (alive g c))

pub returns-clause-counted : goal.returns-clause-counted
returns-clause-counted g c =
    IsCounted-killed c.args.slots.now.items c.args.removals.now c.number.result c.index_mut.result.now (at g c) (within g c) c.requires (alive g c)
