-- The test of the slot is that of the procedure.
use Rattle.std.proofs.Common.{◌≡◌, ◌∙◌, List, sym, ap, true, is_some}
use Rattle.iso_clauses.specs.declared.slots.Slot.{Slot}
use Rattle.iso_clauses.specs.Slots.{clause_at, procedure_at, is_place}
use Rattle.iso_db.proofs.OwnerLemmas.{place_told, here-shown, elsewhere-shown}
use Rattle.iso_db.proofs.db.Db.has.Goals as goal

pub returns-then-belongs : goal.returns-then-belongs
returns-then-belongs g c =
    let db = c.args.self.now in
    let told : is_place c.args.place (procedure_at {C = g.row.C.Denot} db.slots.items c.args.id) ≡ true =
    ap (λ (ss : List (Slot g.row.C.Denot)). is_place c.args.place (procedure_at ss c.args.id)) (sym c.as_slice-slots.ensures.value) ∙ sym c.belongs.ensures ∙ c.if-belongs.true in
    c.is_given.ensures ∙ ap (λ (ss : List (Slot g.row.C.Denot)). is_some (clause_at ss db.removals c.args.id)) c.as_slice-slots.ensures.value
    ∙ sym (here-shown db.slots.items db.removals db.places db.entries.items c.args.id c.args.place db.kept (place_told c.args.place (procedure_at db.slots.items c.args.id) told))

pub returns-else-belongs : goal.returns-else-belongs
returns-else-belongs g c =
    let db = c.args.self.now in
    c.if-belongs.false ∙ sym (elsewhere-shown db.slots.items db.removals db.places db.entries.items c.args.id c.args.place db.kept
    (ap (λ (ss : List (Slot g.row.C.Denot)). is_place c.args.place (procedure_at ss c.args.id)) (sym c.as_slice-slots.ensures.value) ∙ sym c.belongs.ensures ∙ c.if-belongs.false))
