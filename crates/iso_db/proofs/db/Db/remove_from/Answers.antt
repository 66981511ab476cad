-- The clause is removed where its slot's procedure is this one.
use Rattle.std.proofs.Common.{◌≡◌, ◌∙◌, List, sym, ap, true, false, length}
use Rattle.iso_db.specs.Databases.{Procedure, Database}
use Rattle.iso_db.specs.Shown.{shown}
use Rattle.iso_clauses.specs.declared.slots.Slot.{Slot}
use Rattle.iso_clauses.specs.Slots.{procedure_at, is_place}
use Rattle.iso_db.proofs.OwnerLemmas.{elsewhere-shown, has_shown-at, at_place-without, map-at_place, only-shown}
use Rattle.iso_db.proofs.db.Db.remove_from.Given.{Over}
use Rattle.iso_db.proofs.db.Db.remove_from.Goals as goal

away : (g : Over) (c : goal.Then-not-belongs g) → is_place c.args.place (procedure_at {C = g.row.C.Denot} c.args.self.now.slots.items c.args.id) ≡ false
away g c = ap (λ (ss : List (Slot g.row.C.Denot)). is_place c.args.place (procedure_at ss c.args.id)) (sym c.as_slice.ensures.value) ∙ sym c.belongs.ensures ∙ c.if-not-belongs.true

told : (g : Over) (c : goal.After-remove g) → is_place c.args.place (procedure_at {C = g.row.C.Denot} c.args.self.now.slots.items c.args.id) ≡ true
told g c = ap (λ (ss : List (Slot g.row.C.Denot)). is_place c.args.place (procedure_at ss c.args.id)) (sym c.as_slice.ensures.value) ∙ sym c.belongs.ensures ∙ c.if-not-belongs.false

pub returns-then-not-belongs-clause-removed : goal.returns-then-not-belongs-clause-removed
returns-then-not-belongs-clause-removed g c =
    let db = c.args.self.now in
    sym (elsewhere-shown db.slots.items db.removals db.places db.entries.items c.args.id c.args.place db.kept (away g c))

pub returns-then-not-belongs-clause-contents : goal.returns-then-not-belongs-clause-contents
returns-then-not-belongs-clause-contents g c =
    let db = c.args.self.now in
    ap (λ (ps : List (Procedure g.row.C.Denot)). let d : Database g.row.C.Denot = record { procedures = ps; added = length db.slots.items } in d)
    (sym (at_place-without c.args.id c.args.place (shown db.slots.items db.removals db.places db.entries.items)
    (elsewhere-shown db.slots.items db.removals db.places db.entries.items c.args.id c.args.place db.kept (away g c))))

pub returns-clause-removed : goal.returns-clause-removed
returns-clause-removed g c =
    let db = c.args.self.now in
    c.remove.ensures.removed ∙ has_shown-at db.slots.items db.removals db.places db.entries.items c.args.id c.args.place db.kept (told g c)

pub returns-clause-contents : goal.returns-clause-contents
returns-clause-contents g c =
    let db = c.args.self.now in
    c.remove.ensures.contents
    ∙ ap (λ (ps : List (Procedure g.row.C.Denot)). let d : Database g.row.C.Denot = record { procedures = ps; added = length db.slots.items } in d)
    (map-at_place c.args.id c.args.place (shown db.slots.items db.removals db.places db.entries.items)
    (only-shown db.slots.items db.removals db.places db.entries.items c.args.id c.args.place db.kept (told g c)))
