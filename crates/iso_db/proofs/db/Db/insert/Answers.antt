-- The clause comes into a slot, its number into the blocks of its procedure and of its part.
use Rattle.std.proofs.Common.{◌≡◌, ◌+◌, ◌∷◌, [], ◌++◌, ◌∙◌, ℕ, List, Some, refl, sym, ap, subst, length, unwrap_or, arith}
use Rattle.std.proofs.lemmas.List.{length-append}
use Rattle.std.proofs.lemmas.Option.{slice_get_within}
use Rattle.iso_db.specs.Databases.{Procedure, Database, with_clause}
use Rattle.iso_clauses.specs.Sides.{put_at_side}
use Rattle.iso_clauses.specs.Blocks.{Kept}
use Rattle.iso_db.specs.Keys.{Heading, at_heading}
use Rattle.iso_clauses.specs.Slots.{value_at, key_at, procedure_of}
use Rattle.iso_db.specs.Shown.{shown}
use Rattle.iso_clauses.specs.Kept.{IsKept}
use Rattle.iso_db.specs.Presents.{contents}
use Rattle.iso_db.specs.declared.kinds.Kind.{Kind}
use Rattle.iso_db.specs.declared.parts.Part.{Part}
use Rattle.iso_clauses.specs.declared.slots.Label.{Label}
use Rattle.iso_clauses.specs.declared.slots.Slot.{Slot}
use Rattle.iso_db.proofs.KeptLemmas.{length-at_heading, shown-add}
use Rattle.iso_db.proofs.PlaceLemmas.{shown_within}
use Rattle.iso_clauses.proofs.AddLemmas.{new_slot, value_at-new}
use Rattle.iso_db.proofs.CarryLemmas.{inserted, not_inserted, either_inserted, key_added, index_kept, IsIndexed-opened}
use Rattle.iso_db.proofs.db.Db.insert.Goals as goal

pub open_part-requires : goal.open_part-requires
open_part-requires g c = c.args.self.now.indexed.kept.same

pub add-requires-clause-place : goal.add-requires-clause-place
add-requires-clause-place g c =
    let db = c.args.self.now in
    shown_within db.slots.items db.removals db.places db.entries.items c.args.place db.kept.same c.requires

pub add-requires-clause-part : goal.add-requires-clause-part
add-requires-clause-part g c =
    let db = c.args.self.now in
    let part : Part = record { place = c.args.place; key = c.args.key } in
    let now = IsIndexed-opened db.slots.items db.removals part db.parts db.lists.items c.open_part.new.parts c.open_part.new.lists.items db.indexed c.open_part.ensures.opens in
    omega (arith, slice_get_within c.open_part.new.parts c.in_ok-part.part part c.in_ok-part.ensures.number, now.kept.same)

pub invariant_of-self : goal.invariant_of-self
invariant_of-self g c =
    let db = c.args.self.now in
    let part : Part = record { place = c.args.place; key = c.args.key } in
    let done = not_inserted db.slots.items db.removals (length db.places) db.entries.items db.parts db.lists.items c.open_part.new.parts c.open_part.new.lists.items db.slots.items db.entries.items c.open_part.new.lists.items part db.kept db.indexed c.open_part.ensures.opens refl refl refl in
    record { kept = done.kept; indexed = done.indexed }

pub returns-in_err-part-clause-index : goal.returns-in_err-part-clause-index
returns-in_err-part-clause-index g c =
    let db = c.args.self.now in
    let part : Part = record { place = c.args.place; key = c.args.key } in
    let done = not_inserted db.slots.items db.removals (length db.places) db.entries.items db.parts db.lists.items c.open_part.new.parts c.open_part.new.lists.items db.slots.items db.entries.items c.open_part.new.lists.items part db.kept db.indexed c.open_part.ensures.opens refl refl refl in
    index_kept _ _ done.carries

pub returns-in_err-id-clause-index : goal.returns-in_err-id-clause-index
returns-in_err-id-clause-index g c =
    let db = c.args.self.now in
    let part : Part = record { place = c.args.place; key = c.args.key } in
    let done = not_inserted db.slots.items db.removals (length db.places) db.entries.items db.parts db.lists.items c.open_part.new.parts c.open_part.new.lists.items c.add.new.slots.items c.add.new.entries.items c.add.new.lists.items part db.kept db.indexed c.open_part.ensures.opens c.in_err-id.ensures.slots_stay c.in_err-id.ensures.entries_stay c.in_err-id.ensures.lists_stay in
    index_kept _ _ done.carries

pub invariant_of-self-in-Break-branch-2 : goal.invariant_of-self-in-Break-branch-2
invariant_of-self-in-Break-branch-2 g c =
    let db = c.args.self.now in
    let label : Label = record { procedure = c.args.place; part = c.in_ok-part.part; side = c.args.side; key = c.args.key } in
    let within = shown_within db.slots.items db.removals db.places db.entries.items c.args.place db.kept.same c.requires in
    let done = either_inserted c.add.result db.slots.items db.removals (length db.places) db.entries.items db.parts db.lists.items c.open_part.new.parts c.open_part.new.lists.items c.add.new.slots.items c.add.new.entries.items c.add.new.lists.items c.args.clause label db.kept db.indexed c.open_part.ensures.opens c.in_ok-part.ensures.number within c.add.ensures.slots c.add.ensures.entries c.add.ensures.lists c.add.ensures.slots_stay c.add.ensures.entries_stay c.add.ensures.lists_stay in
    record { kept = done.kept; indexed = done.indexed }

pub make_present-requires : goal.make_present-requires
make_present-requires g c =
    let db = c.args.self.now in
    omega (arith, shown_within db.slots.items db.removals db.places db.entries.items c.args.place db.kept.same c.requires, db.kept.same)

-- a heading with this kind, where it had none
abbrev present : Kind → Heading → Heading
present kind h = record h { kind = Some (unwrap_or h.kind kind) }

pub invariant_of-self-2 : goal.invariant_of-self-2
invariant_of-self-2 g c =
    let db = c.args.self.now in
    let label : Label = record { procedure = c.args.place; part = c.in_ok-part.part; side = c.args.side; key = c.args.key } in
    let within = shown_within db.slots.items db.removals db.places db.entries.items c.args.place db.kept.same c.requires in
    let done = inserted db.slots.items db.removals (length db.places) db.entries.items db.parts db.lists.items c.open_part.new.parts c.open_part.new.lists.items c.add.new.slots.items c.add.new.entries.items c.add.new.lists.items c.args.clause label db.kept db.indexed c.open_part.ensures.opens c.in_ok-part.ensures.number within c.in_ok-id.ensures.slots c.in_ok-id.ensures.entries c.in_ok-id.ensures.lists in
    record {
      kept = subst (λ n. IsKept procedure_of c.add.new.slots.items db.removals n c.add.new.entries.items) (sym (ap length c.make_present.ensures ∙ length-at_heading db.places c.args.place (present c.args.kind))) done.kept;
      indexed = done.indexed;
    }

pub returns-clause-index : goal.returns-clause-index
returns-clause-index g c =
    let db = c.args.self.now in
    let label : Label = record { procedure = c.args.place; part = c.in_ok-part.part; side = c.args.side; key = c.args.key } in
    let within = shown_within db.slots.items db.removals db.places db.entries.items c.args.place db.kept.same c.requires in
    let done = inserted db.slots.items db.removals (length db.places) db.entries.items db.parts db.lists.items c.open_part.new.parts c.open_part.new.lists.items c.add.new.slots.items c.add.new.entries.items c.add.new.lists.items c.args.clause label db.kept db.indexed c.open_part.ensures.opens c.in_ok-part.ensures.number within c.in_ok-id.ensures.slots c.in_ok-id.ensures.entries c.in_ok-id.ensures.lists in
    index_kept _ _ done.carries

pub returns-clause-clauses : goal.returns-clause-clauses
returns-clause-clauses g c =
    let db = c.args.self.now in
    let label : Label = record { procedure = c.args.place; part = c.in_ok-part.part; side = c.args.side; key = c.args.key } in
    let within = shown_within db.slots.items db.removals db.places db.entries.items c.args.place db.kept.same c.requires in
    let done = inserted db.slots.items db.removals (length db.places) db.entries.items db.parts db.lists.items c.open_part.new.parts c.open_part.new.lists.items c.add.new.slots.items c.add.new.entries.items c.add.new.lists.items c.args.clause label db.kept db.indexed c.open_part.ensures.opens c.in_ok-part.ensures.number within c.in_ok-id.ensures.slots c.in_ok-id.ensures.entries c.in_ok-id.ensures.lists in
    done.carries.values

pub returns-clause-key : goal.returns-clause-key
returns-clause-key g c =
    let db = c.args.self.now in
    let label : Label = record { procedure = c.args.place; part = c.in_ok-part.part; side = c.args.side; key = c.args.key } in
    let part : Part = record { place = c.args.place; key = c.args.key } in
    ap (λ (ss : List (Slot g.row.C.Denot)). key_at ss c.in_ok-id.id) c.in_ok-id.ensures.slots
    ∙ ap (key_at (db.slots.items ++ new_slot c.args.clause label ∷ [])) c.in_ok-id.ensures.number
    ∙ key_added db.slots.items c.args.clause label

pub returns-clause-stands : goal.returns-clause-stands
returns-clause-stands g c =
    let db = c.args.self.now in
    let label : Label = record { procedure = c.args.place; part = c.in_ok-part.part; side = c.args.side; key = c.args.key } in
    ap (λ (ss : List (Slot g.row.C.Denot)). value_at ss c.in_ok-id.id) c.in_ok-id.ensures.slots
    ∙ ap (value_at (db.slots.items ++ new_slot c.args.clause label ∷ [])) c.in_ok-id.ensures.number
    ∙ value_at-new db.slots.items c.args.clause label

pub returns-clause-contents : goal.returns-clause-contents
returns-clause-contents g c =
    let db = c.args.self.now in
    let label : Label = record { procedure = c.args.place; part = c.in_ok-part.part; side = c.args.side; key = c.args.key } in
    let within = shown_within db.slots.items db.removals db.places db.entries.items c.args.place db.kept.same c.requires in
    let new : Slot g.row.C.Denot = new_slot c.args.clause label in
    let titles = at_heading c.args.place (present c.args.kind) db.places in
    let ps = shown-add db.slots.items db.removals db.places db.entries.items c.args.place c.args.clause c.args.side label c.args.kind db.kept within in
    let size : length c.add.new.slots.items ≡ length db.slots.items + 1 = ap length c.in_ok-id.ensures.slots ∙ length-append db.slots.items (new ∷ []) in
    ap (λ (hs : List Heading). let d : Database g.row.C.Denot = record { procedures = shown c.add.new.slots.items db.removals hs c.add.new.entries.items; added = length c.add.new.slots.items } in d) c.make_present.ensures
    ∙ ap (λ (ss : List (Slot g.row.C.Denot)). let d : Database g.row.C.Denot = record { procedures = shown ss db.removals titles c.add.new.entries.items; added = length c.add.new.slots.items } in d) c.in_ok-id.ensures.slots
    ∙ ap (λ (es : List Kept). let d : Database g.row.C.Denot = record { procedures = shown (db.slots.items ++ new ∷ []) db.removals titles es; added = length c.add.new.slots.items } in d) c.in_ok-id.ensures.entries
    ∙ ap (λ (qs : List (Procedure g.row.C.Denot)). let d : Database g.row.C.Denot = record { procedures = qs; added = length c.add.new.slots.items } in d) ps
    ∙ ap (λ (n : ℕ). let d : Database g.row.C.Denot = record { procedures = (with_clause (put_at_side c.args.side) c.args.kind c.args.place c.args.clause (contents db)).procedures; added = n } in d) size
