-- Neither the older blocks nor the values of removed clauses are seen.
use Rattle.std.proofs.Common.{◌≡◌, ◌∙◌, ℕ, List, sym, ap, subst, length}
use Rattle.std.proofs.lemmas.List.{length-map}
use Rattle.iso_db.specs.Databases.{Procedure, Database}
use Rattle.iso_clauses.specs.Blocks.{forgotten}
use Rattle.iso_clauses.specs.Slots.{procedure_of}
use Rattle.iso_clauses.specs.Kept.{IsKept}
use Rattle.iso_db.specs.Shown.{shown}
use Rattle.iso_clauses.proofs.ForgetLemmas.{IsKept-forgotten, IsKept-cleaned}
use Rattle.iso_db.proofs.KeptLemmas.{shown-forgotten, shown-cleaned, shown-stand}
use Rattle.std.specs.Option.{option_and_then}
use Rattle.iso_clauses.specs.declared.slots.Label.{Label}
use Rattle.iso_db.specs.Parts.{IsIndexed}
use Rattle.iso_db.proofs.CarryLemmas.{IsIndexed-forgotten}
use Rattle.iso_db.proofs.db.Db.forget_views.Goals as goal

pub invariant_of-self : goal.invariant_of-self
invariant_of-self g c =
    let db = c.args.self.now in
    record {
      kept = IsKept-cleaned procedure_of db.slots.items c.forget_values.new.slots.items db.removals (length db.places) c.forget_blocks.new.entries.items
          (subst (IsKept procedure_of db.slots.items db.removals (length db.places)) (sym c.forget_blocks.ensures) (IsKept-forgotten procedure_of db.slots.items db.removals (length db.places) db.entries.items db.kept)) c.forget_values.ensures;
      indexed = subst (IsIndexed c.forget_values.new.slots.items db.removals db.parts) (sym c.forget_blocks-2.ensures)
          (IsIndexed-forgotten db.slots.items c.forget_values.new.slots.items db.removals db.parts db.lists.items db.indexed c.forget_values.ensures);
    }

pub returns-clause-contents : goal.returns-clause-contents
returns-clause-contents g c =
    let db = c.args.self.now in
    ap (λ (ps : List (Procedure g.row.C.Denot)). let d : Database g.row.C.Denot = record { procedures = ps; added = length c.forget_values.new.slots.items } in d)
    (shown-cleaned db.slots.items c.forget_values.new.slots.items db.removals db.places c.forget_blocks.new.entries.items c.forget_values.ensures
    ∙ ap (shown db.slots.items db.removals db.places) c.forget_blocks.ensures ∙ shown-forgotten db.slots.items db.removals db.places db.entries.items)
    ∙ ap (λ (n : ℕ). let d : Database g.row.C.Denot = record { procedures = shown db.slots.items db.removals db.places db.entries.items; added = n } in d) c.forget_values.ensures.size

pub returns-clause-clauses : goal.returns-clause-clauses
returns-clause-clauses g c =
    let db = c.args.self.now in
    let same : length db.places ≡ length c.forget_blocks.new.entries.items = db.kept.same ∙ sym (ap length c.forget_blocks.ensures ∙ length-map db.entries.items forgotten) in
    λ place k d at. shown-stand c.forget_values.new.slots.items db.removals db.places c.forget_blocks.new.entries.items same place k d at

-- nothing was removed
pub returns-then-self-clause-clauses : goal.returns-then-self-clause-clauses
returns-then-self-clause-clauses g c =
    let db = c.args.self.now in
    λ place k d at. shown-stand db.slots.items db.removals db.places db.entries.items db.kept.same place k d at

pub returns-clause-keys : goal.returns-clause-keys
returns-clause-keys g c =
    λ n. ap (option_and_then (λ (l : Label). l.key)) (c.forget_values.ensures.labels n)
