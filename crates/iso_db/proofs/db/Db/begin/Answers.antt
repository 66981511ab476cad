-- The list of the procedure is there.
use Rattle.std.proofs.Common.{◌≡◌, ◌∙◌, ◌<◌, ℕ, List, Some, length, sym, ap, arith, get_or}
use Rattle.std.specs.List.{slice_get}
use Rattle.std.proofs.lemmas.Option.{slice_get-get_or, same_Some}
use Rattle.iso_clauses.specs.Blocks.{Kept}
use Rattle.iso_db.proofs.PlaceLemmas.{shown_within}
use Rattle.iso_db.proofs.db.Db.begin.Goals as goal

pub index-requires : goal.index-requires
index-requires g c =
    let db = c.args.self.now in
    omega (arith, shown_within db.slots.items db.removals db.places db.entries.items c.args.place db.kept.same c.requires.place, db.entries.ok.0)

-- the list of the procedure
listed : (entries : List Kept) (place : ℕ) (e d k : Kept) → place < length entries → slice_get entries place ≡ Some e → k ≡ get_or entries place d → k ≡ e
listed entries place e d k within at is = is ∙ same_Some _ e (sym (slice_get-get_or entries place d within) ∙ at)

pub begin_short-requires-clause-at_end : goal.begin_short-requires-clause-at_end
begin_short-requires-clause-at_end g c = λ e at.
    let db = c.args.self.now in
    let place = c.args.place in
    let entry = c.index.result.now in
    let within = shown_within db.slots.items db.removals db.places db.entries.items place db.kept.same c.requires.place in
    ap (λ (x : Kept). x.current.front) (sym (listed db.entries.items place e entry entry within at c.index.ensures)) ∙ c.in-Some.ensures.1

pub begin_short-requires-clause-numbers : goal.begin_short-requires-clause-numbers
begin_short-requires-clause-numbers g c = λ e at.
    let db = c.args.self.now in
    let place = c.args.place in
    let entry = c.index.result.now in
    let within = shown_within db.slots.items db.removals db.places db.entries.items place db.kept.same c.requires.place in
    c.in-Some.ensures.0 ∙ ap (λ (x : Kept). x.current.back) (listed db.entries.items place e entry entry within at c.index.ensures)
