-- The view begins with the block as it is.
use Rattle.std.proofs.Common.{◌≡◌, ◌∙◌, sym, ap, subst, arith, not, is_some, get_or}
use Rattle.iso_db.specs.Databases.{clauses_at}
use Rattle.iso_clauses.specs.Blocks.{Kept}
use Rattle.iso_clauses.specs.Kept.{view_now, Giving}
use Rattle.iso_clauses.specs.declared.views.View.{View}
use Rattle.iso_db.specs.Presents.{contents}
use Rattle.iso_db.proofs.BeginLemmas.{procedure_gives}
use Rattle.iso_db.proofs.PlaceLemmas.{shown_within}
use Rattle.iso_db.proofs.db.Db.list_view.Goals as goal

pub index-requires : goal.index-requires
index-requires g c =
    let db = c.args.self.now in
    omega (arith, shown_within db.slots.items db.removals db.places db.entries.items c.args.place db.kept.same c.requires, db.entries.ok.0)

pub returns-then-is_none-clause-there : goal.returns-then-is_none-clause-there
returns-then-is_none-clause-there g c = sym (ap is_some (sym c.kind.ensures) ∙ c.is_none.ensures ∙ ap not c.if-is_none.true)

pub returns-clause-there : goal.returns-clause-there
returns-clause-there g c = sym (ap is_some (sym c.kind.ensures) ∙ c.is_none.ensures ∙ ap not c.if-is_none.false)

pub returns-clause-gives : goal.returns-clause-gives
returns-clause-gives g c =
    let db = c.args.self.now in
    let place = c.args.place in
    let entry = c.index.result.now in
    let e : Kept = get_or db.entries.items place entry in
    let within = shown_within db.slots.items db.removals db.places db.entries.items place db.kept.same c.requires in
    let is : c.view_of.result ≡ view_now place db.removals e = c.view_of.ensures ∙ ap (view_now place db.removals) c.index.ensures in
    subst (λ (w : View). Giving db.slots.items db.removals db.entries.items w (clauses_at (contents db) place)) (sym is)
    (procedure_gives db.slots.items db.removals db.places db.entries.items place entry db.kept within)
