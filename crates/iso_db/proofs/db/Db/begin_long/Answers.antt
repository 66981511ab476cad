-- The clauses that the view of parts, or of the whole, gives.
use Rattle.std.proofs.Common.{◌≡◌, ◌∙◌, List, filter, ap, sym, subst, arith, get_or}
use Rattle.iso_clauses.specs.Blocks.{Kept}
use Rattle.iso_clauses.specs.Clauses.{Clause}
use Rattle.iso_clauses.specs.Fits.{fits}
use Rattle.iso_clauses.specs.Kept.{view_now, Giving}
use Rattle.iso_clauses.specs.declared.views.View.{View}
use Rattle.iso_db.specs.Databases.{clauses_at}
use Rattle.iso_db.specs.Presents.{contents, key_in}
use Rattle.iso_db.proofs.BeginLemmas.{procedure_gives}
use Rattle.iso_db.proofs.PlaceLemmas.{shown_within}
use Rattle.iso_db.proofs.db.Db.begin_long.Goals as goal

pub index-entry-requires : goal.index-entry-requires
index-entry-requires g c =
    let db = c.args.self.now in
    omega (arith, shown_within db.slots.items db.removals db.places db.entries.items c.args.place db.kept.same c.requires.place, db.entries.ok.0)

pub returns-then-not-is_short : goal.returns-then-not-is_short
returns-then-not-is_short g c =
    let db = c.args.self.now in
    let cs : List (Clause g.row.C.Denot) = filter (λ c'. fits c.args.key (key_in db c'.number)) (clauses_at (contents db) c.args.place) in
    let gives = c.parts_view.ensures.gives in
    record {
      begins = record {
        is = c.take_first.ensures.first cs gives;
        rest = c.take_first.ensures.rest cs gives;
        stand = c.take_first.ensures.stand cs gives;
        few = omega (arith, c.take_first.ensures.never_rises, c.parts_view.ensures.few);
      };
    }

pub whole_view-requires : goal.whole_view-requires
whole_view-requires g c =
    let db = c.args.self.now in
    let place = c.args.place in
    let entry = c.index-entry.result.now in
    let e : Kept = get_or db.entries.items place entry in
    let within = shown_within db.slots.items db.removals db.places db.entries.items place db.kept.same c.requires.place in
    let is : c.view_of-view.result ≡ view_now place db.removals e = c.view_of-view.ensures ∙ ap (view_now place db.removals) c.index-entry.ensures in
    subst (λ (w : View). Giving db.slots.items db.removals db.entries.items w (clauses_at (contents db) place)) (sym is)
    (procedure_gives db.slots.items db.removals db.places db.entries.items place entry db.kept within)

pub returns : goal.returns
returns g c =
    let db = c.args.self.now in
    let cs : List (Clause g.row.C.Denot) = filter (λ c'. fits c.args.key (key_in db c'.number)) (clauses_at (contents db) c.args.place) in
    let gives = c.whole_view.ensures.gives in
    record {
      begins = record {
        is = c.take_first-2.ensures.first cs gives;
        rest = c.take_first-2.ensures.rest cs gives;
        stand = c.take_first-2.ensures.stand cs gives;
        few = omega (arith, c.take_first-2.ensures.never_rises, c.whole_view.ensures.few);
      };
    }
