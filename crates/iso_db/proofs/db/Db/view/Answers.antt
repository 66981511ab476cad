-- The place is that of a procedure.
use Rattle.std.proofs.Common.{arith}
use Rattle.iso_db.proofs.PlaceLemmas.{shown_within}
use Rattle.iso_db.proofs.db.Db.view.Goals as goal

pub index-requires : goal.index-requires
index-requires g c =
    let db = c.args.self.now in
    omega (arith, shown_within db.slots.items db.removals db.places db.entries.items c.args.place db.kept.same c.requires, db.entries.ok.0)
