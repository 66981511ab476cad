-- The kind is that of the heading.
use Rattle.std.proofs.Common.{◌∙◌, sym, arith}
use Rattle.iso_db.proofs.KeptLemmas.{kind-shown}
use Rattle.iso_db.proofs.PlaceLemmas.{shown_within}
use Rattle.iso_db.proofs.db.Db.kind.Goals as goal

pub kind-requires : goal.kind-requires
kind-requires g c =
    let db = c.args.self.now in
    omega (arith, shown_within db.slots.items db.removals db.places db.entries.items c.args.place db.kept.same c.requires, db.kept.same)

pub returns : goal.returns
returns g c =
    let db = c.args.self.now in
    c.kind.ensures ∙ sym (kind-shown db.slots.items db.removals db.places db.entries.items c.args.place db.kept.same)
