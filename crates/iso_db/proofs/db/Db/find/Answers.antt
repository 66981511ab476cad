-- The keys that are shown are those of the places.
use Rattle.std.proofs.Common.{◌∙◌, sym}
use Rattle.iso_db.proofs.PlaceLemmas.{place_in-shown}
use Rattle.iso_db.proofs.db.Db.find.Goals as goal

pub returns : goal.returns
returns g c =
    let db = c.args.self.now in
    c.find.ensures ∙ sym (place_in-shown db.slots.items db.removals db.places db.entries.items c.args.name.now c.args.arity db.kept.same)
