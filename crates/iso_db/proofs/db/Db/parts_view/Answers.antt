-- Two parts in order.
use Rattle.std.proofs.Common.{refl, false, None}
use Rattle.iso_clauses.specs.Blocks.{nothing_kept}
use Rattle.iso_db.proofs.PlaceLemmas.{shown_within}
use Rattle.iso_db.proofs.BeginLemmas.{keyed_begun}
use Rattle.iso_db.proofs.db.Db.parts_view.Goals as goal

pub returns-clause-gives : goal.returns-clause-gives
returns-clause-gives g c =
    let db = c.args.self.now in
    let within = shown_within db.slots.items db.removals db.places db.entries.items c.args.place db.kept.same c.requires.place in
    keyed_begun db.slots.items db.removals db.places db.entries.items db.lists.items c.args.place c.args.key nothing_kept
    (record { whole = false; key = None; own = c.part.result; any = c.part-2.result }) db.kept within c.requires.key refl refl c.part.ensures.leads c.part-2.ensures.leads
