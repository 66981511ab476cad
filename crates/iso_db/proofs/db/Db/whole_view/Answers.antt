-- Those clauses of the procedure that the call may use.
use Rattle.std.proofs.Common.{refl, true}
use Rattle.iso_db.specs.Databases.{clauses_at}
use Rattle.iso_db.specs.Presents.{contents}
use Rattle.iso_db.specs.Keyed.{usable}
use Rattle.iso_db.proofs.KeyedLemmas.{whole_begun}
use Rattle.iso_db.proofs.db.Db.whole_view.Goals as goal

pub begun-requires : goal.begun-requires
begun-requires g c =
    let db = c.args.self.now in
    let cs = clauses_at (contents db) c.args.place in
    (db.removals, usable db.slots.items c.args.key cs, record { all = cs; gives = c.requires; are = refl })

pub returns-clause-gives : goal.returns-clause-gives
returns-clause-gives g c =
    let db = c.args.self.now in
    let cs = clauses_at (contents db) c.args.place in
    whole_begun db.slots.items db.removals db.entries.items db.lists.items (record { whole = true; key = c.args.key; own = c.begun.result; any = c.nothing.result }) (usable db.slots.items c.args.key cs) refl
    (c.begun.ensures.leads db.removals (usable db.slots.items c.args.key cs) (record { all = cs; gives = c.requires; are = refl })) c.nothing.ensures.next
