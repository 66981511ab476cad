-- Those so far have their places.
use Rattle.std.proofs.Common.{take}
use Rattle.iso_model.specs.Search.Databases as databases
use Rattle.iso_db.specs.Presents.{contents}
use Rattle.iso_program.specs.Keying.{Preserves}
use Rattle.iso_storage.specs.Storing.{IsProgram}
use Rattle.iso_storage.specs.Declaring.{ArePlaced}
use Rattle.iso_storage.proofs.declarations.places.Given as goal

abbrev pub invariant-loop-functor : goal.invariant-loop-functor
invariant-loop-functor g l = record {
  placed : ArePlaced (g.S.Store.names l.store) (contents l.db) l.callables.items (take l.functor-index l.functors) l.places.items;
  kept : (m : databases.Database) → IsProgram g.C.OfClause.keeps (g.S.Store.names l.store) (contents l.initial.db) l.initial.callables.items m → IsProgram g.C.OfClause.keeps (g.S.Store.names l.store) (contents l.db) l.callables.items m;
  preserves : Preserves l.initial.db l.db;
}
