-- These are the procedures that are named so far, and the rest is left.
use Rattle.std.proofs.Common.{List}
use Rattle.iso_model.specs.Search.Databases as databases
use Rattle.iso_db.specs.Presents.{contents}
use Rattle.iso_storage.specs.Storing.{IsProgram}
use Rattle.iso_storage.specs.Declaring.{AreFunctors}
use Rattle.iso_storage.proofs.DeclarationLemmas.{to_declare, IsLeft}
use Rattle.iso_storage.proofs.declarations.all_changeable.Given as goal

abbrev pub invariant-loop-indicator : goal.invariant-loop-indicator
invariant-loop-indicator g l = (m : databases.Database) → IsProgram g.C.OfClause.keeps (g.S.Store.names l.store) (contents l.db) l.callables m
    → (ks : List databases.Key) × AreFunctors (g.S.Store.names l.store) ks l.functors.items
    × IsLeft (to_declare m.procedures) (g.S.Store.present l.store) l.indicators l.indicator-index ks
