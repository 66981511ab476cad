-- How a clause comes to its procedure.
use Rattle.std.specs.Prelude.{◌≡◌, ℕ, List, true, Option, Some, ◌+◌, slice_get, Vec}
use Rattle.std.specs.Global.{Global}
use Rattle.iso_atoms.specs.Texts.{EachOnce}
use Rattle.iso_model.specs.Search.Databases as databases
use Rattle.iso_model.specs.Search.Databases.{Key, at_front, at_end, with_clause}
use Rattle.iso_db.specs.Databases.{Database, is_not_static}
use Rattle.iso_db.specs.Databases as db
use Rattle.iso_db.specs.declared.kinds.Kind.{Kind}
use Rattle.iso_db.specs.declared.kinds.Kind.TheVariants as kind
use Rattle.iso_program.specs.declared.callables.Callable.{Callable}
use Rattle.iso_lib.specs.declared.indicators.Functor.{Functor}
use Rattle.iso_program.specs.declared.procedures.Way.{Way}
use Rattle.iso_program.specs.declared.procedures.Way.TheVariants as way
use Rattle.iso_program.specs.Callables.{Finds}

-- Where these are the names of the atoms, the atom is that of the text, and what is called is found by atoms.
pub record IsFound {X : Type 0} (names : List (List ℕ)) (f : Functor) (text : List ℕ) (d : Database X)
    (rows : List (Vec Callable Global)) : Type 0 where
  pub each_once : EachOnce names
  pub atom : slice_get names f.name ≡ Some text
  pub found : Finds names rows d

-- a clause more of its procedure: at the end where a text is consulted, whatever the procedure is; before or behind
-- the others of a dynamic one
abbrev pub with_more : Way → databases.Database → Key → databases.Clause → databases.Database
with_more way.Consulted m k c =
    record { procedures = with_clause at_end databases.Static m.procedures k c; added = m.added + 1 }
with_more way.First m k c =
    record { procedures = with_clause at_front databases.Dynamic m.procedures k c; added = m.added + 1 }
with_more way.Last m k c =
    record { procedures = with_clause at_end databases.Dynamic m.procedures k c; added = m.added + 1 }

-- so where clauses are kept by places
abbrev pub came : {X : Type 0} → Way → ℕ → X → Database X → Database X
came way.Consulted place c d = db.with_clause db.at_end kind.Static place c d
came way.First place c d = db.with_clause db.at_front kind.Dynamic place c d
came way.Last place c d = db.with_clause db.at_end kind.Dynamic place c d

-- clauses may come in this way to a procedure of this kind
abbrev pub MayCome : Way → Option Kind → Type 0
MayCome way.Consulted kind = Unit {0}
MayCome way.First kind = is_not_static kind ≡ true
MayCome way.Last kind = is_not_static kind ≡ true
