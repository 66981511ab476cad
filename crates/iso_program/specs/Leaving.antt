-- The clauses that are left to be tried for a call: a clause by its number, and behind it those that a view by key
-- gives (ISO/IEC 13211-1:1995, 7.5.4).
use Rattle.std.specs.Prelude.{◌≡◌, ◌≤◌, ℕ, List, [], ◌∷◌, Option, Some, None}
use Rattle.iso_model.specs.Terms.Trees.{Tree}
use Rattle.iso_model.specs.Search.Databases as databases
use Rattle.iso_model.specs.Search.Clashes.{EachEnters}
use Rattle.iso_model.specs.Search.RunLaws.Thinness.{Skips}
use Rattle.iso_db.specs.Databases as db
use Rattle.iso_db.specs.Presents.{GivesKeyed, Stands}
use Rattle.iso_db.specs.Keyed.{remaining_keyed}
use Rattle.iso_db.specs.declared.db.Db.{Db}
use Rattle.iso_db.specs.declared.keyed.KeyedView.{KeyedView}
use Rattle.iso_program.specs.declared.clauses.Clause.{Clause}
use Rattle.iso_program.specs.Kept.{Keeping, IsClause}
use Rattle.iso_program.specs.Programs.{AreClauses}

-- no view has more clauses left
abbrev pub most_left : ℕ
most_left = 36893488147419103232

-- what is left to be tried where the clause of this number comes next, and then those that the view gives
abbrev pub Leaving : Type 1
Leaving = ℕ → KeyedView → List databases.Clause → Type 0

-- These are the clauses, kept under the number and behind the view, whatever is added to the database or removed.
pub record AreLeft {C : Type 0} (keeps : Keeping C) (names : List (List ℕ)) (d : Db (Clause C)) (number : ℕ)
    (later : KeyedView) (cs : List databases.Clause) : Type 0 where
  pub first : databases.Clause
  pub others : List databases.Clause
  pub is : cs ≡ first ∷ others
  pub kept : Clause C
  pub stands : Stands d number kept
  pub numbered : first.number ≡ number
  pub clause : IsClause keeps names kept first
  pub behind : List (db.Clause (Clause C))
  pub gives : GivesKeyed d later behind
  pub are : AreClauses keeps names behind others
  pub few : remaining_keyed later ≤ most_left

-- clauses that were left are left still
abbrev pub KeepsLeft : Leaving → Leaving → Type 0
KeepsLeft old new = (number : ℕ) (later : KeyedView) (cs : List databases.Clause) → old number later cs
    → new number later cs

-- the clauses behind a number and a view, where a number came; else none
abbrev pub NextLeft : Leaving → Option ℕ → KeyedView → List databases.Clause → Type 0
NextLeft leaves None later cs = cs ≡ []
NextLeft leaves (Some number) later cs = leaves number later cs

-- The view gives these clauses of a procedure in their order, but for some that miss the call.
pub record GivesFor {C : Type 0} (keeps : Keeping C) (names : List (List ℕ)) (d : Db (Clause C)) (view : KeyedView)
    (call : Tree) (cs : List databases.Clause) : Type 0 where
  pub kept : List (db.Clause (Clause C))
  pub clauses : List databases.Clause
  pub gives : GivesKeyed d view kept
  pub are : AreClauses keeps names kept clauses
  pub few : remaining_keyed view ≤ most_left
  pub skips : Skips call clauses cs

-- Of these clauses of a procedure, but for some that miss the call, this one comes first, if there is one, and the view
-- gives those behind it. The call may enter each of them, as first arguments show.
pub record FirstLeft {C : Type 0} (keeps : Keeping C) (names : List (List ℕ)) (d : Db (Clause C)) (first : Option ℕ)
    (later : KeyedView) (call : Tree) (cs : List databases.Clause) : Type 0 where
  pub clauses : List databases.Clause
  pub are : NextLeft (AreLeft keeps names d) first later clauses
  pub skips : Skips call clauses cs
  pub enter : EachEnters call clauses

-- These clauses of a procedure, but for some that miss the call, are left under the number and behind the view.
pub record SomeLeft {C : Type 0} (keeps : Keeping C) (names : List (List ℕ)) (d : Db (Clause C)) (number : ℕ)
    (later : KeyedView) (call : Tree) (cs : List databases.Clause) : Type 0 where
  pub clauses : List databases.Clause
  pub are : AreLeft keeps names d number later clauses
  pub skips : Skips call clauses cs
