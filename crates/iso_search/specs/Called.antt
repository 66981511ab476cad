-- What a goal calls.
use Rattle.std.specs.Prelude.{◌≡◌, ℕ, List, [], ◌∷◌, Some, None, ◌⊎◌}
use Rattle.iso_ops.specs.declared.settings.Unknown.{Unknown}
use Rattle.iso_ops.specs.declared.settings.Unknown.TheVariants as on_unknown
use Rattle.iso_model.specs.Terms.Trees.{Tree}
use Rattle.iso_model.specs.Search.Clashes.{EachEnters}
use Rattle.iso_model.specs.Search.Databases as databases
use Rattle.iso_model.specs.Search.Databases.{Key, key_of, clauses_at}
use Rattle.iso_model.specs.Search.BuiltIns.{built_in}
use Rattle.iso_model.specs.Search.RunLaws.Thinness.{Skips}
use Rattle.iso_model.specs.Search.Walker.{World}
use Rattle.iso_db.specs.declared.keyed.KeyedView.{KeyedView}
use Rattle.iso_search.specs.declared.calls.Called.{Called}
use Rattle.iso_search.specs.declared.calls.Called.TheVariants as call
use Rattle.iso_program.specs.Leaving.{Leaving}
use Rattle.iso_search_core.specs.GoalKinds.{IsUser, IsBuiltIn}

-- These clauses are left for a call of this value: those of the procedure with this key, but for some that miss it. It
-- may enter each of them, as first arguments show.
pub record ClausesFor (w : World) (k : Key) (t : Tree) (cs : List databases.Clause) : Type 0 where
  pub whole : List databases.Clause
  pub found : clauses_at w.database.procedures k ≡ Some whole
  pub skips : Skips t cs whole
  pub enter : EachEnters t cs

-- no procedure has this key, and the flag unknown says this
abbrev pub IsUnknown : World → Key → Unknown → Type 0
IsUnknown w k on = (clauses_at w.database.procedures k ≡ None) × (w.flags.unknown ≡ on)

-- what a goal of this name and arity, and of this value, calls over this world; the view gives the clauses behind the
-- first
abbrev pub IsNamed : Leaving → KeyedView → World → Key → Tree → Called → Type 0
IsNamed leaves later w k t (call.BuiltIn b) = built_in k ≡ Some b
IsNamed leaves later w k t (call.User clause) = (built_in k ≡ None) × ((cs : List databases.Clause) × ClausesFor w k t cs × leaves clause later cs)
IsNamed leaves later w k t call.Fails = (built_in k ≡ None) × (ClausesFor w k t [] ⊎ IsUnknown w k on_unknown.Fail)
IsNamed leaves later w k t call.Unknown = (built_in k ≡ None) × IsUnknown w k on_unknown.Error

-- The goal calls a procedure of which some clauses are left for it: the one of this number comes next, and then those
-- that the view gives.
pub record CallsAt (leaves : Leaving) (w : World) (t : Tree) (clause : ℕ) (later : KeyedView) : Type 0 where
  pub key : Key
  pub first : databases.Clause
  pub others : List databases.Clause
  pub user : IsUser t key
  pub clauses : ClausesFor w key t (first ∷ others)
  pub left : leaves clause later (first ∷ others)

-- The goal fails as it is: it has no name, no clause of its procedure is left for it, or it has no procedure where
-- unknown ones fail.
abbrev pub FailsAt : World → Tree → Type 0
FailsAt w t = (key_of t ≡ None) ⊎ ((k : Key) × IsUser t k × (ClausesFor w k t [] ⊎ IsUnknown w k on_unknown.Fail))

-- what the goal, by its value, calls over this world; the view gives the clauses behind the first
abbrev pub IsCalled : Leaving → KeyedView → World → Tree → Called → Type 0
IsCalled leaves later w t (call.BuiltIn b) = IsBuiltIn t b
IsCalled leaves later w t (call.User clause) = CallsAt leaves w t clause later
IsCalled leaves later w t call.Fails = FailsAt w t
IsCalled leaves later w t call.Unknown = (k : Key) × IsUser t k × IsUnknown w k on_unknown.Error
