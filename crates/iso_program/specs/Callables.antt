-- What is callable under each name, by the numbers of atoms.
use Rattle.std.specs.Prelude.{◌≡◌, ◌<◌, ℕ, List, [], ◌∷◌, Bool, ◌==◌, length, slice_get, Option, Some, None, option_map, if◌then◌else◌, Vec, ◌⊎◌}
use Rattle.std.specs.Global.{Global}
use Rattle.std.specs.Option.{option_or}
use Rattle.iso_atoms.specs.Texts.{text_at}
use Rattle.iso_model.specs.Search.Databases.{Key, key}
use Rattle.iso_model.specs.Search.BuiltIns.{built_in, built_in_among}
use Rattle.iso_model.specs.Search.Rows.{entries_of}
use Rattle.iso_model.specs.declared.built_ins.Row.{Row}
use Rattle.iso_program.specs.declared.callables.Callable.{Callable}
use Rattle.iso_program.specs.declared.callables.Callee.{Callee}
use Rattle.iso_program.specs.declared.callables.Callee.TheVariants as callee
use Rattle.iso_db.specs.Databases.{Database}
use Rattle.iso_program.specs.Programs.{place_at, kept_at, kind_of}

-- this, where the test holds
abbrev pub where_holds : {X : Type 0} → Bool → X → Option X
where_holds holds x = if holds then Some x else None

-- ---- by atoms

-- what has this arity among the callables of a name
abbrev pub callee_in : List Callable → ℕ → Option Callee
callee_in [] n = None
callee_in (c ∷ cs) n = if c.arity == n then Some c.calls else callee_in cs n

abbrev pub callables_in : Option (Vec Callable Global) → List Callable
callables_in None = []
callables_in (Some cs) = cs.items

-- the callables of the name that is this atom
abbrev pub callables_at : List (Vec Callable Global) → ℕ → List Callable
callables_at rows a = callables_in (slice_get rows a)

-- what a goal with this atom for its name, and of this arity, calls
abbrev pub callee_at : List (Vec Callable Global) → ℕ → ℕ → Option Callee
callee_at rows a n = callee_in (callables_at rows a) n

-- ---- by texts

-- what a goal with this key calls among these built-ins
abbrev pub callee_among : List Row → Key → Option Callee
callee_among rows k = option_map callee.BuiltIn (built_in_among (entries_of rows) k)

-- what a goal with this key calls, where each procedure that has a place is there: a built-in before a procedure
abbrev pub callee_of : {X : Type 0} → Database X → Key → Option Callee
callee_of d k = option_or (option_map callee.BuiltIn (built_in k)) (option_map callee.User (place_at d k))

-- Where these are the names of the atoms, what is called by atoms is what is called by texts. An atom that comes
-- later has nothing: each name that calls something has an atom.
pub record Indexes (names : List (List ℕ)) (rows : List (Vec Callable Global)) (calls : Key → Option Callee)
    : Type 0 where
  pub sound : (a n : ℕ) (c : Callee) → callee_at rows a n ≡ Some c → (a < length names)
      × (calls (key (text_at names a) n) ≡ Some c)
  pub complete : (k : Key) (c : Callee) → calls k ≡ Some c → (a : ℕ) × (slice_get names a ≡ Some k.name)
      × (callee_at rows a k.arity ≡ Some c)

-- What is called under a key is found, or nothing is where no procedure is there.
abbrev pub Agrees : {X : Type 0} → Database X → Key → Option Callee → Type 0
Agrees d k found = (found ≡ callee_of d k) ⊎ ((found ≡ None) × (built_in k ≡ None) × (kind_of (kept_at d k) ≡ None))

-- Where these are the names of the atoms, what is called is found by atoms: built-ins, and the procedures of the
-- database that are there.
pub record Finds {X : Type 0} (names : List (List ℕ)) (rows : List (Vec Callable Global)) (d : Database X)
    : Type 0 where
  pub calls : Key → Option Callee
  pub indexes : Indexes names rows calls
  pub agrees : (k : Key) → Agrees d k (calls k)

-- Procedures that had places have them still, and what was called is called.
pub record KeepsPlaces {X : Type 0} (old new : Database X) (rows more : List (Vec Callable Global)) : Type 0 where
  pub places : (k : Key) (i : ℕ) → place_at old k ≡ Some i → place_at new k ≡ Some i
  pub calls : (a n : ℕ) (c : Callee) → callee_at rows a n ≡ Some c → callee_at more a n ≡ Some c
