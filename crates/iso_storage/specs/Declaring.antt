-- Declarations of procedures.
use Rattle.std.specs.Prelude.{◌≡◌, ◌<◌, ℕ, List, [], ◌∷◌, length, map, true, false, Some, None, Result, Ok, Err, Vec}
use Rattle.std.specs.List.{All, list_any}
use Rattle.std.specs.Global.{Global}
use Rattle.iso_atoms.specs.Texts.{text_at}
use Rattle.iso_model.specs.Terms.Trees.{Tree}
use Rattle.iso_model.specs.Terms.Types.{is_variable}
use Rattle.iso_model.specs.Search.BuiltIns.{built_in}
use Rattle.iso_model.specs.Search.Errors.{instantiation_error}
use Rattle.iso_model.specs.Search.Keys.{Key, key}
use Rattle.iso_model.specs.Search.Settlements.{Settled, Changes}
use Rattle.iso_model.specs.Search.Storages.{declared_parts}
use Rattle.iso_model.specs.Search.Worlds.{World}
use Rattle.iso_store_core.specs.Presents.{Present, Holds, meaning}
use Rattle.iso_db.specs.Databases.{Database, with_kind}
use Rattle.iso_db.specs.declared.kinds.Kind.TheVariants.{Dynamic}
use Rattle.iso_lib_core.specs.declared.outcomes.Fault.{Fault}
use Rattle.iso_lib_core.specs.declared.outcomes.Fault.TheVariants as fault
use Rattle.iso_lib_core.specs.Replies.{IsError}
use Rattle.iso_lib.specs.Indicators.{IsFunctor}
use Rattle.iso_lib.specs.Settlements.{IsRefused}
use Rattle.iso_lib.specs.declared.indicators.Functor.{Functor}
use Rattle.iso_program.specs.Callables.{callee_at}
use Rattle.iso_program.specs.Programs.{place_at}
use Rattle.iso_program.specs.declared.callables.Callable.{Callable}
use Rattle.iso_program.specs.declared.callables.Callee.TheVariants as callee

-- None of the parts that a goal names is unbound, and these words stand for them; or this procedure throws the error
-- that one is.
abbrev pub AreParts : {W : Type 0} → Present W → Key → Tree → Result (Vec W Global) Fault → Type 0
AreParts p by t (Ok ws) = (map (meaning p) ws.items ≡ declared_parts t)
    × (list_any is_variable (declared_parts t) ≡ false) × All (λ w. Holds p w) ws.items
AreParts p by t (Err (fault.Raise ball)) = (list_any is_variable (declared_parts t) ≡ true)
    × IsError (instantiation_error by) ball
AreParts p by t (Err fault.Full) = ⊥
AreParts p by t (Err fault.NoMemory) = Unit {0}

-- these are the procedures with these keys
abbrev pub AreFunctors : List (List ℕ) → List Key → List Functor → Type 0
AreFunctors names [] [] = Unit {0}
AreFunctors names (k ∷ ks) (f ∷ fs) = IsFunctor names k f × AreFunctors names ks fs
AreFunctors names ks fs = ⊥

-- These are the procedures that are named, or the first error is thrown.
abbrev pub AreIndicated : List (List ℕ) → Result (List Key) Tree → Result (Vec Functor Global) Fault → Type 0
AreIndicated names (Ok ks) (Ok fs) = AreFunctors names ks fs.items
AreIndicated names (Err error) (Err (fault.Raise ball)) = IsError error ball
AreIndicated names asked (Err fault.NoMemory) = Unit {0}
AreIndicated names asked result = ⊥

-- All are named, or the first error is thrown.
abbrev pub AreChecked : Result (List Key) Tree → Result Unit Fault → Type 0
AreChecked (Ok ks) (Ok _) = Unit {0}
AreChecked (Err error) (Err (fault.Raise ball)) = IsError error ball
AreChecked asked (Err fault.NoMemory) = Unit {0}
AreChecked asked result = ⊥

-- Nothing is changed, or an error is thrown.
abbrev pub IsOnlyChecked : World → Settled → Result Unit Fault → Type 0
IsOnlyChecked w settled (Ok _) = settled ≡ Changes 0 w
IsOnlyChecked w settled (Err (fault.Raise ball)) = IsRefused settled ball
IsOnlyChecked w settled (Err fault.Full) = ⊥
IsOnlyChecked w settled (Err fault.NoMemory) = Unit {0}

-- The name of the procedure has an atom, and it is no built-in.
pub record IsUser (names : List (List ℕ)) (f : Functor) : Type 0 where
  pub atom : f.name < length names
  pub alone : built_in (key (text_at names f.name) f.arity) ≡ None

-- The procedure has this place, and is found by its atom.
pub record IsPlaced {X : Type 0} (names : List (List ℕ)) (d : Database X) (rows : List (Vec Callable Global))
    (f : Functor) (place : ℕ) : Type 0 where
  pub place_is : place_at d (key (text_at names f.name) f.arity) ≡ Some place
  pub called : callee_at rows f.name f.arity ≡ Some (callee.User place)

-- each of these
abbrev pub ArePlaced : {X : Type 0} → List (List ℕ) → Database X → List (Vec Callable Global) → List Functor → List ℕ
    → Type 0
ArePlaced names d rows [] [] = Unit {0}
ArePlaced names d rows (f ∷ fs) (place ∷ places) = IsPlaced names d rows f place × ArePlaced names d rows fs places
ArePlaced names d rows fs places = ⊥

-- the procedures at these places declared as dynamic
abbrev pub all_dynamic : {X : Type 0} → List ℕ → Database X → Database X
all_dynamic [] d = d
all_dynamic (place ∷ places) d = all_dynamic places (with_kind Dynamic place d)
