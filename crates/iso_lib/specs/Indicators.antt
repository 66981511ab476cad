-- Indicators of procedures, as they are read from a store.
use Rattle.std.specs.Prelude.{◌≡◌, ◌<◌, ℕ, List, Result, Ok, Err, length}
use Rattle.iso_atoms.specs.Texts.{text_at}
use Rattle.iso_model.specs.Terms.Trees.{Tree}
use Rattle.iso_model.specs.Search.Keys.{Key, key}
use Rattle.iso_lib_core.specs.declared.outcomes.Fault.{Fault}
use Rattle.iso_lib_core.specs.declared.outcomes.Fault.TheVariants as fault
use Rattle.iso_lib.specs.declared.indicators.Functor.{Functor}
use Rattle.iso_lib_core.specs.Replies.{IsError}

-- the atom of the key's name, and its number of arguments
pub record IsFunctor (names : List (List ℕ)) (k : Key) (f : Functor) : Type 0 where
  pub atom : f.name < length names
  pub key : k ≡ key (text_at names f.name) f.arity
  pub few : f.arity < 256

-- This is the procedure that is named, or this error is thrown.
abbrev pub IsIndicated : List (List ℕ) → Result Key Tree → Result Functor Fault → Type 0
IsIndicated names (Ok k) (Ok f) = IsFunctor names k f
IsIndicated names (Ok k) (Err fault.NoMemory) = Unit {0}
IsIndicated names (Ok k) (Err fault.Full) = ⊥
IsIndicated names (Ok k) (Err (fault.Raise ball)) = ⊥
IsIndicated names (Err error) (Ok f) = ⊥
IsIndicated names (Err error) (Err fault.NoMemory) = Unit {0}
IsIndicated names (Err error) (Err fault.Full) = ⊥
IsIndicated names (Err error) (Err (fault.Raise ball)) = IsError error ball
