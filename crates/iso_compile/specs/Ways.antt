-- Which variables have a value on each way through the code of a body.
use Rattle.std.specs.Prelude.{ℕ, suc, ◌==◌, List, [], ◌∷◌, Bool, true, if◌then◌else◌}
use Rattle.iso_prep.specs.Trees.{At}
use Rattle.iso_alloc.specs.declared.places.Place.{Place}
use Rattle.iso_compile.specs.declared.instructions.Part.{Part}
use Rattle.iso_compile.specs.declared.instructions.Part.TheVariants.{New}
use Rattle.iso_compile.specs.declared.goals.Call as called
use Rattle.iso_compile.specs.declared.control.Instruction.{Instruction}
use Rattle.iso_compile.specs.declared.control.Instruction.TheVariants.{Call, Execute, Is, Compare, Proceed, Cut, GetLevel, TryElse, Jump}
use Rattle.iso_compile.specs.Emitted.{AreMarked}
use Rattle.iso_compile.specs.Control.{own_parts}

-- The variables that have a value behind these parts. A void one isn't kept, since by the plan nothing else has it.
abbrev pub kept_behind : (ℕ → Bool) → List Part → ℕ → Bool
kept_behind met [] = met
kept_behind met (New x place ∷ ps) = kept_behind (λ k. if k == x then true else met k) ps
kept_behind met (p ∷ ps) = kept_behind met ps

-- behind the instruction the next one is done, and no other
abbrev pub IsStraight : Instruction → Type 0
IsStraight (Call c) = Unit {0}
IsStraight (Is p ks) = Unit {0}
IsStraight (Compare c ks) = Unit {0}
IsStraight (Cut m) = Unit {0}
IsStraight (GetLevel k) = Unit {0}
IsStraight i = ⊥

-- From this address on, where these variables have a value: on each way that the code may take, a variable is new where
-- it has no value yet, and gets one there; elsewhere it has one.
pub data Ways (places : List Place) (code : List Instruction) : ℕ → (ℕ → Bool) → Type 0 where
  ends : {a : ℕ} {met : ℕ → Bool} → At code a Proceed → Ways places code a met
  executes : {a : ℕ} {c : called.Call} {met : ℕ → Bool} → At code a (Execute c) → AreMarked places met (own_parts (Execute c)) → Ways places code a met
  goes_on : {a : ℕ} {i : Instruction} {met : ℕ → Bool} → At code (suc a) i → IsStraight i → AreMarked places met (own_parts i) → Ways places code a (kept_behind met (own_parts i)) → Ways places code (suc a) met
  tries : {a l : ℕ} {met : ℕ → Bool} → At code (suc a) (TryElse l) → Ways places code a met → Ways places code l met → Ways places code (suc a) met
  jumps : {a l : ℕ} {met : ℕ → Bool} → At code a (Jump l) → Ways places code l met → Ways places code a met
