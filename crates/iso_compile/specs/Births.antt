-- Variables that get their value from `is/2`: where they occur in code, and where code goes on elsewhere.
use Rattle.std.specs.Prelude.{◌≡◌, ℕ, ◌+◌, ◌<◌, ◌≤◌, ◌==◌, ◌⊎◌, min, max, List, [], ◌∷◌, length, get_or, Bool, true, false, Option, Some, None, if◌then◌else◌, ◌-◌}
use Rattle.std.specs.List.{slice_get, slice_set}
use Rattle.iso_prep.specs.Trees.{At}
use Rattle.iso_alloc.specs.declared.places.Place.{Place}
use Rattle.iso_compile.specs.declared.instructions.Part.{Part}
use Rattle.iso_compile.specs.declared.instructions.Part.TheVariants.{New, Old, Void}
use Rattle.iso_compile.specs.declared.control.Instruction.{Instruction}
use Rattle.iso_compile.specs.declared.control.Instruction.TheVariants.{Is, TryElse, Jump}
use Rattle.iso_compile.specs.declared.births.Span.{Span}
use Rattle.iso_compile.specs.declared.expressions.Step as written
use Rattle.iso_compile.specs.Emitted.{is_met}
use Rattle.iso_compile.specs.Emitting.{is_placed, all_placed}
use Rattle.iso_compile.specs.Expressions.{step_parts}
use Rattle.iso_compile.specs.Ways.{Ways}
use Rattle.iso_alloc.specs.Plans.{Layout}
use Rattle.iso_compile.specs.Control.{Member, Does, AreRight, AreBehind, AreOld, own_parts}

-- whether one of the parts is this variable
abbrev pub has : ℕ → List Part → Bool
has x [] = false
has x (New y place ∷ ps) = if y == x then true else has x ps
has x (Old y place ∷ ps) = if y == x then true else has x ps
has x (Void y ∷ ps) = if y == x then true else has x ps
has x (p ∷ ps) = has x ps

-- ---- spans

abbrev pub widened : ℕ → Span → Span
widened a u = record { low = min u.low a; high = max u.high a }

abbrev pub span_at : List Span → ℕ → Span
span_at us x = get_or us x (record { low = 0; high = 0 })

-- the spans with this variable noted at this address
abbrev pub with_variable : ℕ → ℕ → List Span → List Span
with_variable a x us = slice_set us x (widened a (span_at us x))

-- with the variables of these parts
abbrev pub with_parts : ℕ → List Part → List Span → List Span
with_parts a [] us = us
with_parts a (New x place ∷ ps) us = with_parts a ps (with_variable a x us)
with_parts a (Old x place ∷ ps) us = with_parts a ps (with_variable a x us)
with_parts a (Void x ∷ ps) us = with_parts a ps (with_variable a x us)
with_parts a (p ∷ ps) us = with_parts a ps us

-- with those of this code, which begins at this address
abbrev pub with_code : ℕ → List Instruction → List Span → List Span
with_code a [] us = us
with_code a (i ∷ code) us = with_code (a + 1) code (with_parts a (own_parts i) us)

-- Each address at which a variable occurs is in its span.
abbrev pub AreSpans : List Instruction → List Span → Type 0
AreSpans code us = (a : ℕ) (i : Instruction) (x : ℕ) → At code a i → has x (own_parts i) ≡ true → x < length us → ((span_at us x).low ≤ a) × (a ≤ (span_at us x).high)

-- ---- where code goes on elsewhere

-- the address at which an instruction may go on, if it isn't the next one
abbrev pub target : Instruction → Option ℕ
target (TryElse l) = Some l
target (Jump l) = Some l
target i = None

-- For each address, these are at least the addresses of the instructions that may go on there.
abbrev pub AreSources : List Instruction → List ℕ → Type 0
AreSources code sources = (s : ℕ) (i : Instruction) (l t : ℕ) → At code s i → target i ≡ Some l → slice_get sources l ≡ Some t → s ≤ t

-- For each address, each lower one at which code goes on from a higher one is below this number.
abbrev pub IsBarrier : List ℕ → ℕ → ℕ → Type 0
IsBarrier sources b n = (n ≤ b) × ((l t : ℕ) → l < b → slice_get sources l ≡ Some t → b < t → l < n)

abbrev pub AreBarriers : List ℕ → List ℕ → Type 0
AreBarriers sources list = (b n : ℕ) → slice_get list b ≡ Some n → IsBarrier sources b n

-- ---- births

-- At this address `is/2` may give this variable its value: nothing has it before on any way, and wherever else it
-- occurs, the code comes from here.
pub record IsBirth (spans : List Span) (barriers : List ℕ) (met : List Bool) (a x : ℕ) (place : Place) (ks : List written.Step) : Type 0 where
  pub within : x < length spans
  pub high : (span_at spans x).high ≡ a
  pub barrier : get_or barriers a 0 ≤ (span_at spans x).low
  pub inside : a < length barriers
  pub unmet : is_met met x ≡ false
  pub apart : has x (step_parts ks) ≡ false
  pub placed : is_placed place ≡ true

-- The instruction gives this variable its value.
pub record BornAt (spans : List Span) (barriers : List ℕ) (met : List Bool) (new : List Instruction) (born : List Bool) (a : ℕ) (i : Instruction) : Type 0 where
  pub variable : ℕ
  pub place : Place
  pub steps : _
  pub was : i ≡ Is (Old variable place) steps
  pub is : At new a (Is (New variable place) steps)
  pub birth : IsBirth spans barriers met a variable place steps.items
  pub known : get_or born variable false ≡ true

-- These variables are born in the new code, which is the old one but for that.
pub record Births (spans : List Span) (barriers : List ℕ) (met : List Bool) (old new : List Instruction) (born : List Bool) : Type 0 where
  pub long : length new ≡ length old
  pub still : (a : ℕ) (i : Instruction) → At old a i → At new a i ⊎ BornAt spans barriers met new born a i
  pub at : (x : ℕ) → get_or born x false ≡ true → (place : Place) × (ks : _) × At new (span_at spans x).high (Is (New x place) ks) × IsBirth spans barriers met (span_at spans x).high x place ks.items

-- These variables have a value where the code begins: those that have a place and are not born in it.
abbrev pub BeginsWith : List Place → List Bool → (ℕ → Bool) → Type 0
BeginsWith places born met = (x : ℕ) → met x ≡ (if get_or born x false then false else all_placed places x)

-- These variables, which weren't met before, get their value from the new code, which does what the old one did. It is
-- right on each way, where each other variable that has a place has a value before; and none gets its value in a call.
pub record GivesValues (met : List Bool) (old new : List Instruction) (born : List Bool) : Type 0 where
  pub does : (plan : Layout) (ms : List Member) → Does plan old ms → Does plan new ms
  pub ways : (plan : Layout) (ms : List Member) (entry : ℕ → Bool) → length plan.places ≡ length met → AreRight plan old → Does plan old ms → BeginsWith plan.places born entry → Ways plan.places new (length new - 1) entry
  pub unmet : (x : ℕ) → get_or born x false ≡ true → is_met met x ≡ false
  pub behind : (plan : Layout) → AreRight plan old → AreBehind plan.registers new
  pub calls : (plan : Layout) → AreRight plan old → AreOld new
