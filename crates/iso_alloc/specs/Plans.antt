-- Where a clause keeps its variables while it is run: in registers and in its environment (texts on the Warren
-- machine).
use Rattle.std.specs.Prelude.{◌≡◌, ℕ, ◌+◌, ◌==◌, ◌<◌, ◌≤◌, ◌⊎◌, List, length, Option, Some, None, MatchOption, if◌then◌else◌}
use Rattle.std.specs.List.{slice_get}
use Rattle.iso_model.specs.Terms.Trees.{Tree, Variable, Apply, End, More, count}
use Rattle.iso_prep.specs.Preparations.{Preparation}
use Rattle.iso_prep.specs.Classes.{class_of, goals_of, last_goal}
use Rattle.iso_prep.specs.declared.classes.Class.{Class}
use Rattle.iso_prep.specs.declared.classes.Class.TheVariants.{Void, Temporary, Permanent}
use Rattle.iso_alloc.specs.declared.places.Place.{Place}
use Rattle.iso_alloc.specs.declared.places.Place.TheVariants.{Register, Slot, Nowhere}

-- The places of a clause's variables, and how many slots and registers it uses.
pub record Layout : Type 0 where
  pub places : List Place
  pub slots : ℕ
  pub registers : ℕ

-- the arguments of a clause's head; none where there is no clause
abbrev pub arguments_of : Option Tree → Tree
arguments_of (Some (Apply f ts)) = ts
arguments_of head = End

-- the first of these arguments that is the variable itself, where they are numbered from i on
abbrev pub argument_from : ℕ → ℕ → Tree → Option ℕ
argument_from i x (More (Variable y) ts) = if y == x then Some i else argument_from (i + 1) x ts
argument_from i x (More t ts) = argument_from (i + 1) x ts
argument_from i x ts = None

-- The place suits a variable x of this class, where the head has these arguments and the last of the goals that have x
-- has this number. A void variable has none. A permanent one has a slot of the environment, and so has a temporary
-- one of a goal behind the first. Any other temporary one has the register of the argument that it is in the head; if
-- it is none, it has a register behind those of the arguments.
abbrev pub Suits : Layout → Tree → ℕ → Class → ℕ → Place → Type 0
Suits plan arguments x Void last Nowhere = Unit {0}
Suits plan arguments x Permanent last (Slot s) = s < plan.slots
Suits plan arguments x Temporary last (Slot s) = (1 < last) × (s < plan.slots)
Suits plan arguments x Temporary last (Register r) = (last ≤ 1) × (r < plan.registers) × MatchOption (argument_from 0 x arguments) (count arguments ≤ r) (λ i. r ≡ i)
Suits plan arguments x class last place = ⊥

-- The plan is one of what is prepared: each variable has a place that suits it, and no two share a slot or a register.
pub record IsPlan (plan : Layout) (p : Preparation) : Type 0 where
  pub each : length plan.places ≡ p.variables
  pub arguments : count (arguments_of p.head) ≤ plan.registers
  pub suits : (x : ℕ) (place : Place) → slice_get plan.places x ≡ Some place → Suits plan (arguments_of p.head) x (class_of x p.head (goals_of p.body)) (last_goal x (goals_of p.body)) place
  pub apart : (x y : ℕ) (place : Place) → slice_get plan.places x ≡ Some place → slice_get plan.places y ≡ Some place → (x ≡ y) ⊎ (place ≡ Nowhere)
