-- Steps of arithmetic, in which operations stand for their names.
use Rattle.std.specs.Prelude.{◌≡◌, ◌<◌, ℕ, List, Some, MatchOption}
use Rattle.std.specs.List.{slice_get}
use Rattle.iso_model.specs.Search.Arithmetic.{among, operations_of_one, operations_of_two}
use Rattle.iso_arith.specs.declared.operations.Unary.{Unary}
use Rattle.iso_arith.specs.declared.operations.Binary.{Binary}
use Rattle.iso_arith.specs.Operations.{does_unary, does_binary}
use Rattle.iso_compile.specs.Expressions as expressions
use Rattle.iso_code.specs.declared.operands.Operand.{Operand}
use Rattle.iso_code.specs.declared.operands.Operand.TheVariants as operand
use Rattle.iso_code.specs.Loaded.{part_at, IsInside}
use Rattle.iso_instructions.specs.declared.instructions.Step.{Step}
use Rattle.iso_instructions.specs.declared.instructions.Step.TheVariants.{Value, One, Two, Unknown}

-- where these are the names of the atoms
module _ (names : List (List ℕ)) where
  -- a functor of this name, with so many arguments, that is no evaluable
  abbrev pub IsUnknown : List ℕ → ℕ → Step → Type 0
  IsUnknown f many s = (n : ℕ) × (s ≡ Unknown n many) × (slice_get names n ≡ Some f)

  -- the operation of one value that has this name, if there is one
  abbrev pub IsOne : List ℕ → Step → Type 0
  IsOne f s = MatchOption (among operations_of_one f) (IsUnknown f 1 s) (λ does. (u : Unary) × (s ≡ One u) × (does_unary u ≡ does))

  -- the operation of two values
  abbrev pub IsTwo : List ℕ → Step → Type 0
  IsTwo f s = MatchOption (among operations_of_two f) (IsUnknown f 2 s) (λ does. (b : Binary) × (s ≡ Two b) × (does_binary b ≡ does))

  -- the step is that of the table
  abbrev pub IsStep : expressions.Step → Step → Type 0
  IsStep (expressions.Take p) s = (o : Operand) × (s ≡ Value o) × (part_at names 0 o ≡ p)
  IsStep (expressions.One f) s = IsOne f s
  IsStep (expressions.Two f) s = IsTwo f s

-- The operand's variable or atom is there, of so many atoms and variables; a compound has no word, and no value.
abbrev pub IsThere : ℕ → ℕ → Operand → Type 0
IsThere names count (operand.Inner k) = Unit {0}
IsThere names count o = IsInside names count 0 o

-- what the step names is there, of so many atoms and variables
abbrev pub IsStepThere : ℕ → ℕ → Step → Type 0
IsStepThere names count (Value o) = IsThere names count o
IsStepThere names count (One u) = Unit {0}
IsStepThere names count (Two b) = Unit {0}
IsStepThere names count (Unknown n many) = (n < names) × (many < 256)
