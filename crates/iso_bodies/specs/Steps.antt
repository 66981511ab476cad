-- Steps of arithmetic once they are loaded.
use Rattle.std.specs.Prelude.{◌≡◌, ℕ, List}
use Rattle.std.specs.String.{string_bytes}
use Rattle.iso_compile.specs.declared.expressions.Step as compiled
use Rattle.iso_compile.specs.declared.expressions.Step.TheVariants as step
use Rattle.iso_code.specs.declared.operands.Operand.{Operand}
use Rattle.iso_code.specs.Loading.{IsLoadedPart}
use Rattle.iso_instructions.specs.declared.instructions.Step.{Step}
use Rattle.iso_instructions.specs.declared.instructions.Step.TheVariants.{Value}
use Rattle.iso_instructions.specs.Steps.{IsOne, IsTwo}

-- the step is the one that was compiled, where these are the names of the atoms
abbrev pub IsLoadedStep : List (List ℕ) → compiled.Step → Step → Type 0
IsLoadedStep names (step.Value p) s = (o : Operand) × (s ≡ Value o) × IsLoadedPart names 0 p o
IsLoadedStep names (step.One f) s = IsOne names (string_bytes f) s
IsLoadedStep names (step.Two f) s = IsTwo names (string_bytes f) s
