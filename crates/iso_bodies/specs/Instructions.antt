-- What the instructions of a body are once they are loaded.
use Rattle.std.specs.Prelude.{◌≡◌, ℕ, List, map, Some}
use Rattle.std.specs.List.{All, AllZip, slice_get}
use Rattle.std.specs.String.{string_bytes}
use Rattle.iso_compile.specs.declared.goals.Call as called
use Rattle.iso_compile.specs.declared.control.Instruction as compiled
use Rattle.iso_compile.specs.declared.control.Instruction.TheVariants as control
use Rattle.iso_compile.specs.Emitted.{block_of}
use Rattle.iso_code.specs.declared.operands.Operand.{Operand}
use Rattle.iso_code.specs.Loading.{IsAbove, IsFull, IsLoadedPart, IsLoadedArguments}
use Rattle.iso_instructions.specs.declared.instructions.Goal.{Goal}
use Rattle.iso_instructions.specs.declared.instructions.Instruction.{Instruction}
use Rattle.iso_instructions.specs.declared.instructions.Instruction.TheVariants.{Call, Execute, Is, Compare, Proceed, Cut, GetLevel, TryElse, Jump}
use Rattle.iso_bodies.specs.Steps.{IsLoadedStep}

-- where these are the names of the atoms, and compounds of calls have the registers from low on
module _ (names : List (List ℕ)) (low : ℕ) where
  -- The goal is the one that was compiled; so are its arguments, where its blocks have such registers, and 1 to 255
  -- arguments each.
  pub record IsLoadedGoal (c : called.Call) (g : Goal) : Type 0 where
    pub name : slice_get names g.name ≡ Some (string_bytes c.name)
    pub arguments : All (IsAbove low) (map block_of c.arguments.blocks.items) → All IsFull (map block_of c.arguments.blocks.items) → IsLoadedArguments names low c.arguments g.arguments

  -- the instruction is the one that was compiled
  abbrev pub IsLoadedInstruction : compiled.Instruction → Instruction → Type 0
  IsLoadedInstruction (control.Call c) i = (g : Goal) × (i ≡ Call g) × IsLoadedGoal c g
  IsLoadedInstruction (control.Execute c) i = (g : Goal) × (i ≡ Execute g) × IsLoadedGoal c g
  IsLoadedInstruction (control.Is p ks) i = (o : Operand) × (js : _) × (i ≡ Is o js) × IsLoadedPart names 0 p o × AllZip (IsLoadedStep names) ks.items js.items
  IsLoadedInstruction (control.Compare c ks) i = (js : _) × (i ≡ Compare c js) × AllZip (IsLoadedStep names) ks.items js.items
  IsLoadedInstruction control.Proceed i = i ≡ Proceed
  IsLoadedInstruction (control.Cut m) i = i ≡ Cut m
  IsLoadedInstruction (control.GetLevel k) i = i ≡ GetLevel k
  IsLoadedInstruction (control.TryElse l) i = i ≡ TryElse l
  IsLoadedInstruction (control.Jump l) i = i ≡ Jump l
