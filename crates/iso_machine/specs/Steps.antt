-- What comes first that a step of its own does, since it calls no goal of a procedure.
use Rattle.std.specs.Prelude.{List}
use Rattle.iso_environments.specs.Answering.{IsArithmetic, IsArithmeticThere}
use Rattle.iso_environments.specs.Putting.{IsCallThere}
use Rattle.iso_control.specs.Members.{IsNoGoal}
use Rattle.iso_instructions.specs.declared.instructions.Instruction.{Instruction}
use Rattle.iso_instructions.specs.declared.instructions.Instruction.TheVariants.{Call, Cut, Execute}
use Rattle.iso_frames.specs.declared.frames.Rest.{Rest}
use Rattle.iso_frames.specs.declared.frames.Frame.{Frame}
use Rattle.iso_frames.specs.declared.frames.Next.{Next}
use Rattle.iso_frames.specs.declared.frames.Next.TheVariants as next
use Rattle.iso_machine.specs.declared.framed.Framed.{Framed}
use Rattle.iso_machine.specs.declared.goal_places.Act.{Act}
use Rattle.iso_machine.specs.declared.goal_places.Act.TheVariants as act
use Rattle.iso_machine.specs.Instructions.{IsInstructionThere}

-- the instruction calls no goal
abbrev pub IsNoCall : Instruction → Type 0
IsNoCall (Call g) = ⊥
IsNoCall (Execute g) = ⊥
IsNoCall i = Unit {0}

-- The frame there is a clause's, whose instruction there calls no goal.
pub record IsOtherThere (frames : List Frame) (r : Rest) : Type 0 where
  pub instruction : Instruction
  pub there : IsInstructionThere frames r instruction
  pub other : IsNoCall instruction

-- What comes first is a member that is no goal, or an instruction that calls none.
abbrev pub IsByStep : {S W M : Type 0} → Framed S W M → Next W → Type 0
IsByStep l (next.Member link) = IsNoGoal l.nodes.items link.todo
IsByStep l (next.Goal word place) = ⊥
IsByStep l (next.Code r) = IsOtherThere l.frames.items r

-- The frame there is a clause's, whose instruction there calls no goal and does no arithmetic.
pub record IsNeitherThere (frames : List Frame) (r : Rest) : Type 0 where
  pub instruction : Instruction
  pub there : IsInstructionThere frames r instruction
  pub other : IsNoCall instruction
  pub none : IsArithmetic instruction → ⊥

-- This is what the instruction there does.
abbrev pub ActsThere : List Frame → Rest → Act → Type 0
ActsThere frames r act.Calls = IsCallThere frames r
ActsThere frames r act.Computes = IsArithmeticThere frames r
ActsThere frames r (act.Cuts mark) = IsInstructionThere frames r (Cut mark)
ActsThere frames r act.Other = IsNeitherThere frames r
