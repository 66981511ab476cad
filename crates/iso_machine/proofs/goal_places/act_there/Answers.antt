use Rattle.std.proofs.Common.{subst}
use Rattle.iso_machine.specs.Instructions.{IsInstructionThere}
use Rattle.iso_machine.proofs.FirstGoals.{called_there, executed_there, no_call}
use Rattle.iso_machine.proofs.Moves.Level.{instruction_read}
use Rattle.iso_machine.proofs.StepLemmas.{computed_there, no_arithmetic}
use Rattle.iso_machine.proofs.goal_places.act_there.Goals as goal
use Rattle.iso_machine.proofs.goal_places.act_there.Goals.{After-index}

-- the instruction that was read
read : (c : After-index) → IsInstructionThere c.args.frames.now c.args.rest c.index.result.now
read c =
    instruction_read c.args.frames.now c.args.rest c.requires.0 c.requires.1 c.requires.2 c.requires.3 c.requires.4
    c.index-frames-rest.result c.index-frames-rest.is c.in-Clause.code c.in-Clause.field-1 c.in-Clause.is
    c.deref.result.now c.deref.ensures c.index.result.now c.index.ensures

pub returns-in-Call : goal.returns-in-Call
returns-in-Call c =
    called_there c.args.frames.now c.args.rest _
    (subst (IsInstructionThere c.args.frames.now c.args.rest) c.in-Call.is
    (read (goal.at.returns-in-Call c).After-index))

pub returns-in-Execute : goal.returns-in-Execute
returns-in-Execute c =
    executed_there c.args.frames.now c.args.rest _
    (subst (IsInstructionThere c.args.frames.now c.args.rest) c.in-Execute.is
    (read (goal.at.returns-in-Execute c).After-index))

pub returns-in-Is : goal.returns-in-Is
returns-in-Is c =
    computed_there c.args.frames.now c.args.rest _
    (subst (IsInstructionThere c.args.frames.now c.args.rest) c.in-Is.is (read (goal.at.returns-in-Is c).After-index))
    tt

pub returns-in-Compare : goal.returns-in-Compare
returns-in-Compare c =
    computed_there c.args.frames.now c.args.rest _
    (subst (IsInstructionThere c.args.frames.now c.args.rest) c.in-Compare.is
    (read (goal.at.returns-in-Compare c).After-index)) tt

pub returns-in-Cut : goal.returns-in-Cut
returns-in-Cut c =
    subst (IsInstructionThere c.args.frames.now c.args.rest) c.in-Cut.is
    (read (goal.at.returns-in-Cut c).After-index)

pub returns-in_default-index : goal.returns-in_default-index
returns-in_default-index c = record {
  instruction = c.index.result.now;
  there = read (goal.at.returns-in_default-index c).After-index;
  other = no_call c.index.result.now (λ x is. c.in_default-index.not-Call x is)
      (λ x is. c.in_default-index.not-Execute x is);
  none = λ is. no_arithmetic c.index.result.now (λ x y e. c.in_default-index.not-Is x y e)
      (λ x y e. c.in_default-index.not-Compare x y e) is;
}
