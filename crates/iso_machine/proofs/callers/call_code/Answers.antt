use Rattle.std.proofs.Common.{None, arith, subst}
use Rattle.iso_instructions.specs.declared.instructions.Instruction.TheVariants as instruction
use Rattle.iso_frames.specs.declared.frames.Next.TheVariants as next
use Rattle.iso_environments.specs.Answering.{IsArithmeticThere}
use Rattle.iso_environments.specs.Putting.{IsCallThere}
use Rattle.iso_machine.specs.Instructions.{IsInstructionThere}
use Rattle.iso_machine.specs.Steps.{ActsThere}
use Rattle.iso_machine.proofs.FirstGoals.{came_left, code_stops, left_to_step}
use Rattle.iso_machine.proofs.StepLemmas.{acts_other, arithmetic_other}
use Rattle.iso_machine.proofs.Moves.Went.{came_moved, call_not}
use Rattle.iso_machine.proofs.callers.call_code.Goals.{in_default-via-in-Computes+else-search-ne0}
use Rattle.iso_machine.proofs.callers.call_code.Goals.{in_default-via-in_default}
use Rattle.iso_machine.proofs.callers.call_code.Goals as goal

pub act_there-requires : goal.act_there-requires
act_there-requires g c =
    rw c.as_slice.ensures.value (code_stops g.S.Store g.S.Cells.atom_word c.args.search.now c.args.rest c.requires.now
    c.requires.stands.0 c.requires.stands.1)

pub call_goal-requires-clause-there : goal.call_goal-requires-clause-there
call_goal-requires-clause-there g c =
    subst (λ fs. IsCallThere fs c.args.rest) c.as_slice.ensures.value c.in-Calls.ensures

pub compute-requires-clause-there : goal.compute-requires-clause-there
compute-requires-clause-there g c =
    subst (λ fs. IsArithmeticThere fs c.args.rest) c.as_slice.ensures.value c.in-Computes.ensures

pub compute-requires-clause-more : goal.compute-requires-clause-more
compute-requires-clause-more g c = λ none. absurd (omega (arith, c.if-search-ne0.true, none))

pub returns-in_err-compute-in-Computes : goal.returns-in_err-compute-in-Computes
returns-in_err-compute-in-Computes g c =
    call_not g.S.Store g.S.Cells.atom_word c.from_residual.result _ c.from_residual.ensures.0 c.from_residual.ensures.1
    (c.in_err-compute-in-Computes.ensures.came c.requires.stands.0 c.requires.stands.1) _

pub returns-in_ok-compute-in-Computes : goal.returns-in_ok-compute-in-Computes
returns-in_ok-compute-in-Computes g c =
    c.in_ok-compute-in-Computes.ensures.came c.requires.stands.0 c.requires.stands.1 _

pub cut_back-requires-clause-there : goal.cut_back-requires-clause-there
cut_back-requires-clause-there g c =
    subst (λ fs. IsInstructionThere fs c.args.rest (instruction.Cut c.in-Cuts.mark)) c.as_slice.ensures.value
    c.in-Cuts.ensures

pub returns-in-Cuts : goal.returns-in-Cuts
returns-in-Cuts g c = came_moved g.S.Store g.S.Cells.atom_word c.cut_back.ensures.moved _

pub returns-in_default : goal.returns-in_default
returns-in_default g c =
    let frames = c.args.search.now.lists.frames.items in
    let acts = subst (λ fs. ActsThere fs c.args.rest c.act_there.result) c.as_slice.ensures.value c.act_there.ensures in
    came_left g.S.Store g.S.Cells.atom_word c.args.search.now (next.Code c.args.rest) None c.requires.now
    (left_to_step g.S.Store g.S.Cells.atom_word c.args.search.now (next.Code c.args.rest) c.requires.now
    (elim c.in_default.branch [
      | in_default-via-in-Computes+else-search-ne0 w ↦
          arithmetic_other frames c.args.rest
          (subst (λ fs. IsArithmeticThere fs c.args.rest) c.as_slice.ensures.value w.in-Computes.ensures)
      | in_default-via-in_default w ↦
          acts_other frames c.args.rest c.act_there.result acts w.in_default.not-Calls w.in_default.not-Cuts
    ]))

pub compute-requires-clause-stands : goal.compute-requires-clause-stands
compute-requires-clause-stands g c = (c.args.search.now.choices, c.requires.stands.0, c.requires.stands.1)
