use Rattle.std.proofs.Common.{subst, arith}
use Rattle.iso_instructions.specs.declared.instructions.Instruction.TheVariants as instruction
use Rattle.iso_machine.specs.Instructions.{IsInstructionThere}
use Rattle.iso_machine.specs.Unpushed.{with_choices}
use Rattle.iso_machine.proofs.FirstGoals.{engine_stops}
use Rattle.iso_machine.proofs.Moves.Instruction.{code_ahead, cut_there}
use Rattle.iso_machine.proofs.shallow.cut_first.Goals as goal

pub act_there-requires : goal.act_there-requires
act_there-requires g c =
    rw c.as_slice-frames.ensures.value (engine_stops g.S.Store g.S.Cells.atom_word
    (with_choices c.args.search.now c.requires.0) c.in_ok-rest.rest c.in_ok-rest.ensures c.requires.1 c.requires.2)

pub height_at-requires : goal.height_at-requires
height_at-requires g c =
    let e = with_choices c.args.search.now c.requires.0 in
    let there = subst (λ fs. IsInstructionThere fs c.in_ok-rest.rest (instruction.Cut c.in-Cuts-Clause.field-0))
    c.as_slice-frames.ensures.value c.in-Cuts-Clause.ensures in
    let cut = cut_there g.S.Store g.S.Cells.atom_word e c.requires.1 c.in_ok-rest.rest c.in-Cuts-Clause.field-0 there
    (code_ahead g.S.Store g.S.Cells.atom_word e c.requires.1 c.in_ok-rest.rest c.in_ok-rest.ensures c.requires.2) in
    rw c.as_slice-frames.ensures.value (there.frame, there.code, there.level, cut.kept, there.clause, cut.levels)

pub returns-in-Cuts-Clause-clause-cuts : goal.returns-in-Cuts-Clause-clause-cuts
returns-in-Cuts-Clause-clause-cuts g c = λ f code level kept at levels n few.
    let heights = rw c.as_slice-frames.ensures.value at c.height_at.ensures in
    let is = heights f code level kept at levels n few in
    let same = c.if-height_at-count.true in
    omega (arith, is, same)
