use Rattle.std.proofs.Common.{◌≡◌, Some, sym, ◌∙◌, subst}
use Rattle.iso_instructions.specs.declared.instructions.Instruction.{Instruction}
use Rattle.iso_instructions.specs.declared.instructions.Instruction.TheVariants as instruction
use Rattle.iso_machine.specs.Instructions.{IsInstructionThere}
use Rattle.iso_machine.proofs.Moves.Level.{instruction_read, instruction_there}
use Rattle.iso_machine.proofs.control.other_at.Goals as goal

pub returns-in-TryElse : goal.returns-in-TryElse
returns-in-TryElse c =
    let read = instruction_read c.args.frames.now c.args.rest c.requires.0 c.requires.1 c.requires.2 c.requires.3
    c.requires.4 c.index-frames-rest.result c.index-frames-rest.is c.in-Clause.code c.in-Clause.field-1 c.in-Clause.is
    c.deref.result.now c.deref.ensures c.index.result.now c.index.ensures in
    subst (λ (i : Instruction). IsInstructionThere c.args.frames.now c.args.rest i) c.in-TryElse.is read

pub returns-in_default-index : goal.returns-in_default-index
returns-in_default-index c = λ other there.
    let read = instruction_read c.args.frames.now c.args.rest c.requires.0 c.requires.1 c.requires.2 c.requires.3
    c.requires.4 c.index-frames-rest.result c.index-frames-rest.is c.in-Clause.code c.in-Clause.field-1 c.in-Clause.is
    c.deref.result.now c.deref.ensures c.index.result.now c.index.ensures in
    let found = instruction_there c.args.frames.now c.args.rest (instruction.TryElse other) read.frame read.code
    read.level read.clause there in
    let both : Some c.index.result.now ≡ Some (instruction.TryElse other) = sym read.item ∙ found in
    let same : c.index.result.now ≡ instruction.TryElse other = cc in
    c.in_default-index.not-TryElse other same
