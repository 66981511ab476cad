use Rattle.std.proofs.Common.{ap, ◌∙◌, sym, not}
use Rattle.iso_logic.proofs.ProgramLemmas.{head_is}
use Rattle.iso_logic.proofs.programs.is_user_goal.Goals as goal

pub returns-in-Compound : goal.returns-in-Compound
returns-in-Compound c =
    let test = rw (c.as_str-in-Compound.ensures.value, c.len.ensures, c.in-Compound.arguments.ok.0) at c.is_built_in-in-Compound.ensures in
    ap not test ∙ sym (head_is c.args.term.now c.in-Compound.name c.in-Compound.arguments c.in-Compound.is)
