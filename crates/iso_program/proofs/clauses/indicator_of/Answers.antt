use Rattle.iso_program.proofs.ClauseLemmas.{key_of_compound}
use Rattle.iso_program.proofs.clauses.indicator_of.Goals as goal

pub returns-in-Compound : goal.returns-in-Compound
returns-in-Compound c = rw (c.as_str-in-Compound.ensures.value, c.len.ensures) (key_of_compound c.args.term.now c.in-Compound.name c.in-Compound.arguments c.in-Compound.is)
