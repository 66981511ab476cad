use Rattle.iso_prep.proofs.ReadLemmas.{if_ok_by}
use Rattle.iso_prep.proofs.CopyLemmas.{call_copied, goal_copied}
use Rattle.iso_prep.proofs.copies.copy_goal.Goals as goal

pub returns-in-Var : goal.returns-in-Var
returns-in-Var c = if_ok_by c.call_of.result c.call_of.ensures (λ u call. call_copied c.args.variables.now c.args.goal.now u c.in-Var.number c.place_or_len.result c.in-Var.is c.place_or_len.ensures.place call)

pub returns-in-Compound : goal.returns-in-Compound
returns-in-Compound c = if_ok_by c.renumbered.result c.renumbered.ensures (λ u copy. goal_copied c.args.variables.now c.args.goal.now u c.in-Compound.field-0 c.in-Compound.field-1 c.in-Compound.is c.requires copy)
