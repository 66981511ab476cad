use Rattle.std.proofs.Common.{sym, ap, ◌∙◌}
use Rattle.iso_model.specs.Terms.Variables.{occurs}
use Rattle.iso_store.proofs.heap_instructions.HeapCells.is_apart.Goals as goal

pub returns : goal.returns
returns c number is apart = ap (occurs number) (sym c.walked-target.ensures.same) ∙ c.is_end_apart.ensures number (c.in-Var.ensures.same ∙ is) apart
