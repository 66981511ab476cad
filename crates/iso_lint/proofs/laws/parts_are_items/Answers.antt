use Rattle.iso_lint.proofs.PartLemmas.{parts_same}
use Rattle.iso_lint.proofs.laws.parts_are_items.Goals as goal

pub returns : goal.returns
returns c = parts_same
