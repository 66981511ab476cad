use Rattle.iso_plain_core.specs.Standing.{ends}
use Rattle.iso_plain.proofs.linked.LinkedLists.nothing.Goals as goal

pub returns-clause-list : goal.returns-clause-list
returns-clause-list g c = λ p l k. ends
