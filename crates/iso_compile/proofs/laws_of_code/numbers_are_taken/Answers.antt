use Rattle.iso_compile.proofs.OrderLemmas.{all_between}
use Rattle.iso_compile.proofs.laws_of_code.numbers_are_taken.Goals as goal

pub returns : goal.returns
returns c = all_between
