use Rattle.iso_atoms.specs.Texts.{text_at}
use Rattle.iso_model.specs.Search.Arithmetic.{operations_of_two}
use Rattle.iso_arith.specs.Operations.{does_binary}
use Rattle.iso_arith.proofs.EvaluableLemmas.{found_means}
use Rattle.iso_arith.proofs.evaluables.Evaluables.binary.Goals as goal

pub returns : goal.returns
returns c = λ names once are here.
    let looked = rw c.deref.ensures.value at c.find.ensures in
    found_means does_binary names c.args.self.now.binary.items operations_of_two c.find.result (text_at names c.args.name) are.binary (looked names once are.binary.within here)
