use Rattle.iso_atoms.specs.Texts.{text_at}
use Rattle.iso_model.specs.Search.Arithmetic.{operations_of_one}
use Rattle.iso_arith.specs.Operations.{does_unary}
use Rattle.iso_arith.proofs.EvaluableLemmas.{found_means}
use Rattle.iso_arith.proofs.evaluables.Evaluables.unary.Goals as goal

pub returns : goal.returns
returns c = λ names once are here.
    let looked = rw c.deref.ensures.value at c.find.ensures in
    found_means does_unary names c.args.self.now.unary.items operations_of_one c.find.result (text_at names c.args.name) are.unary (looked names once are.unary.within here)
