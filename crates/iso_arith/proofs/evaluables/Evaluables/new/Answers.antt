use Rattle.iso_model.specs.Search.Arithmetic.{operations_of_one}
use Rattle.iso_arith.specs.Operations.{does_unary, does_binary}
use Rattle.iso_arith.proofs.EvaluableLemmas.{means_by, means_kept}
use Rattle.iso_arith.proofs.evaluables.Evaluables.new.Goals as goal

pub returns-clause-evaluables : goal.returns-clause-evaluables
returns-clause-evaluables g c =
    let first = g.S.Store.names c.interned.new.store in
    let names = g.S.Store.names c.interned-2.new.store in
    let unary = c.in_ok-unary.unary.items in
    record {
      unary = means_kept does_unary first names c.in_ok-binary.ensures.rest.names unary operations_of_one (means_by does_unary first unary _ c.in_ok-unary.ensures.table);
      binary = means_by does_binary names c.in_ok-binary.binary.items _ c.in_ok-binary.ensures.table;
    }
