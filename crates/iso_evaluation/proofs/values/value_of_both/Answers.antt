use Rattle.iso_evaluation.proofs.ValueLemmas.{operation_can}
use Rattle.iso_evaluation.proofs.values.value_of_both.Goals as goal

pub returns-in_err-of-clause-error : goal.returns-in_err-of-clause-error
returns-in_err-of-clause-error g c =
    operation_can (g.S.Store.names c.args.store.now) c.from_residual-in_err-of.result c.in_err-of.field-0.0 c.from_residual-in_err-of.ensures.1
