use Rattle.iso_store.proofs.Steps.{variable_unifier}
use Rattle.iso_store.proofs.unify.bind_constant.Goals as goal

pub returns-clause-unified : goal.returns-clause-unified
returns-clause-unified g c =
    (_, variable_unifier c.args.number _ _ c.requires.variable c.requires.absent c.requires.younger, c.in_ok-bind.ensures.bound)
