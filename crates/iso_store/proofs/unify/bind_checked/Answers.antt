use Rattle.std.proofs.Common.{sym, ◌∙◌}
use Rattle.iso_store.proofs.Steps.{variable_unifier, variable_never}
use Rattle.iso_store.proofs.JoinLemmas.{joined-bound}
use Rattle.iso_store.proofs.unify.bind_checked.Goals as goal

pub returns-then-branch-clause-unified : goal.returns-then-branch-clause-unified
returns-then-branch-clause-unified g c = variable_never c.args.number _ _ c.requires.variable (sym c.in_ok-occurs_for.ensures.occurs ∙ c.if-branch.true) c.requires.younger

pub returns-clause-unified : goal.returns-clause-unified
returns-clause-unified g c =
    (_, variable_unifier c.args.number _ _ c.requires.variable (sym c.in_ok-occurs_for.ensures.occurs ∙ c.if-branch.false) c.requires.younger, c.in_ok-bind.ensures.bound)

pub returns-clause-joined : goal.returns-clause-joined
returns-clause-joined g c = λ joined yes. rw c.occurs_for.ensures.joined (joined-bound _ _ c.args.notes.now.joined c.in_ok-bind.ensures.bound c.in_ok-bind.ensures.places joined)
