use Rattle.std.proofs.Common.{IfOk, subst}
use Rattle.iso_model.specs.Terms.TermOf.{term_of}
use Rattle.iso_model.specs.Terms.Unification.Applied.{apply_none}
use Rattle.iso_store_core.specs.Patterns.{IsPattern}
use Rattle.iso_store.proofs.heap.HeapStore.pattern.Goals as goal

pub returns-clause-pattern : goal.returns-clause-pattern
returns-clause-pattern c =
    subst (λ t. IfOk c.written.result (λ r. IsPattern c.written.new.store.atoms r.parts.items t)) (apply_none (term_of c.args.term.now)) c.written.ensures.pattern
