use Rattle.std.proofs.Common.{IfOk, sym, ap, ◌∙◌, subst}
use Rattle.iso_model.specs.Terms.TermOf.{term_of}
use Rattle.iso_model.specs.Terms.Copies.{copy_from}
use Rattle.iso_model.proofs.OnTerms.LeafLemmas.{term_of_variable}
use Rattle.iso_store_core.specs.Presents.{Makes}
use Rattle.iso_store.proofs.HeapBuilt.{as_present, copied-one}
use Rattle.iso_store.proofs.heap.HeapStore.build.Goals as goal

pub returns-in-Var-clause-made : goal.returns-in-Var-clause-made
returns-in-Var-clause-made c =
    let next = c.args.self.now.next in
    subst (λ t. IfOk c.fresh.result (λ w. Makes (as_present c.args.self.now) (as_present c.fresh.new.self) w t))
    (sym (ap (λ t. copy_from t next) (ap term_of c.in-Var.is ∙ term_of_variable c.in-Var.field-0) ∙ copied-one c.in-Var.field-0 next)) c.fresh.ensures.made
