use Rattle.std.proofs.Common.{◌∙◌, subst}
use Rattle.iso_store_core.specs.Presents.{meaning}
use Rattle.iso_store.specs.Plans.{IsPlan}
use Rattle.iso_store.proofs.PlanMade.{variables-many}
use Rattle.iso_store.proofs.duplicates.plan_copy.Goals as goal

pub returns-clause-count : goal.returns-clause-count
returns-clause-count g c =
    let p = g.S.Primitives.present c.args.store.now in
    c.len-variables.ensures ∙ c.in_ok-words.words.ok.0 ∙ variables-many p (meaning p c.args.word) c.in_ok-words.words.items c.in_ok-words.ensures.variables

pub returns-clause-plan : goal.returns-clause-plan
returns-clause-plan g c =
    let p = g.S.Primitives.present c.args.store.now in
    subst (λ ts. IsPlan (g.S.Primitives.names c.args.store.now) ts c.in_ok-parts.parts.items (meaning p c.args.word)) c.in_ok-words.ensures.variables c.in_ok-parts.ensures
