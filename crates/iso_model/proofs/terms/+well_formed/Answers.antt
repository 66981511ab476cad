use Rattle.std.proofs.Common.{ap, ◌∙◌, sym, ◌&&◌}
use Rattle.iso_model.specs.Terms.TermOf.{row_of}
use Rattle.iso_model.specs.Terms.Trees.{arities_fit}
use Rattle.iso_model.proofs.OnTerms.RowLemmas.{arities_of}
use Rattle.iso_model.proofs.terms.+well_formed.Goals as goal

pub returns-then-not-is_arity : goal.returns-then-not-is_arity
returns-then-not-is_arity t c =
    let e = rw c.as_slice-arguments.ensures.value at c.is_arity.ensures in
    let whole = arities_of _ _ c.in-Compound.arguments c.is_arity.result c.in-Compound.is e in
    sym (whole ∙ ap (λ b. b && arities_fit (row_of c.in-Compound.arguments.items)) c.if-not-is_arity.true)

pub loop-argument-init : goal.loop-argument-init
loop-argument-init t c =
    let e = rw c.as_slice-arguments.ensures.value at c.is_arity.ensures in
    let whole = arities_of _ _ c.in-Compound.arguments c.is_arity.result c.in-Compound.is e in
    rw c.as_slice-arguments.ensures.value (sym (whole ∙ ap (λ b. b && arities_fit (row_of c.in-Compound.arguments.items)) c.if-not-is_arity.false))
