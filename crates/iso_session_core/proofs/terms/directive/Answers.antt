use Rattle.std.proofs.Common.{arith, ◌∙◌, sym}
use Rattle.iso_session_core.proofs.TextTermLemmas.{directive_passed, directive_taken, directive_run, compound_one, fits_one, directive_kept, directive_run_one}
use Rattle.iso_session_core.proofs.terms.directive.Goals as goal

pub returns-then-passes_over-clause-is : goal.returns-then-passes_over-clause-is
returns-then-passes_over-clause-is c =
    let passed = rw (c.as_str.ensures.value, c.len.ensures, c.in-Compound.arguments.ok.0) at c.passes_over.ensures in
    directive_passed c.args.goal.now c.in-Compound.name c.in-Compound.arguments c.in-Compound.is (sym passed ∙ c.if-passes_over.true)

pub returns-then-eq-clause-is : goal.returns-then-eq-clause-is
returns-then-eq-clause-is c =
    let passed = rw (c.as_str.ensures.value, c.len.ensures, c.in-Compound.arguments.ok.0) at c.passes_over.ensures in
    let shape = compound_one c.args.goal.now c.in-Compound.name c.in-Compound.arguments c.as_slice.result.now c.kept-item.result c.in-Compound.is c.as_slice.ensures.value (omega (arith, c.in-len1.len_at_least, c.in-len1.len_below)) c.kept-item.is in
    let named = rw c.as_str-in-len1.ensures.value at c.eq.ensures in
    directive_kept c.args.goal.now _ _ shape (sym named ∙ c.if-eq.true)
    ∙ sym (directive_taken c.args.goal.now c.in-Compound.name c.in-Compound.arguments c.in-Compound.is (sym passed ∙ c.if-passes_over.false))

pub returns-then-eq-clause-fits : goal.returns-then-eq-clause-fits
returns-then-eq-clause-fits c = λ fits numbered.
    let shape = compound_one c.args.goal.now c.in-Compound.name c.in-Compound.arguments c.as_slice.result.now c.kept-item.result c.in-Compound.is c.as_slice.ensures.value (omega (arith, c.in-len1.len_at_least, c.in-len1.len_below)) c.kept-item.is in
    fits_one c.args.goal.now _ _ shape fits numbered

pub returns-else-eq-clause-is : goal.returns-else-eq-clause-is
returns-else-eq-clause-is c =
    let passed = rw (c.as_str.ensures.value, c.len.ensures, c.in-Compound.arguments.ok.0) at c.passes_over.ensures in
    let shape = compound_one c.args.goal.now c.in-Compound.name c.in-Compound.arguments c.as_slice.result.now c.kept-item.result c.in-Compound.is c.as_slice.ensures.value (omega (arith, c.in-len1.len_at_least, c.in-len1.len_below)) c.kept-item.is in
    let named = rw c.as_str-in-len1.ensures.value at c.eq.ensures in
    directive_run_one c.args.goal.now _ _ shape (sym named ∙ c.if-eq.false)
    ∙ sym (directive_taken c.args.goal.now c.in-Compound.name c.in-Compound.arguments c.in-Compound.is (sym passed ∙ c.if-passes_over.false))

pub returns-in-len2-up-clause-is : goal.returns-in-len2-up-clause-is
returns-in-len2-up-clause-is c =
    let passed = rw (c.as_str.ensures.value, c.len.ensures, c.in-Compound.arguments.ok.0) at c.passes_over.ensures in
    directive_run c.args.goal.now c.in-Compound.name c.in-Compound.arguments c.in-Compound.is (λ one. absurd (omega (arith, one, c.as_slice.ensures.len, c.in-len2-up.len_at_least)))
    ∙ sym (directive_taken c.args.goal.now c.in-Compound.name c.in-Compound.arguments c.in-Compound.is (sym passed ∙ c.if-passes_over.false))
