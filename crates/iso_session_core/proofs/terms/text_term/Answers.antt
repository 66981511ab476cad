use Rattle.std.proofs.Common.{◌≡◌, arith, ◌∙◌, sym, ap, if◌then◌else◌, length}
use Rattle.iso_model.specs.Session.Directives.{AClause, PassedOver}
use Rattle.iso_session_core.proofs.TextTermLemmas.{text_pair, clause_compound}
use Rattle.iso_session_core.proofs.terms.text_term.Goals as goal

pub returns-then-eq-3-clause-is : goal.returns-then-eq-3-clause-is
returns-then-eq-3-clause-is c =
    let named = rw c.as_str-in-len2.ensures.value at c.eq-in-len2.ensures in
    let two : length c.as_slice.result.now ≡ 2 = omega (arith, c.in-len2.len_at_least, c.in-len2.len_below) in
    sym (text_pair c.args.term.now c.in-Compound.name c.in-Compound.arguments c.in-Compound.is (rw c.as_slice.ensures.value at two) ∙ ap (λ b. if b then PassedOver else AClause) (sym named ∙ c.if-eq-3.true))

pub returns-else-eq-3-clause-is : goal.returns-else-eq-3-clause-is
returns-else-eq-3-clause-is c =
    let named = rw c.as_str-in-len2.ensures.value at c.eq-in-len2.ensures in
    let two : length c.as_slice.result.now ≡ 2 = omega (arith, c.in-len2.len_at_least, c.in-len2.len_below) in
    sym (text_pair c.args.term.now c.in-Compound.name c.in-Compound.arguments c.in-Compound.is (rw c.as_slice.ensures.value at two) ∙ ap (λ b. if b then PassedOver else AClause) (sym named ∙ c.if-eq-3.false))

pub returns-in-len3-up-clause-is : goal.returns-in-len3-up-clause-is
returns-in-len3-up-clause-is c =
    clause_compound c.args.term.now c.in-Compound.name c.in-Compound.arguments c.in-Compound.is
    (λ one. absurd (omega (arith, one, c.as_slice.ensures.len, c.in-len3-up.len_at_least))) (λ two. absurd (omega (arith, two, c.as_slice.ensures.len, c.in-len3-up.len_at_least)))
