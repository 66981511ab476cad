use Rattle.std.proofs.Common.{arith, ap, ◌∙◌, sym, ◌&&◌}
use Rattle.iso_model.specs.Terms.TermOf.{term_of}
use Rattle.iso_logic.proofs.ProgramLemmas.{compound_two, clause_other, clause_rule, clause_fact}
use Rattle.iso_logic.proofs.programs.is_definite_clause.Goals as goal
use Rattle.iso_logic.specs.DefinitePrograms.{is_definite_body}

pub returns-in-len1 : goal.returns-in-len1
returns-in-len1 c =
    c.is_user_goal-in-len1.ensures
    ∙ sym (clause_other c.args.clause.now c.in-Compound.name c.in-Compound.arguments c.in-Compound.is
    (λ two. absurd (omega (arith, two, c.as_slice.ensures.len, c.in-len1.len_at_least, c.in-len1.len_below))))

pub returns-in-len3-up : goal.returns-in-len3-up
returns-in-len3-up c =
    c.is_user_goal-in-len3-up.ensures
    ∙ sym (clause_other c.args.clause.now c.in-Compound.name c.in-Compound.arguments c.in-Compound.is
    (λ two. absurd (omega (arith, two, c.as_slice.ensures.len, c.in-len3-up.len_at_least))))

pub returns-then-is_user_goal : goal.returns-then-is_user_goal
returns-then-is_user_goal c =
    let shape = compound_two c.args.clause.now c.in-Compound.name c.in-Compound.arguments c.as_slice.result.now c.head-item.result c.body-item.result
    c.in-Compound.is c.as_slice.ensures.value (omega (arith, c.in-len2.len_at_least, c.in-len2.len_below)) c.head-item.is c.body-item.is in
    let named = rw c.as_str.ensures.value at c.eq.ensures in
    c.is_definite_body.ensures
    ∙ sym (clause_rule (term_of c.args.clause.now) _ _ _ shape (sym named ∙ c.if-eq.true)
    ∙ ap (λ b. b && is_definite_body (term_of c.body-item.result)) (sym c.is_user_goal-then-eq.ensures ∙ c.if-is_user_goal.true))

pub returns-else-is_user_goal : goal.returns-else-is_user_goal
returns-else-is_user_goal c =
    let shape = compound_two c.args.clause.now c.in-Compound.name c.in-Compound.arguments c.as_slice.result.now c.head-item.result c.body-item.result
    c.in-Compound.is c.as_slice.ensures.value (omega (arith, c.in-len2.len_at_least, c.in-len2.len_below)) c.head-item.is c.body-item.is in
    let named = rw c.as_str.ensures.value at c.eq.ensures in
    c.if-is_user_goal.false
    ∙ sym (clause_rule (term_of c.args.clause.now) _ _ _ shape (sym named ∙ c.if-eq.true)
    ∙ ap (λ b. b && is_definite_body (term_of c.body-item.result)) (sym c.is_user_goal-then-eq.ensures ∙ c.if-is_user_goal.false))

pub returns-else-eq : goal.returns-else-eq
returns-else-eq c =
    let shape = compound_two c.args.clause.now c.in-Compound.name c.in-Compound.arguments c.as_slice.result.now c.head-item.result c.body-item.result
    c.in-Compound.is c.as_slice.ensures.value (omega (arith, c.in-len2.len_at_least, c.in-len2.len_below)) c.head-item.is c.body-item.is in
    let named = rw c.as_str.ensures.value at c.eq.ensures in
    c.is_user_goal-else-eq.ensures ∙ sym (clause_fact (term_of c.args.clause.now) _ _ _ shape (sym named ∙ c.if-eq.false))
