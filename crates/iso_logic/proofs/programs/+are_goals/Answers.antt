use Rattle.std.proofs.Common.{arith, ap, ◌∙◌, sym, ◌&&◌}
use Rattle.iso_model.specs.Terms.TermOf.{term_of}
use Rattle.iso_logic.specs.DefinitePrograms.{are_goals}
use Rattle.iso_logic.proofs.ProgramLemmas.{compound_two, goals_user, goals_pair, goals_single}
use Rattle.iso_logic.proofs.programs.+are_goals.Goals as goal

pub returns-in-len1 : goal.returns-in-len1
returns-in-len1 t c =
    c.is_user_goal-in-len1.ensures
    ∙ goals_user c.args.term.now c.in-Compound.name c.in-Compound.arguments c.in-Compound.is
    (λ two. absurd (omega (arith, two, c.as_slice.ensures.len, c.in-len1.len_at_least, c.in-len1.len_below)))

pub returns-in-len3-up : goal.returns-in-len3-up
returns-in-len3-up t c =
    c.is_user_goal-in-len3-up.ensures
    ∙ goals_user c.args.term.now c.in-Compound.name c.in-Compound.arguments c.in-Compound.is
    (λ two. absurd (omega (arith, two, c.as_slice.ensures.len, c.in-len3-up.len_at_least)))

pub returns-then-are_goals : goal.returns-then-are_goals
returns-then-are_goals t c =
    let shape = compound_two c.args.term.now c.in-Compound.name c.in-Compound.arguments c.as_slice.result.now c.first-item.result c.second-item.result
    c.in-Compound.is c.as_slice.ensures.value (omega (arith, c.in-len2.len_at_least, c.in-len2.len_below)) c.first-item.is c.second-item.is in
    let named = rw c.as_str.ensures.value at c.eq.ensures in
    c.are_goals-then-are_goals.ensures
    ∙ sym (goals_pair (term_of c.args.term.now) _ _ _ shape (sym named ∙ c.if-eq.true)
    ∙ ap (λ b. b && are_goals (term_of c.second-item.result)) (sym c.are_goals.ensures ∙ c.if-are_goals.true))

pub returns-else-are_goals : goal.returns-else-are_goals
returns-else-are_goals t c =
    let shape = compound_two c.args.term.now c.in-Compound.name c.in-Compound.arguments c.as_slice.result.now c.first-item.result c.second-item.result
    c.in-Compound.is c.as_slice.ensures.value (omega (arith, c.in-len2.len_at_least, c.in-len2.len_below)) c.first-item.is c.second-item.is in
    let named = rw c.as_str.ensures.value at c.eq.ensures in
    c.if-are_goals.false
    ∙ sym (goals_pair (term_of c.args.term.now) _ _ _ shape (sym named ∙ c.if-eq.true)
    ∙ ap (λ b. b && are_goals (term_of c.second-item.result)) (sym c.are_goals.ensures ∙ c.if-are_goals.false))

pub returns-else-eq : goal.returns-else-eq
returns-else-eq t c =
    let shape = compound_two c.args.term.now c.in-Compound.name c.in-Compound.arguments c.as_slice.result.now c.first-item.result c.second-item.result
    c.in-Compound.is c.as_slice.ensures.value (omega (arith, c.in-len2.len_at_least, c.in-len2.len_below)) c.first-item.is c.second-item.is in
    let named = rw c.as_str.ensures.value at c.eq.ensures in
    c.is_user_goal-else-eq.ensures ∙ goals_single (term_of c.args.term.now) _ _ _ shape (sym named ∙ c.if-eq.false)
