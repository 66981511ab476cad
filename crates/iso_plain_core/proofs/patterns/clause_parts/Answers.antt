use Rattle.std.proofs.Common.{sym, subst, ◌∙◌}
use Rattle.std.proofs.lemmas.Bool.{false≢true}
use Rattle.iso_prep.proofs.ReadLemmas.{if_ok_by}
use Rattle.iso_program.specs.Kept.{AreTemplates}
use Rattle.iso_plain_core.proofs.WrittenLemmas.{rule_parts, fact_goals, rule_goals, written_ends, goals_written, terms_written}
use Rattle.iso_plain_core.proofs.patterns.clause_parts.Goals as goal

pub returns-clause-parts : goal.returns-clause-parts
returns-clause-parts g c = λ b is.
    if_ok_by c.written_parts.result c.written_parts.ensures.written (λ ws written.
    rule_parts (g.S.Store.names c.written_parts.new.store) b (λ e. false≢true (sym c.if-is_true.false ∙ c.is_true.ensures.1 (sym is.term ∙ e))) ws.items
    (written_ends (g.S.Store.names c.written_parts.new.store) c.in_ok-parts.parts.items ws.items b (rw c.as_slice.ensures.value at written) (c.in_ok-parts.ensures.ends b is.body is.term)))

pub returns-clause-goals : goal.returns-clause-goals
returns-clause-goals g c = λ n b is templates.
    if_ok_by c.written_parts.result c.written_parts.ensures.written (λ ws written.
    goals_written (g.S.Store.names c.written_parts.new.store) n c.in_ok-parts.parts.items ws.items (subst (AreTemplates n) (sym (c.in_ok-parts.ensures.goals b is.body is.term)) templates) (rw c.as_slice.ensures.value at written))

pub returns-clause-terms : goal.returns-clause-terms
returns-clause-terms g c = λ b is.
    if_ok_by c.written_parts.result c.written_parts.ensures.written (λ ws written.
    rule_goals (g.S.Store.names c.written_parts.new.store) b (λ e. false≢true (sym c.if-is_true.false ∙ c.is_true.ensures.1 (sym is.term ∙ e))) ws.items
    (terms_written (g.S.Store.names c.written_parts.new.store) c.in_ok-parts.parts.items ws.items (rw c.as_slice.ensures.value at written) ∙ c.in_ok-parts.ensures.goals b is.body is.term))

pub returns-then-is_true-clause-terms : goal.returns-then-is_true-clause-terms
returns-then-is_true-clause-terms g c = λ b is. fact_goals (g.S.Store.names c.args.store.now) b (is.term ∙ c.is_true.ensures.0 c.if-is_true.true) c.new.result.items c.new.ensures.items
