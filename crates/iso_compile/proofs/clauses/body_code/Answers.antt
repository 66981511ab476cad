use Rattle.std.proofs.Common.{sym, ◌∙◌}
use Rattle.iso_compile.proofs.ClauseLemmas.{fact_does}
use Rattle.iso_compile.proofs.clauses.body_code.Goals as goal

pub returns-then-is_fact-clause-does : goal.returns-then-is_fact-clause-does
returns-then-is_fact-clause-does c b ends =
    fact_does c.args.plan.now c.new-code.result.items c.push.new.self.items c.args.has_head b c.new-code.ensures.items c.in_ok-push.ensures.items c.if-has_head.true (sym (c.is_fact.ensures b ends) ∙ c.if-is_fact.true)
