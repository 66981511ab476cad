use Rattle.std.proofs.Common.{◌++◌, ap, sym, ◌∙◌, arith}
use Rattle.iso_prep.specs.Uses.{goal_terms}
use Rattle.iso_prep.proofs.ConversionLemmas.{terms_load-popped}
use Rattle.iso_prep.proofs.GoalLemmas.{goals_popped}
use Rattle.iso_prep.proofs.goals.collected.Goals as goal

pub loop-part-smaller : goal.loop-part-smaller
loop-part-smaller c =
    let popped = terms_load-popped c.pop.new.self.items c.loop-part.rest.items c.in-Some.part c.in-Some.ensures.items in
    let less = c.in_ok-collect_next.ensures.load in
    omega arith

pub loop-part-preserved : goal.loop-part-preserved
loop-part-preserved c =
    let popped = goals_popped c.pop.new.self.items c.loop-part.rest.items c.in-Some.part c.in-Some.ensures.items in
    c.in_ok-collect_next.ensures.goals ∙ ap (λ gs. goal_terms c.loop-part.goals.items ++ gs) (sym popped) ∙ c.loop-part.invariant
