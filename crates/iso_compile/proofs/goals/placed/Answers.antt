use Rattle.iso_compile.proofs.GoalLemmas.{placed_more}
use Rattle.iso_compile.proofs.goals.placed.Goals as goal

pub loop-variable-preserved : goal.loop-variable-preserved
loop-variable-preserved c =
    placed_more c.args.plan.now.places c.loop-variable.variable c.place.result c.is_placed.result c.loop-variable.list.items _ c.place.ensures c.is_placed.ensures c.in_ok-push.ensures.items c.loop-variable.invariant
