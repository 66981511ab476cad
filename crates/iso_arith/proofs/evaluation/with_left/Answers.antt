use Rattle.std.proofs.Common.{arith}
use Rattle.std.specs.Int.{w128}
use Rattle.std.proofs.lemmas.Int.{to_z-of_z}
use Rattle.iso_model.specs.Search.Arithmetic.{value}
use Rattle.iso_store_core.specs.Presents.{meaning}
use Rattle.iso_arith.specs.declared.evaluation.Task.TheVariants.{Combine}
use Rattle.iso_arith.proofs.EvaluationLemmas.{tasks_value-more, tasks_load-more}
use Rattle.iso_arith.proofs.evaluation.with_left.Goals as goal

pub returns-clause-step : goal.returns-clause-step
returns-clause-step g c =
    let p = g.S.Store.present c.args.store.now in
    let items = rw (to_z-of_z w128 c.args.left c.ranges.left) at c.in_ok-push.ensures.items in
    tasks_value-more p c.args.tasks.now.items c.push.new.self.items (Combine c.args.operation c.args.left) (value (meaning p c.args.right)) items

pub returns-clause-load : goal.returns-clause-load
returns-clause-load g c =
    let p = g.S.Store.present c.args.store.now in
    let items = rw (to_z-of_z w128 c.args.left c.ranges.left) at c.in_ok-push.ensures.items in
    let all = tasks_load-more p c.args.tasks.now.items c.push.new.self.items (Combine c.args.operation c.args.left) items in
    omega (arith, all)
