use Rattle.std.proofs.Common.{Some, Ok, rules, arith, ap}
use Rattle.std.specs.Prelude.{FitsSigned}
use Rattle.std.specs.Int.{w128}
use Rattle.std.proofs.lemmas.Int.{to_z-of_z}
use Rattle.std.proofs.lemmas.List.Elements.{All-pop}
use Rattle.iso_model.specs.Search.Arithmetic.{value}
use Rattle.iso_store_core.specs.Presents.{meaning}
use Rattle.iso_arith.specs.Evaluations.{IsTask, task_value, next_load}
use Rattle.iso_arith.proofs.EvaluationLemmas.{fault_stays, fault_answers, term_next, task_next, made_next, tasks_load-more}
use Rattle.iso_arith.proofs.evaluation.eval_any.Goals as goal

pub returns-in_err-next-in-Term : goal.returns-in_err-next-in-Term
returns-in_err-next-in-Term g c =
    let p = g.S.Store.present c.args.store.now in
    let names = g.S.Store.names c.args.store.now in
    let all = value (meaning p c.args.expression) in
    let leads = term_next p c.evaluating.tasks.items c.evaluating.next c.in-Term.word all c.in-Term.is c.evaluating.invariant.value in
    let fault = c.in_err-next-in-Term.field-0.0 in
    fault_answers names c.from_residual.result fault all c.from_residual.ensures.1 (fault_stays p names c.evaluating.tasks.items (value (meaning p c.in-Term.word)) all fault c.in_err-next-in-Term.ensures.step leads)

pub go_on-requires-clause-task : goal.go_on-requires-clause-task
go_on-requires-clause-task g c =
    let p = g.S.Store.present c.args.store.now in
    (All-pop (IsTask p) c.evaluating.tasks.items c.pop.new.self.items (Some c.in-Some.task) c.in-Some.ensures.items c.evaluating.invariant.tasks).1

pub returns-in_err-next-in-Some : goal.returns-in_err-next-in-Some
returns-in_err-next-in-Some g c =
    let p = g.S.Store.present c.args.store.now in
    let names = g.S.Store.names c.args.store.now in
    let all = value (meaning p c.args.expression) in
    let fits : FitsSigned w128 c.in-Value.value = search rules in
    let step = rw (to_z-of_z w128 c.in-Value.value fits) at c.in_err-next-in-Some.ensures.step in
    let leads = task_next p c.pop.new.self.items c.evaluating.tasks.items c.in-Some.task c.evaluating.next c.in-Value.value all c.in-Value.is c.in-Some.ensures.items c.evaluating.invariant.value in
    let fault = c.in_err-next-in-Some.field-0.0 in
    fault_answers names c.from_residual-in_err-next-in-Some.result fault all c.from_residual-in_err-next-in-Some.ensures.1
    (fault_stays p names c.pop.new.self.items (task_value p c.in-Some.task (Ok c.in-Value.value)) all fault step leads)

pub evaluating-smaller : goal.evaluating-smaller
evaluating-smaller g c =
    let p = g.S.Store.present c.args.store.now in
    let popped = tasks_load-more p c.pop.new.self.items c.evaluating.tasks.items c.in-Some.task c.in-Some.ensures.items in
    let none = ap (next_load p) c.in-Value.is in
    let less = c.in_ok-next-in-Some.ensures.load in
    omega (arith, popped, none, less)

pub evaluating-preserved : goal.evaluating-preserved
evaluating-preserved g c =
    let p = g.S.Store.present c.args.store.now in
    let fits : FitsSigned w128 c.in-Value.value = search rules in
    let same = to_z-of_z w128 c.in-Value.value fits in
    let step = rw same at c.in_ok-next-in-Some.ensures.step in
    record {
      tasks = c.in_ok-next-in-Some.ensures.tasks;
      next = c.in_ok-next-in-Some.ensures.next;
      value = made_next p c.pop.new.self.items c.evaluating.tasks.items c.go_on.new.tasks.items c.in-Some.task c.evaluating.next c.in_ok-next-in-Some.next c.in-Value.value (value (meaning p c.args.expression)) c.in-Value.is
          c.in-Some.ensures.items c.evaluating.invariant.value step;
    }
