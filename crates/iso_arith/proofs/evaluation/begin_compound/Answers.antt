use Rattle.std.proofs.Common.{rules, arith, ap}
use Rattle.std.specs.Prelude.{FitsSigned}
use Rattle.std.specs.Int.{w128}
use Rattle.std.proofs.lemmas.Int.{to_z-of_z}
use Rattle.iso_store_core.specs.Presents.{meaning}
use Rattle.iso_arith.specs.Evaluations.{term_load}
use Rattle.iso_arith.proofs.EvaluationLemmas.{some_of_one, step_of_one, load_of_one, less_of_one, some_of_two, step_of_two, step_with_left, load_of_two, less_of_two, less_with_left}
use Rattle.iso_arith.proofs.evaluation.begin_compound.Goals as goal

pub returns-in_ok-push-in-1-clause-step : goal.returns-in_ok-push-in-1-clause-step
returns-in_ok-push-in-1-clause-step g c =
    let p = g.S.Store.present c.args.store.now in
    let names = g.S.Store.names c.args.store.now in
    let t = meaning p c.args.word in
    let call = c.requires.call in
    let found = c.unary.ensures names call.once c.requires.evaluables call.named in
    let is = some_of_one names c.args.name c.args.count t call c.in-1.is c.unary.result c.in-Some.operation c.in-Some.is found in
    step_of_one p c.args.tasks.now.items c.push.new.self.items c.in-Some.operation (meaning p c.arg.result) t c.in_ok-push-in-1.ensures.items c.arg.ensures.value is

pub returns-in_ok-push-in-1-clause-load : goal.returns-in_ok-push-in-1-clause-load
returns-in_ok-push-in-1-clause-load g c =
    let p = g.S.Store.present c.args.store.now in
    let names = g.S.Store.names c.args.store.now in
    let t = meaning p c.args.word in
    less_of_one p c.args.tasks.now.items c.push.new.self.items c.in-Some.operation (meaning p c.arg.result) t c.in_ok-push-in-1.ensures.items c.arg.ensures.value
    (load_of_one names c.args.name c.args.count t c.requires.call c.in-1.is)

pub returns-in-Int-clause-step : goal.returns-in-Int-clause-step
returns-in-Int-clause-step g c =
    let p = g.S.Store.present c.args.store.now in
    let names = g.S.Store.names c.args.store.now in
    let t = meaning p c.args.word in
    let call = c.requires.call in
    let found = c.binary.ensures names call.once c.requires.evaluables call.named in
    let is = some_of_two names c.args.name c.args.count t call c.in-2.is c.binary.result c.in-Some-binary.operation c.in-Some-binary.is found in
    let fits : FitsSigned w128 c.in-Int.value = search rules in
    step_with_left p names c.args.tasks.now.items c.with_left.new.tasks.items c.with_left.result c.in-Some-binary.operation (meaning p c.arg-left.result) (meaning p c.arg-right.result) t
    c.in-Int.value c.arg-left.ensures.value c.arg-right.ensures.value c.in-Int.ensures.shape is (rw (to_z-of_z w128 c.in-Int.value fits) at c.with_left.ensures.step)

pub returns-in-Int-clause-load : goal.returns-in-Int-clause-load
returns-in-Int-clause-load g c =
    let p = g.S.Store.present c.args.store.now in
    let names = g.S.Store.names c.args.store.now in
    let t = meaning p c.args.word in
    let less = load_of_two names c.args.name c.args.count t c.requires.call c.in-2.is in
    let same = ap term_load c.arg-right.ensures.value in
    less_with_left p c.with_left.result c.with_left.new.tasks.items _ _ c.with_left.ensures.load (omega (arith, less, same))

pub returns-in_ok-push-in-2-clause-step : goal.returns-in_ok-push-in-2-clause-step
returns-in_ok-push-in-2-clause-step g c =
    let p = g.S.Store.present c.args.store.now in
    let names = g.S.Store.names c.args.store.now in
    let t = meaning p c.args.word in
    let call = c.requires.call in
    let found = c.binary.ensures names call.once c.requires.evaluables call.named in
    let is = some_of_two names c.args.name c.args.count t call c.in-2.is c.binary.result c.in-Some-binary.operation c.in-Some-binary.is found in
    step_of_two p c.args.tasks.now.items c.push-in-2.new.self.items c.in-Some-binary.operation (meaning p c.arg-left.result) t c.arg-right.result c.in_ok-push-in-2.ensures.items c.arg-left.ensures.value c.arg-right.ensures.value is

pub returns-in_ok-push-in-2-clause-load : goal.returns-in_ok-push-in-2-clause-load
returns-in_ok-push-in-2-clause-load g c =
    let p = g.S.Store.present c.args.store.now in
    let names = g.S.Store.names c.args.store.now in
    let t = meaning p c.args.word in
    less_of_two p c.args.tasks.now.items c.push-in-2.new.self.items c.in-Some-binary.operation (meaning p c.arg-left.result) t c.arg-right.result c.in_ok-push-in-2.ensures.items c.arg-left.ensures.value c.arg-right.ensures.value
    (load_of_two names c.args.name c.args.count t c.requires.call c.in-2.is)
