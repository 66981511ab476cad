use Rattle.std.proofs.Common.{rules}
use Rattle.std.specs.Prelude.{FitsSigned}
use Rattle.std.specs.Int.{w64}
use Rattle.std.proofs.lemmas.Int.{to_z-of_z}
use Rattle.iso_store_core.specs.Presents.{meaning}
use Rattle.iso_arith.proofs.EvaluationLemmas.{value_of_one, value_of_two}
use Rattle.iso_arith.proofs.shorts.short_compound.Goals as goal

pub returns-in_ok-y-in-2 : goal.returns-in_ok-y-in-2
returns-in_ok-y-in-2 g c =
    let p = g.S.Store.present c.args.store.now in
    let names = g.S.Store.names c.args.store.now in
    let call = c.requires.call in
    let found = c.binary.ensures names call.once c.requires.evaluables call.named in
    let x-fits : FitsSigned w64 c.in_ok-x-in-2.x = search rules in
    let y-fits : FitsSigned w64 c.in_ok-y-in-2.y = search rules in
    let made = rw (to_z-of_z w64 c.in_ok-y-in-2.y y-fits) at (rw (to_z-of_z w64 c.in_ok-x-in-2.x x-fits) at c.short_binary.ensures) in
    value_of_two names c.args.name c.args.count (meaning p c.args.word) call c.in-2.is c.binary.result c.in_ok-operation-in-2.operation c.in_ok-operation-in-2.was found
    (meaning p c.arg.result) (meaning p c.arg-in-2.result) c.in_ok-x-in-2.x c.in_ok-y-in-2.y c.arg.ensures.value c.arg-in-2.ensures.value c.in_ok-x-in-2.ensures c.in_ok-y-in-2.ensures
    c.short_binary.result made

pub returns-in_ok-x-in-1 : goal.returns-in_ok-x-in-1
returns-in_ok-x-in-1 g c =
    let p = g.S.Store.present c.args.store.now in
    let names = g.S.Store.names c.args.store.now in
    let call = c.requires.call in
    let found = c.unary.ensures names call.once c.requires.evaluables call.named in
    let fits : FitsSigned w64 c.in_ok-x-in-1.x = search rules in
    let made = rw (to_z-of_z w64 c.in_ok-x-in-1.x fits) at c.short_unary.ensures in
    value_of_one names c.args.name c.args.count (meaning p c.args.word) call c.in-1.is c.unary.result c.in_ok-operation-in-1.operation c.in_ok-operation-in-1.was found
    (meaning p c.arg-in-1.result) c.in_ok-x-in-1.x c.arg-in-1.ensures.value c.in_ok-x-in-1.ensures c.short_unary.result made
