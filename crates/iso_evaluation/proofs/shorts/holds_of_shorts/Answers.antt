use Rattle.std.proofs.Common.{◌≡◌, Ok, length, sym, subst, rules}
use Rattle.std.specs.List.{AllZip}
use Rattle.iso_arith.specs.Operations.{does_binary}
use Rattle.iso_model.specs.Search.Library.{compares}
use Rattle.iso_instructions.specs.declared.instructions.Step.TheVariants as step
use Rattle.iso_instructions.specs.Steps.{IsStep}
use Rattle.iso_evaluation.specs.Running.{HoldsOfTwo, on_both, operand_value}
use Rattle.iso_evaluation.proofs.ShortLemmas.{four_there}
use Rattle.iso_evaluation.proofs.ValueLemmas.{both_hold, operand_and_operation, operation_and_operand, two_done}
use Rattle.iso_evaluation.proofs.shorts.holds_of_shorts.Goals as goal

pub returns-in-Some : goal.returns-in-Some
returns-in-Some g c next s ks stand zip =
    let names = g.S.Store.names c.args.store.now in
    let l = c.in-Some.left.now in
    let r = c.in-Some.right.now in
    let x = c.in_ok-x.x in
    let y = c.in_ok-y.y in
    let alone = subst (λ js. AllZip (IsStep names) ks js) c.in-Some.ensures zip in
    let holds : c.holds.result ≡ compares c.args.comparison x y = search rules in
    subst (HoldsOfTwo names c.args.comparison (Ok c.holds.result)) (sym (two_done names next s ks l r alone))
    (both_hold names c.args.comparison (operand_value names next s l) (operand_value names next s r) x y c.holds.result
    (c.in_ok-x.ensures next s stand) (c.in_ok-y.ensures next s stand) holds)

pub short_operand-requires-in-Some-operand_and_operation-clause-operand :
    goal.short_operand-requires-in-Some-operand_and_operation-clause-operand
short_operand-requires-in-Some-operand_and_operation-clause-operand g c =
    let found = c.in-Some-operand_and_operation in
    (four_there (length (g.S.Store.names c.args.store.now)) (length c.args.environment.now) c.args.steps.now (step.Value found.operand.now)
    (step.Value found.left.now) (step.Value found.right.now) (step.Two found.operation) found.ensures c.requires.steps).0

pub short_both-requires-clause-left : goal.short_both-requires-clause-left
short_both-requires-clause-left g c =
    let found = c.in-Some-operand_and_operation in
    (four_there (length (g.S.Store.names c.args.store.now)) (length c.args.environment.now) c.args.steps.now (step.Value found.operand.now)
    (step.Value found.left.now) (step.Value found.right.now) (step.Two found.operation) found.ensures c.requires.steps).1

pub short_both-requires-clause-right : goal.short_both-requires-clause-right
short_both-requires-clause-right g c =
    let found = c.in-Some-operand_and_operation in
    (four_there (length (g.S.Store.names c.args.store.now)) (length c.args.environment.now) c.args.steps.now (step.Value found.operand.now)
    (step.Value found.left.now) (step.Value found.right.now) (step.Two found.operation) found.ensures c.requires.steps).2

pub returns-in-Some-operand_and_operation : goal.returns-in-Some-operand_and_operation
returns-in-Some-operand_and_operation g c next s ks stand zip =
    let names = g.S.Store.names c.args.store.now in
    let found = c.in-Some-operand_and_operation in
    let o = found.operand.now in
    let l = found.left.now in
    let r = found.right.now in
    let x = c.in_ok-x-2.x in
    let y = c.in_ok-y-2.y in
    let answer = c.holds-in-Some-operand_and_operation.result in
    let all = subst (λ js. AllZip (IsStep names) ks js) found.ensures zip in
    let holds : answer ≡ compares c.args.comparison x y = search rules in
    subst (HoldsOfTwo names c.args.comparison (Ok answer)) (sym (operand_and_operation names next s ks o l r found.operation all))
    (both_hold names c.args.comparison (operand_value names next s o)
    (on_both (operand_value names next s l) (operand_value names next s r) (does_binary found.operation)) x y answer
    (c.in_ok-x-2.ensures next s stand) (c.in_ok-y-2.ensures next s stand) holds)

pub short_both-requires-in-Some-operation_and_operand-clause-left : goal.short_both-requires-in-Some-operation_and_operand-clause-left
short_both-requires-in-Some-operation_and_operand-clause-left g c =
    let found = c.in-Some-operation_and_operand in
    (four_there (length (g.S.Store.names c.args.store.now)) (length c.args.environment.now) c.args.steps.now (step.Value found.left.now)
    (step.Value found.right.now) (step.Two found.operation) (step.Value found.operand.now) found.ensures c.requires.steps).0

pub short_both-requires-in-Some-operation_and_operand-clause-right : goal.short_both-requires-in-Some-operation_and_operand-clause-right
short_both-requires-in-Some-operation_and_operand-clause-right g c =
    let found = c.in-Some-operation_and_operand in
    (four_there (length (g.S.Store.names c.args.store.now)) (length c.args.environment.now) c.args.steps.now (step.Value found.left.now)
    (step.Value found.right.now) (step.Two found.operation) (step.Value found.operand.now) found.ensures c.requires.steps).1

pub short_operand-requires-in-Some-operation_and_operand-clause-operand :
    goal.short_operand-requires-in-Some-operation_and_operand-clause-operand
short_operand-requires-in-Some-operation_and_operand-clause-operand g c =
    let found = c.in-Some-operation_and_operand in
    (four_there (length (g.S.Store.names c.args.store.now)) (length c.args.environment.now) c.args.steps.now (step.Value found.left.now)
    (step.Value found.right.now) (step.Two found.operation) (step.Value found.operand.now) found.ensures c.requires.steps).3

pub returns-in-Some-operation_and_operand : goal.returns-in-Some-operation_and_operand
returns-in-Some-operation_and_operand g c next s ks stand zip =
    let names = g.S.Store.names c.args.store.now in
    let found = c.in-Some-operation_and_operand in
    let o = found.operand.now in
    let l = found.left.now in
    let r = found.right.now in
    let x = c.in_ok-x-3.x in
    let y = c.in_ok-y-3.y in
    let answer = c.holds-in-Some-operation_and_operand.result in
    let all = subst (λ js. AllZip (IsStep names) ks js) found.ensures zip in
    let holds : answer ≡ compares c.args.comparison x y = search rules in
    subst (HoldsOfTwo names c.args.comparison (Ok answer)) (sym (operation_and_operand names next s ks l r found.operation o all))
    (both_hold names c.args.comparison (on_both (operand_value names next s l) (operand_value names next s r) (does_binary found.operation))
    (operand_value names next s o) x y answer (c.in_ok-x-3.ensures next s stand) (c.in_ok-y-3.ensures next s stand) holds)
