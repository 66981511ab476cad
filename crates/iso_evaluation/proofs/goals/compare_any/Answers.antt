use Rattle.std.proofs.Common.{Ok, Err, [], sym, subst}
use Rattle.iso_model.specs.Search.Errors.{key}
use Rattle.iso_model.specs.Search.Arithmetic.{Value}
use Rattle.iso_arith.specs.Faults.{IsFault}
use Rattle.iso_model.specs.Search.Library.{comparison_name, compares, tested}
use Rattle.iso_lib_core.specs.Replies.{IsReply, IsNumber}
use Rattle.iso_compile.specs.Expressions.{done}
use Rattle.iso_evaluation.proofs.GoalLemmas.{two_raised, tested_replies}
use Rattle.iso_evaluation.proofs.goals.compare_any.Goals as goal

pub returns-in-Err-clause-replies : goal.returns-in-Err-clause-replies
returns-in-Err-clause-replies g c next s ks stand zip =
    let p = g.S.Store.present c.args.store.now in
    let names = g.S.Store.names c.args.store.now in
    let raises = subst (λ name. (v : Value) → IsFault names c.in-Err.fault v → IsNumber v (key name 2) (Err c.raised.result)) c.name_of.ensures c.raised.ensures in
    two_raised p (key (comparison_name c.args.comparison) 2) names [] c.in-Err.fault c.raised.result raises (done next s ks []) (λ x y. tested (compares c.args.comparison x y)) (c.in-Err.ensures.holds next s ks stand zip)

pub returns-in-Ok-clause-replies : goal.returns-in-Ok-clause-replies
returns-in-Ok-clause-replies g c next s ks stand zip =
    let p = g.S.Store.present c.args.store.now in
    let answer = c.in-Ok.answer in
    let same = c.in-Ok.ensures.holds next s ks stand zip (key (comparison_name c.args.comparison) 2) in
    subst (λ a. IsReply p p a (Ok c.tested.result)) (sym same)
    (subst (λ r. IsReply p p (tested answer) (Ok r)) (sym c.tested.ensures) (tested_replies p answer))
