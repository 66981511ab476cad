use Rattle.std.proofs.Common.{◌≤◌, ◌+◌, ◌∙◌, [], Ok, ap, sym, subst, to_z, of_z, rules, arith}
use Rattle.std.specs.Prelude.{FitsSigned, codes}
use Rattle.std.specs.Int.{w128}
use Rattle.std.proofs.lemmas.Int.{to_z-of_z}
use Rattle.iso_model.specs.Terms.Trees.{End}
use Rattle.iso_model.specs.Terms.Sizes.{integer_size}
use Rattle.iso_model.specs.Terms.Substitutions.{apply}
use Rattle.iso_model.specs.Search.Errors.{key}
use Rattle.iso_model.specs.Search.Library.{equate_integer}
use Rattle.iso_model.specs.Search.Replies.{Fail}
use Rattle.iso_store_core.specs.Copying.{wide_cells}
use Rattle.iso_store_core.specs.Retaining.{Takes}
use Rattle.iso_store_core.proofs.RetainLemmas.{takes_most, wide-within}
use Rattle.iso_lib_core.specs.Replies.{IsReply}
use Rattle.iso_lib_core.specs.Cells.{made_for}
use Rattle.iso_code.specs.Loaded.{part_at}
use Rattle.iso_compile.specs.Table.{part_term}
use Rattle.iso_compile.specs.Evaluations.{with_one}
use Rattle.iso_compile.specs.Expressions.{done}
use Rattle.iso_evaluation.specs.Running.{LeavesOne}
use Rattle.iso_evaluation.proofs.GoalLemmas.{not_one, one_raised}
use Rattle.iso_evaluation.proofs.goals.evaluate_any.Goals as goal

pub returns-in-Err-clause-replies : goal.returns-in-Err-clause-replies
returns-in-Err-clause-replies g c next s ks stand zip =
    let p = g.S.Store.present c.args.store.now in
    let names = g.S.Store.names c.args.store.now in
    let t = apply s (part_term next (λ r. End) (part_at names 0 c.args.left.now)) in
    one_raised p (key (codes "is") 2) names [] c.in-Err.fault c.raised.result c.raised.ensures (done next s ks []) (equate_integer t)
    (c.in-Err.ensures.leaves next s ks stand zip)

pub returns-in-Ok-None-clause-replies : goal.returns-in-Ok-None-clause-replies
returns-in-Ok-None-clause-replies g c next s ks stand zip =
    let p = g.S.Store.present c.args.store.now in
    let names = g.S.Store.names c.args.store.now in
    let t = apply s (part_term next (λ r. End) (part_at names 0 c.args.left.now)) in
    let left = subst (λ o. LeavesOne names (Ok o) (done next s ks [])) c.in-Ok-None.field-0-is (c.in-Ok-None.ensures.leaves next s ks stand zip) in
    let fails = ap (λ o. with_one o (key (codes "is") 2) (equate_integer t)) left.1 ∙ not_one left.0 (key (codes "is") 2) (equate_integer t) left.2 in
    subst (λ a. IsReply p p a (Ok c.tested.result)) (sym fails) (subst (λ r. IsReply p p Fail (Ok r)) (sym c.tested.ensures) tt)

pub returns-in-Ok-Some-clause-replies : goal.returns-in-Ok-Some-clause-replies
returns-in-Ok-Some-clause-replies g c next s ks stand zip =
    let p = g.S.Store.present c.args.store.now in
    let q = g.S.Store.present c.equate_operand.new.store in
    let names = g.S.Store.names c.args.store.now in
    let t = apply s (part_term next (λ r. End) (part_at names 0 c.args.left.now)) in
    let z = c.in-Ok-Some.value in
    let left = subst (λ o. LeavesOne names (Ok o) (done next s ks [])) c.in-Ok-Some.field-0-is (c.in-Ok-Some.ensures.leaves next s ks stand zip) in
    let goes = ap (λ o. with_one o (key (codes "is") 2) (equate_integer t)) left in
    let fits : FitsSigned w128 z = search rules in
    let replies = rw (to_z-of_z w128 z fits) at
    (subst (λ y. IsReply p q (equate_integer t (to_z w128 (of_z w128 y))) c.equate_operand.result) c.in-Ok-Some.value-is
    (c.equate_operand.ensures.replies next s stand)) in
    subst (λ a. IsReply p q a c.equate_operand.result) (sym goes) replies

pub returns-in-Ok-Some-clause-cells : goal.returns-in-Ok-Some-clause-cells
returns-in-Ok-Some-clause-cells g c next s ks stand zip =
    let names = g.S.Store.names c.args.store.now in
    let t = apply s (part_term next (λ r. End) (part_at names 0 c.args.left.now)) in
    let z = c.in-Ok-Some.value in
    let left = subst (λ o. LeavesOne names (Ok o) (done next s ks [])) c.in-Ok-Some.field-0-is (c.in-Ok-Some.ensures.leaves next s ks stand zip) in
    let goes = ap (λ o. with_one o (key (codes "is") 2) (equate_integer t)) left in
    let fits : FitsSigned w128 z = search rules in
    let cells = rw (to_z-of_z w128 z fits) at
    (subst (λ y. Takes g.S.Store c.args.store.now c.equate_operand.new.store (wide_cells (to_z w128 (of_z w128 y)))) c.in-Ok-Some.value-is
    c.equate_operand.ensures.cells) in
    let most : wide_cells z ≤ 1 + integer_size z = omega (arith, wide-within z) in
    subst (λ a. Takes g.S.Store c.args.store.now c.equate_operand.new.store (made_for a)) (sym goes) (takes_most (1 + integer_size z) most cells)
