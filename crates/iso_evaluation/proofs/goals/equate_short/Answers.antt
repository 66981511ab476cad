use Rattle.std.proofs.Common.{◌≡◌, ◌<◌, ◌+◌, Ok, eqb, length, ap, sym, subst, ◌∙◌, if◌then◌else◌, of_z, rules}
use Rattle.std.specs.Prelude.{FitsSigned}
use Rattle.std.specs.Int.{w64, w128}
use Rattle.std.specs.Ordering.{int_eq}
use Rattle.std.proofs.lemmas.Int.{to_z-of_z}
use Rattle.iso_model.specs.Terms.Trees.{End, Integer}
use Rattle.iso_model.specs.Terms.Sizes.{integer_size}
use Rattle.iso_model.specs.Terms.Substitutions.{apply}
use Rattle.iso_model.specs.Search.Library as library
use Rattle.iso_model.specs.Search.Replies.{Equate}
use Rattle.iso_lib_core.specs.declared.outcomes.Reply.TheVariants as reply
use Rattle.iso_lib_core.specs.Replies.{IsReply}
use Rattle.iso_code.specs.Loaded.{part_at}
use Rattle.iso_compile.specs.Table.{part_term}
use Rattle.iso_evaluation.proofs.GoalLemmas.{integers_unified, place_means, unification_replies}
use Rattle.iso_evaluation.proofs.goals.equate_short.Goals as goal

pub returns-in-Integer-clause-replies : goal.returns-in-Integer-clause-replies
returns-in-Integer-clause-replies g c next s stand =
    let p = g.S.Store.present c.args.store.now in
    let x = c.in-Integer.other in
    let y = c.args.value in
    let here : FitsSigned w128 x = search rules in
    let narrow : FitsSigned w64 y = search rules in
    let same : c.from.result ≡ y = c.from.ensures ∙ to_z-of_z w64 y narrow in
    let told : eqb (of_z w128 x) (of_z w128 c.from.result) ≡ int_eq x c.from.result = search rules in
    let test = told ∙ ap (int_eq x) same in
    let is = c.tested.ensures ∙ ap (λ b. if b then reply.Done else reply.Fail) test in
    subst (λ o. IsReply p p (library.equate_integer (apply s (part_term next (λ r. End) (part_at (g.S.Store.names c.args.store.now) 0 o))) y) (Ok c.tested.result)) (sym c.in-Integer.is)
    (subst (λ r. IsReply p p (Equate (1 + integer_size y) (Integer x) (Integer y)) (Ok r)) (sym is) (integers_unified p (1 + integer_size y) x y))

pub returns-in_ok-meet_short-in-New-clause-replies : goal.returns-in_ok-meet_short-in-New-clause-replies
returns-in_ok-meet_short-in-New-clause-replies g c next s stand =
    let p = g.S.Store.present c.args.store.now in
    let q = g.S.Store.present c.meet_short.new.self in
    let names = g.S.Store.names c.args.store.now in
    let y = c.args.value in
    let answer = c.in_ok-meet_short-in-New.field-0 in
    let inside : c.in-New.variable < length c.args.environment.now = search rules in
    let narrow : FitsSigned w64 y = search rules in
    let unified = rw (to_z-of_z w64 y narrow) at c.in_ok-meet_short-in-New.ensures.unified in
    let means = place_means p names c.args.environment.now next s stand c.in-New.variable c.index-environment-variable.result c.args.operand.now inside c.index-environment-variable.is c.in-New.is in
    subst (λ r. IsReply p q (library.equate_integer (apply s (part_term next (λ r. End) (part_at names 0 c.args.operand.now))) y) (Ok r)) (sym c.tested-in-New.ensures)
    (subst (λ t. IsReply p q (library.equate_integer t y) (Ok (if answer then reply.Done else reply.Fail))) means
    (unification_replies p q (1 + integer_size y) _ (Integer y) answer unified))
