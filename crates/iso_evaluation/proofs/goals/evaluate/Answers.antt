use Rattle.std.proofs.Common.{ap, sym, subst, rules}
use Rattle.std.specs.Prelude.{FitsSigned, codes}
use Rattle.std.specs.Int.{w64}
use Rattle.std.proofs.lemmas.Int.{to_z-of_z}
use Rattle.iso_model.specs.Terms.Trees.{End}
use Rattle.iso_model.specs.Terms.Substitutions.{apply}
use Rattle.iso_model.specs.Search.Errors.{key}
use Rattle.iso_model.specs.Search.Library.{equate_integer}
use Rattle.iso_lib_core.specs.Replies.{IsReply}
use Rattle.iso_code.specs.Loaded.{part_at}
use Rattle.iso_compile.specs.Table.{part_term}
use Rattle.iso_compile.specs.Evaluations.{with_one}
use Rattle.iso_evaluation.proofs.goals.evaluate.Goals as goal

pub returns-in-Some-clause-replies : goal.returns-in-Some-clause-replies
returns-in-Some-clause-replies g c next s ks stand zip =
    let p = g.S.Store.present c.args.store.now in
    let q = g.S.Store.present c.equate_short.new.store in
    let names = g.S.Store.names c.args.store.now in
    let t = apply s (part_term next (λ r. End) (part_at names 0 c.args.left.now)) in
    let goes = ap (λ o. with_one o (key (codes "is") 2) (equate_integer t)) (c.in-Some.ensures next s ks stand zip) in
    let fits : FitsSigned w64 c.in-Some.value = search rules in
    let replies = rw (to_z-of_z w64 c.in-Some.value fits) at (c.equate_short.ensures.replies next s stand) in
    subst (λ a. IsReply p q a c.equate_short.result) (sym goes) replies
