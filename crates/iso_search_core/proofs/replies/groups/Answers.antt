use Rattle.std.proofs.Common.{codes, ap, sym, subst, ◌∙◌, arith}
use Rattle.iso_model.specs.Terms.Trees.{Tree, arities_fit}
use Rattle.iso_model.specs.Terms.Lists.{is_partial_list}
use Rattle.iso_model.specs.Search.Errors.{key, type_error}
use Rattle.iso_model.specs.Search.Groups.{stripped}
use Rattle.iso_store_core.proofs.ArgumentLemmas.{argument-is}
use Rattle.iso_search_core.specs.Replies.{CanBeRun, IsRefused}
use Rattle.iso_search_core.proofs.ReplyLemmas.{groups_error, groups_found, groups_no_list}
use Rattle.iso_search_core.proofs.replies.groups.Goals as goal

pub returns-in-Some-clause-replies : goal.returns-in-Some-clause-replies
returns-in-Some-clause-replies g c = λ t are held.
    let p = g.S.Store.present c.args.store.now in
    let k = key c.args.name.now 3 in
    let value = c.stripped-goal.ensures.goal ∙ ap stripped (argument-is p c.args.arguments.now t 1 c.index-arguments-1.result are (omega arith) c.index-arguments-1.is) in
    groups_error g.L.Lists p held t c.args.sorts k c.in-Some.ball (subst (λ (u : Tree). IsRefused u k c.in-Some.ball) value (rw c.in-Some.is at c.in_ok-ball.ensures.error))

pub returns-then-not-is_partial_list-clause-replies : goal.returns-then-not-is_partial_list-clause-replies
returns-then-not-is_partial_list-clause-replies g c = λ t are held.
    let p = g.S.Store.present c.args.store.now in
    let words = c.args.arguments.now in
    let k = key c.args.name.now 3 in
    let goal_value = c.stripped-goal.ensures.goal ∙ ap stripped (argument-is p words t 1 c.index-arguments-1.result are (omega arith) c.index-arguments-1.is) in
    let value = argument-is p words t 2 c.index-arguments-2.result are (omega arith) c.index-arguments-2.is in
    let can = subst CanBeRun goal_value (rw c.in_default.is at c.in_ok-ball.ensures.error) in
    let none = sym (ap is_partial_list value) ∙ (sym c.is_partial_list.ensures ∙ c.if-not-is_partial_list.true) in
    let culprit = c.in_ok-culprit.ensures.value ∙ value in
    let is = c.in_ok-ball-2.ensures ∙ ap (λ (x : Tree). type_error (codes "list") x k) culprit in
    groups_no_list g.L.Lists p held t c.args.sorts k c.in_ok-ball-2.ball can none is (sym (ap arities_fit culprit) ∙ c.in_ok-culprit.ensures.well_formed)

pub returns-clause-replies : goal.returns-clause-replies
returns-clause-replies g c = λ t are held.
    let p = g.S.Store.present c.args.store.now in
    let words = c.args.arguments.now in
    let k = key c.args.name.now 3 in
    let goal_value = c.stripped-goal.ensures.goal ∙ ap stripped (argument-is p words t 1 c.index-arguments-1.result are (omega arith) c.index-arguments-1.is) in
    let value = argument-is p words t 2 c.index-arguments-2.result are (omega arith) c.index-arguments-2.is in
    let can = subst CanBeRun goal_value (rw c.in_default.is at c.in_ok-ball.ensures.error) in
    groups_found g.L.Lists p held t c.args.sorts k can (sym (ap is_partial_list value) ∙ (sym c.is_partial_list.ensures ∙ c.if-not-is_partial_list.false))
