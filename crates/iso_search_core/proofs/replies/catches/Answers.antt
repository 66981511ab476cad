use Rattle.std.proofs.Common.{subst, codes, arith}
use Rattle.iso_model.specs.Terms.Trees.{Tree}
use Rattle.iso_model.specs.Search.Errors.{key}
use Rattle.iso_store_core.proofs.ArgumentLemmas.{argument-is}
use Rattle.iso_search_core.specs.Replies.{CanBeRun, IsRefused}
use Rattle.iso_search_core.proofs.ReplyLemmas.{catch_error, catch_found}
use Rattle.iso_search_core.proofs.replies.catches.Goals as goal

pub returns-in-None-clause-replies : goal.returns-in-None-clause-replies
returns-in-None-clause-replies g c = λ t are held.
    let p = g.S.Store.present c.args.store.now in
    let value = argument-is p c.args.arguments.now t 0 c.index-arguments-0.result are (omega arith) c.index-arguments-0.is in
    catch_found g.L.Lists p held t (subst CanBeRun value (rw c.in-None.is at c.in_ok-goal_error.ensures.error))

pub returns-in-Some-clause-replies : goal.returns-in-Some-clause-replies
returns-in-Some-clause-replies g c = λ t are held.
    let p = g.S.Store.present c.args.store.now in
    let value = argument-is p c.args.arguments.now t 0 c.index-arguments-0.result are (omega arith) c.index-arguments-0.is in
    catch_error g.L.Lists p held t c.in-Some.ball (subst (λ (u : Tree). IsRefused u (key (codes "catch") 3) c.in-Some.ball) value (rw c.in-Some.is at c.in_ok-goal_error.ensures.error))
