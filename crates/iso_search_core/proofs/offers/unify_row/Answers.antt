use Rattle.std.proofs.Common.{IfOk, map, ap, subst₂}
use Rattle.iso_model.specs.Terms.Trees.{row}
use Rattle.iso_store_core.specs.Presents.{IsUnification}
use Rattle.iso_lib.specs.Settlements.{constant_tree}
use Rattle.iso_search_core.proofs.OfferLemmas.{goal_words}
use Rattle.iso_search_core.proofs.offers.unify_row.Goals as goal

pub returns-in-Constants-clause-unified : goal.returns-in-Constants-clause-unified
returns-in-Constants-clause-unified g c = λ t are of.
    let p = g.S.Store.present c.args.store.now in
    let q = g.S.Store.present c.unify_each.new.store in
    rw c.in-Constants.is (subst₂ (λ x y. IfOk c.unify_each.result (IsUnification p q x y)) (goal_words p c.args.arguments.now t are) (ap (λ cs. row (map constant_tree cs)) c.as_slice.ensures.value) c.unify_each.ensures.unified)
