use Rattle.std.proofs.Common.{map, true, subst, arith}
use Rattle.iso_model.specs.Terms.Trees.{row}
use Rattle.iso_model.specs.Search.Walker.{repeated}
use Rattle.iso_store_core.specs.Presents.{meaning, IsUnification}
use Rattle.iso_store_core.specs.Retaining.{Takes}
use Rattle.iso_store_core.proofs.RetainLemmas.{takes_on, takes_most}
use Rattle.iso_lib_core.proofs.TogetherLemmas.{collected_then, made_then}
use Rattle.iso_lib_core.proofs.collecting.meet_copied.Goals as goal

pub returns-clause-collected : goal.returns-clause-collected
returns-clause-collected g c =
    let p = g.S.Store.present c.args.store.now in
    let m = g.S.Store.present c.unify_all.new.store in
    let q = g.S.Store.present c.equate_collection.new.store in
    let ws = map (meaning p) c.args.witnesses.now in
    let first : IsUnification p m (repeated (meaning p c.args.by.witness) ws) (row ws) true = rw c.if-not-branch.false at c.in_ok-unify_all.ensures.unified in
    collected_then p m q c.args.by.witness c.args.by.result c.args.by.sorts c.args.witnesses.now c.args.items.now c.requires.result c.requires.items first c.equate_collection.result
    c.equate_collection.ensures.replies

pub returns-clause-cells : goal.returns-clause-cells
returns-clause-cells g c = λ u h.
    let p = g.S.Store.present c.args.store.now in
    let m = g.S.Store.present c.unify_all.new.store in
    let q = g.S.Store.present c.equate_collection.new.store in
    let ws = map (meaning p) c.args.witnesses.now in
    let first : IsUnification p m (repeated (meaning p c.args.by.witness) ws) (row ws) true = rw c.if-not-branch.false at c.in_ok-unify_all.ensures.unified in
    let made = made_then p m q c.args.by.witness c.args.by.result c.args.by.sorts c.args.witnesses.now c.args.items.now c.requires.result c.requires.items first u h in
    subst (λ n. Takes g.S.Store c.args.store.now c.equate_collection.new.store n) made (takes_most _ (omega arith) (takes_on c.unify_all.ensures.cells c.equate_collection.ensures.cells))
