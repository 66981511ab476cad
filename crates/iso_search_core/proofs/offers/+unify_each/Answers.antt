use Rattle.std.proofs.Common.{length, ap, arith, true}
use Rattle.std.proofs.lemmas.List.{length-drop}
use Rattle.iso_store_core.specs.Presents.{meaning, IsUnification}
use Rattle.iso_lib.specs.Settlements.{constant_tree}
use Rattle.iso_search_core.proofs.OfferLemmas.{unified_empty, words_still, unified_behind}
use Rattle.iso_search_core.proofs.GoalLemmas.{slice_behind}
use Rattle.iso_search_core.proofs.offers.+unify_each.Goals as goal

pub unify_each-requires : goal.unify_each-requires
unify_each-requires g t c κs within =
    let less = c.decreases in
    let p = g.S.Store.present c.args.store.now in
    let m = g.S.Store.present c.unify_constant.new.store in
    let rest = ap length (slice_behind c.args.constants.now) in
    let long = length-drop 1 c.args.constants.now in
    let many = c.in-len1-up.len_at_least in
    let first : IsUnification p m (meaning p c.in-Some.word.now) (constant_tree c.constant-item.result) true = rw c.if-not-branch.false at c.in_ok-unify_constant-in-len1-up.ensures.unified in
    let still = words_still p m c.args.words.now c.in-Some.other_words.now c.in-Some.word.now c.in-Some.word.now (constant_tree c.constant-item.result) first c.requires.words c.in-Some.ensures.cases.0 in
    (omega (arith, less, rest, long, many), (within.0, (within.1.0, (within.1.1, still))))

pub returns-in-empty-clause-unified : goal.returns-in-empty-clause-unified
returns-in-empty-clause-unified g t c = rw c.is_empty.ensures (unified_empty (g.S.Store.present c.args.store.now) c.args.words.now c.args.constants.now c.in-empty.len_below)

pub returns-else-not-branch-clause-unified : goal.returns-else-not-branch-clause-unified
returns-else-not-branch-clause-unified g t c =
    let p = g.S.Store.present c.args.store.now in
    let m = g.S.Store.present c.unify_constant.new.store in
    let first : IsUnification p m (meaning p c.in-Some.word.now) (constant_tree c.constant-item.result) true = rw c.if-not-branch.false at c.in_ok-unify_constant-in-len1-up.ensures.unified in
    unified_behind p m (g.S.Store.present c.unify_each.new.store) c.args.words.now c.in-Some.other_words.now c.in-Some.word.now c.args.constants.now c.constant-item.result c.unify_each.result c.requires.words c.in-Some.ensures.cases.0
    c.in-len1-up.len_at_least c.constant-item.is first c.unify_each.ensures.unified
