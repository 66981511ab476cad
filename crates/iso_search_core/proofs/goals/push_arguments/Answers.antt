use Rattle.std.proofs.Common.{◌≡◌, ◌+◌, ◌<◌, sym, ap, ◌∙◌, arith, map}
use Rattle.std.proofs.lemmas.List.Elements.{All-push}
use Rattle.iso_model.specs.Terms.Trees.{End, More, count, row}
use Rattle.iso_model.specs.Terms.Arguments.{arguments, joined, member}
use Rattle.iso_store_core.specs.Arguments.{members_from}
use Rattle.iso_store_core.specs.Presents.{Holds, meaning}
use Rattle.iso_search_core.proofs.GoalLemmas.{row_whole, member_next, joined_end, joined_push, row_of_goal}
use Rattle.iso_search_core.proofs.goals.push_arguments.Goals as goal

pub loop-index-preserved : goal.loop-index-preserved
loop-index-preserved g c =
    let p = g.S.Store.present c.args.store.now in
    let t = meaning p c.args.word in
    let ts = arguments t in
    let i = c.loop-index.index in
    let items = c.loop-index.words.items in
    let many = c.argument_count-count.ensures.count in
    let within : i < count ts = omega (arith, many, c.loop-index-test.true) in
    let next : More (member i ts) (members_from (i + 1) ts) ≡ members_from i ts = sym (member_next i ts (row_of_goal t c.argument_count-count.ensures.term) within) in (
      rw c.in_ok-push.ensures.items
          (joined_push (meaning p) items c.arg.result (members_from (i + 1) ts) ∙ ap (λ u. joined (row (map (meaning p) items)) (More u (members_from (i + 1) ts))) c.arg.ensures.value
          ∙ ap (joined (row (map (meaning p) items))) next ∙ c.loop-index.invariant.0),
      rw c.in_ok-push.ensures.items (All-push (λ w. Holds p w) items c.arg.result c.loop-index.invariant.1 c.arg.ensures.holds),
    )

pub returns-clause-values : goal.returns-clause-values
returns-clause-values g c =
    let p = g.S.Store.present c.args.store.now in
    let t = meaning p c.args.word in
    let ts = arguments t in
    let i = c.loop-index.index in
    let items = c.loop-index.words.items in
    let many = c.argument_count-count.ensures.count in
    let here : i ≡ count ts = omega (arith, many, c.loop-index-test.false, c.loop-index.auto.index-end) in
    let whole : members_from i ts ≡ End = ap (λ n. members_from n ts) here ∙ row_whole ts (row_of_goal t c.argument_count-count.ensures.term) in
    sym (joined_end (meaning p) items) ∙ ap (joined (row (map (meaning p) items))) (sym whole) ∙ c.loop-index.invariant.0
