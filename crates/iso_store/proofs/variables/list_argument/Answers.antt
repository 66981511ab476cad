use Rattle.std.proofs.Common.{◌+◌, ◌<◌, sym, ap, ◌∙◌, subst, refl, arith}
use Rattle.std.specs.List.{All}
use Rattle.std.proofs.lemmas.List.Elements.{All-push}
use Rattle.iso_store.specs.declared.occurs.Task.TheVariants.{Search}
use Rattle.iso_model.proofs.OnTerms.CopyingLemmas.{on_ok_by}
use Rattle.iso_model.specs.Terms.Variables.{distinct_from}
use Rattle.iso_store_core.specs.Presents.{meaning}
use Rattle.iso_store.specs.Searching.{IsThere}
use Rattle.iso_store.specs.Listing.{IsListing, seen, seen_after}
use Rattle.iso_store.proofs.SearchLemmas.{load-push}
use Rattle.iso_store.proofs.TaskLemmas.{load-last, load-more}
use Rattle.iso_store.proofs.ListingLemmas.{distinct-last, after-argument, are-argument, listed-tasks}
use Rattle.iso_store.proofs.variables.list_argument.Goals as goal

pub list_next-requires-clause-listing : goal.list_next-requires-clause-listing
list_next-requires-clause-listing g c =
    let p = g.S.Primitives.present c.args.store.now in
    let at = g.S.Primitives.at_place c.args.store.now in
    let task = c.requires.task in
    let l = c.args.listing.now in
    let same = distinct-last p at l.tasks.items c.args.word c.args.index c.args.count task.1 task.2 _ c.arg-argument.ensures.value (seen p l) c.if-index-count.true in
    subst (λ s. IsListing p at (g.S.Primitives.variable_place c.args.store.now) s l) same c.requires.listing

pub returns-then-index-count-clause-seen : goal.returns-then-index-count-clause-seen
returns-then-index-count-clause-seen g c =
    let p = g.S.Primitives.present c.args.store.now in
    let at = g.S.Primitives.at_place c.args.store.now in
    let task = c.requires.task in
    let l = c.args.listing.now in
    let same = distinct-last p at l.tasks.items c.args.word c.args.index c.args.count task.1 task.2 _ c.arg-argument.ensures.value (seen p l) c.if-index-count.true in
    on_ok_by c.list_next.result c.list_next.ensures.seen (λ done. done ∙ ap (λ s. seen_after p s l.tasks.items) (sym same))

pub returns-then-index-count-clause-load : goal.returns-then-index-count-clause-load
returns-then-index-count-clause-load g c =
    let p = g.S.Primitives.present c.args.store.now in
    let task = c.requires.task in
    on_ok_by c.list_next.result c.list_next.ensures.load (load-last c.args.index c.args.count (meaning p c.args.word) (meaning p c.arg-argument.result) task.1 task.2 c.arg-argument.ensures.value _ _)

pub list_next-requires-2-clause-listing : goal.list_next-requires-2-clause-listing
list_next-requires-2-clause-listing g c =
    let p = g.S.Primitives.present c.args.store.now in
    let at = g.S.Primitives.at_place c.args.store.now in
    let task = c.requires.task in
    let l = c.args.listing.now in
    let below : c.args.index + 1 < c.args.count = let less = task.1 in let other = c.if-index-count.false in omega arith in
    let there : All (IsThere p) c.push.new.self.items = rw c.in_ok-push.ensures.items (All-push (IsThere p) l.tasks.items (Search c.args.word (c.args.index + 1) c.args.count) c.requires.listing.there (task.0, below, task.2)) in
    let sound = are-argument p at l.tasks.items c.args.word c.args.index c.args.count task.1 task.2 _ c.arg-argument.ensures.value (seen p l) c.push.new.self.items c.in_ok-push.ensures.items c.requires.listing.sound in
    listed-tasks p at (g.S.Primitives.variable_place c.args.store.now) l (record { found = l.found; searched = l.searched; tasks = c.push.new.self }) _ (distinct_from (seen p l) (meaning p c.arg-argument.result)) refl refl there sound c.requires.listing

pub returns-clause-seen : goal.returns-clause-seen
returns-clause-seen g c =
    let p = g.S.Primitives.present c.args.store.now in
    let at = g.S.Primitives.at_place c.args.store.now in
    let task = c.requires.task in
    let l = c.args.listing.now in
    let more = after-argument p at l.tasks.items c.args.word c.args.index c.args.count task.1 task.2 _ c.arg-argument.ensures.value (seen p l) c.push.new.self.items c.in_ok-push.ensures.items in
    on_ok_by c.list_next-2.result c.list_next-2.ensures.seen (λ done. done ∙ more)

pub returns-clause-load : goal.returns-clause-load
returns-clause-load g c =
    let p = g.S.Primitives.present c.args.store.now in
    let task = c.requires.task in
    on_ok_by c.list_next-2.result c.list_next-2.ensures.load (load-more c.args.index c.args.count (meaning p c.args.word) (meaning p c.arg-argument.result) task.1 task.2 c.arg-argument.ensures.value _ _ _ (load-push p _ _ _ c.in_ok-push.ensures.items))
