use Rattle.std.proofs.Common.{◌∷◌, [], sym, ◌∙◌, refl, Some}
use Rattle.std.proofs.lemmas.List.Elements.{All-pop}
use Rattle.iso_store.specs.Searching.{IsThere}
use Rattle.iso_store.specs.Listing.{seen, seen_after}
use Rattle.iso_store.proofs.ListingLemmas.{are-parts, after-more, listed-tasks}
use Rattle.iso_store.proofs.variables.variables_with.Goals as goal

pub do_task-requires-clause-done : goal.do_task-requires-clause-done
do_task-requires-clause-done g c =
    let p = g.S.Primitives.present c.args.store.now in
    let at = g.S.Primitives.at_place c.args.store.now in
    let l = c.loop-task.listing in
    (are-parts p at (seen p l) c.pop.new.self.items (c.in-Some.task ∷ []) (rw c.in-Some.ensures.items at c.loop-task.invariant.listing.sound)).1

pub do_task-requires-clause-listing : goal.do_task-requires-clause-listing
do_task-requires-clause-listing g c =
    let p = g.S.Primitives.present c.args.store.now in
    let at = g.S.Primitives.at_place c.args.store.now in
    let l = c.loop-task.listing in
    let sound = (are-parts p at (seen p l) c.pop.new.self.items (c.in-Some.task ∷ []) (rw c.in-Some.ensures.items at c.loop-task.invariant.listing.sound)).0 in
    let there = (All-pop (IsThere p) _ _ (Some c.in-Some.task) c.in-Some.ensures.items c.loop-task.invariant.listing.there).0 in
    listed-tasks p at (g.S.Primitives.variable_place c.args.store.now) l (record { found = l.found; searched = l.searched; tasks = c.pop.new.self }) _ (seen_after p (seen p l) (c.in-Some.task ∷ [])) refl refl there sound
    c.loop-task.invariant.listing

pub loop-task-preserved : goal.loop-task-preserved
loop-task-preserved g c =
    let p = g.S.Primitives.present c.args.store.now in
    let l = c.loop-task.listing in
    let popped = after-more p (seen p l) c.pop.new.self.items l.tasks.items c.in-Some.task c.in-Some.ensures.items in
    record {
      listing = c.in_ok-do_task.ensures.listing;
      seen = c.in_ok-do_task.ensures.seen ∙ sym popped ∙ c.loop-task.invariant.seen;
    }
