use Rattle.std.proofs.Common.{◌∷◌, [], ◌++◌, ap, sym, ◌∙◌, subst, arith, refl, is_some}
use Rattle.std.specs.List.{All}
use Rattle.std.proofs.lemmas.List.Elements.{All-push}
use Rattle.iso_store.specs.declared.occurs.Task.TheVariants.{Search, Leave}
use Rattle.iso_model.specs.Terms.Unification.Listed.{Covers}
use Rattle.iso_store_core.specs.Presents.{meaning}
use Rattle.iso_store.specs.Searching.{IsThere}
use Rattle.iso_store.specs.Listing.{IsListing, seen, seen_after}
use Rattle.iso_store.proofs.SearchLemmas.{load-compound}
use Rattle.iso_store.proofs.ListingLemmas.{distinct-known, size-of-term, compound-there, after-compound, are-compound, listed-tasks}
use Rattle.iso_store.proofs.variables.list_next.Goals as goal

pub returns-then-is_some-clause-listing : goal.returns-then-is_some-clause-listing
returns-then-is_some-clause-listing g c =
    let p = g.S.Primitives.present c.args.store.now in
    let at = g.S.Primitives.at_place c.args.store.now in
    let l = c.args.listing.now in
    let some = ap is_some (sym c.at.ensures) ∙ sym c.if-is_some.ensures in
    let covers = subst (Covers (seen p l)) c.in-Some.ensures.value (c.requires.listing.covered c.in-Some.place some) in
    subst (λ s. IsListing p at (g.S.Primitives.variable_place c.args.store.now) s l) (distinct-known (seen p l) (meaning p c.args.word) covers) c.requires.listing

pub returns-then-is_some-clause-seen : goal.returns-then-is_some-clause-seen
returns-then-is_some-clause-seen g c =
    let p = g.S.Primitives.present c.args.store.now in
    let l = c.args.listing.now in
    let some = ap is_some (sym c.at.ensures) ∙ sym c.if-is_some.ensures in
    let covers = subst (Covers (seen p l)) c.in-Some.ensures.value (c.requires.listing.covered c.in-Some.place some) in
    ap (λ s. seen_after p s l.tasks.items) (sym (distinct-known (seen p l) (meaning p c.args.word) covers))

pub returns-then-is_some-clause-load : goal.returns-then-is_some-clause-load
returns-then-is_some-clause-load g c =
    let p = g.S.Primitives.present c.args.store.now in
    let some = size-of-term (meaning p c.args.word) c.shape-shape.ensures.term in
    omega arith

pub returns-in_ok-push-in-Compound-2-clause-listing :
    goal.returns-in_ok-push-in-Compound-2-clause-listing
returns-in_ok-push-in-Compound-2-clause-listing g c =
    let p = g.S.Primitives.present c.args.store.now in
    let at = g.S.Primitives.at_place c.args.store.now in
    let l = c.args.listing.now in
    let here = c.in-Compound.ensures.shape in
    let one = All-push (IsThere p) l.tasks.items (Leave c.in-Some.place) c.requires.listing.there tt in
    let search = compound-there p c.args.word c.in-Compound.count _ here.1 c.requires.word here.2 here.3 c.in-Compound.ensures.term in
    let there : All (IsThere p) c.push-in-Compound-2.new.self.items =
    rw (c.in_ok-push-in-Compound-2.ensures.items, c.in_ok-push-in-Compound.ensures.items) (All-push (IsThere p) (l.tasks.items ++ Leave c.in-Some.place ∷ []) (Search c.args.word 0 c.in-Compound.count) one search) in
    let sound = are-compound p at l.tasks.items _ c.push-in-Compound-2.new.self.items c.args.word c.in-Some.place c.in-Compound.count _ here.1 here.2 here.3
    c.in-Compound.ensures.term c.in-Some.ensures.value c.in_ok-push-in-Compound.ensures.items c.in_ok-push-in-Compound-2.ensures.items (seen p l) c.requires.listing.sound in
    listed-tasks p at (g.S.Primitives.variable_place c.args.store.now) l (record { found = l.found; searched = l.searched; tasks = c.push-in-Compound-2.new.self }) _ (seen p l) refl refl there sound c.requires.listing

pub returns-in_ok-push-in-Compound-2-clause-seen :
    goal.returns-in_ok-push-in-Compound-2-clause-seen
returns-in_ok-push-in-Compound-2-clause-seen g c =
    let here = c.in-Compound.ensures.shape in
    after-compound (g.S.Primitives.present c.args.store.now) (g.S.Primitives.at_place c.args.store.now) _ _ _ c.args.word _ _ _ here.1 here.2 here.3
    c.in-Compound.ensures.term c.in-Some.ensures.value c.in_ok-push-in-Compound.ensures.items c.in_ok-push-in-Compound-2.ensures.items _

pub returns-in_ok-push-in-Compound-2-clause-load :
    goal.returns-in_ok-push-in-Compound-2-clause-load
returns-in_ok-push-in-Compound-2-clause-load g c =
    let here = c.in-Compound.ensures.shape in
    load-compound (g.S.Primitives.present c.args.store.now) (g.S.Primitives.at_place c.args.store.now) 0 _ _ _ c.args.word _ _ _ here.1 here.2 here.3
    c.in-Compound.ensures.term c.in-Some.ensures.value c.in_ok-push-in-Compound.ensures.items c.in_ok-push-in-Compound-2.ensures.items
