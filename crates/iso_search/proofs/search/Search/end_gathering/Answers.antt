use Rattle.std.proofs.Common.{◌≡◌, ◌∙◌, ◌+◌, arith, ap, refl}
use Rattle.iso_model.specs.Terms.Trees.{arities_fit}
use Rattle.iso_search_core.specs.Solutions.{copies_of}
use Rattle.iso_search.specs.Gathers.{found}
use Rattle.iso_store_core.specs.Presents.{meaning}
use Rattle.iso_search.specs.declared.search.Search.{Search}
use Rattle.iso_search.specs.EngineStates.{went_back}
use Rattle.iso_model.specs.Terms.Lists.{list_of}
use Rattle.iso_model.specs.Terms.Sizes.{size}
use Rattle.iso_store_core.proofs.RetainLemmas.{takes_most}
use Rattle.iso_search_core.proofs.FittingLemmas.{fits_taken}
use Rattle.iso_program.proofs.ResultLemmas.{behind_error}
use Rattle.iso_search_core.specs.declared.choices.Left.TheVariants as left
use Rattle.iso_search.proofs.AheadLemmas.{keeps_ahead}
use Rattle.iso_search.proofs.BackLemmas.{tried_same}
use Rattle.iso_search.proofs.Moves.Gather.{gathered_there, found_ahead, found_engine, missed_engine, met_unified, met_never, meets_as}
use Rattle.iso_search.proofs.StoppedLemmas.{keeps_store}
use Rattle.iso_search.proofs.search.Search.end_gathering.Goals as goal

pub take_gathered-gathered-requires-clause-back : goal.take_gathered-gathered-requires-clause-back
take_gathered-gathered-requires-clause-back g c = let b = c.requires.back in (b.0, c.args.solutions, b.1, b.2, b.3, b.4, b.5, b.7, b.8)

pub returns-in_err-unify_gathered-clause-kept : goal.returns-in_err-unify_gathered-clause-kept
returns-in_err-unify_gathered-clause-kept g c = λ ch h s a below mark rest tries w.
    (let mid = c.take_gathered-gathered.new.self in
    let ahead = c.take_gathered-gathered.ensures.ahead ch s a below mark w in
    let same = c.take_gathered-gathered.ensures.gathered ch c.args.solutions h s a below tries w in
    let list : list_of (copies_of c.take_gathered-gathered.result) ≡ list_of (copies_of h) = ap (λ (x : _). list_of (copies_of x)) same in
    let counted = record (went_back a below s) { built = a.built + size (list_of (copies_of h)) } in
    let takes = takes_most {g = g.S.Store} {a = mid.store} {b = c.unify_gathered.new.store} (size (list_of (copies_of h))) (let large = ap size list in omega (arith, large)) c.unify_gathered.ensures.cells in
    behind_error c.from_residual.result (
      keeps_store g.S.Store g.L.Lists mid c.unify_gathered.new.store s.world below (keeps_ahead g.S.Store g.L.Lists mid (went_back a below s) ch.rest ahead) c.unify_gathered.ensures.rest.marks c.unify_gathered.ensures.rest.names,
      fits_taken g.S.Store (went_back a below s) counted takes (omega arith) refl (omega arith) ahead.fits,
    ))

pub unify_gathered-requires-clause-fits : goal.unify_gathered-requires-clause-fits
unify_gathered-requires-clause-fits g c =
    let b = c.requires.back in
    let same = c.take_gathered-gathered.ensures.gathered b.0 c.args.solutions b.1 b.2 b.3 b.4 b.7 b.8 in
    let list : list_of (copies_of c.take_gathered-gathered.result) ≡ list_of (copies_of b.1) = ap (λ (x : _). list_of (copies_of x)) same in
    ap arities_fit list ∙ (gathered_there g.S.Store g.L.Lists c.args.self.now b.0 b.2 b.3 b.4 b.8 c.args.solutions b.1 b.7).fits

pub returns-then-not-branch-clause-found : goal.returns-then-not-branch-clause-found
returns-then-not-branch-clause-found g c = λ ch h s a below mark rest tries w.
    (let e = c.args.self.now in
    let mid = c.take_gathered-gathered.new.self in
    let ahead = c.take_gathered-gathered.ensures.ahead ch s a below mark w in
    let same = c.take_gathered-gathered.ensures.gathered ch c.args.solutions h s a below tries w in
    let list : list_of (copies_of c.take_gathered-gathered.result) ≡ list_of (copies_of h) = ap (λ (x : _). list_of (copies_of x)) same in
    let p = g.S.Store.present mid.store in
    let q = g.S.Store.present c.unify_gathered.new.store in
    let meets = meets_as p q c.in_ok-unify_gathered.field-0 (ap (λ (x : _). meaning x c.args.solutions) c.take_gathered-gathered.ensures.present) list c.in_ok-unify_gathered.ensures.unified in
    missed_engine g.S.Store g.L.Lists e ch s a below w c.args.solutions h tries mid ahead (ap (λ (x : Search _ _ _ _ _ _ _ _ _ _). x.steps) c.take_gathered-gathered.ensures.same) c.unify_gathered.new.store c.unify_gathered.ensures.rest.marks c.unify_gathered.ensures.rest.names (takes_most _ (let large = ap size list in omega (arith, large)) c.unify_gathered.ensures.cells) (met_never p q _ _ _ c.if-not-branch.true meets))

pub coming-self-requires : goal.coming-self-requires
coming-self-requires g c =
    let b = c.requires.back in
    let e = c.args.self.now in
    let mid = c.take_gathered-gathered.new.self in
    let ahead = c.take_gathered-gathered.ensures.ahead b.0 b.2 b.3 b.4 b.5 b.8 in
    let same = c.take_gathered-gathered.ensures.gathered b.0 c.args.solutions b.1 b.2 b.3 b.4 b.7 b.8 in
    let list : list_of (copies_of c.take_gathered-gathered.result) ≡ list_of (copies_of b.1) = ap (λ (x : _). list_of (copies_of x)) same in
    let p = g.S.Store.present mid.store in
    let q = g.S.Store.present c.unify_gathered.new.store in
    let meets = meets_as p q c.in_ok-unify_gathered.field-0 (ap (λ (x : _). meaning x c.args.solutions) c.take_gathered-gathered.ensures.present) list c.in_ok-unify_gathered.ensures.unified in
    let on = found_ahead g.S.Store g.L.Lists e b.0 b.2 b.3 b.4 b.8 c.args.solutions b.1 b.7 mid ahead (ap (λ (x : Search _ _ _ _ _ _ _ _ _ _). x.steps) c.take_gathered-gathered.ensures.same) c.unify_gathered.new.store c.unify_gathered.ensures.rest.marks c.unify_gathered.ensures.rest.names (takes_most _ (let large = ap size list in omega (arith, large)) c.unify_gathered.ensures.cells) g.met.L.Lists.words
    (met_unified p q _ _ _ c.if-not-branch.false meets) in
    ((found (meaning (g.S.Store.present e.store) c.args.solutions) (copies_of b.1) (went_back b.3 b.4 b.2)).list, rw b.6 at on.chain)

pub returns-clause-found : goal.returns-clause-found
returns-clause-found g c = λ ch h s a below mark rest tries w.
    (let e = c.args.self.now in
    let mid = c.take_gathered-gathered.new.self in
    let ahead = c.take_gathered-gathered.ensures.ahead ch s a below mark w in
    let same = c.take_gathered-gathered.ensures.gathered ch c.args.solutions h s a below tries w in
    let list : list_of (copies_of c.take_gathered-gathered.result) ≡ list_of (copies_of h) = ap (λ (x : _). list_of (copies_of x)) same in
    let p = g.S.Store.present mid.store in
    let q = g.S.Store.present c.unify_gathered.new.store in
    let meets = meets_as p q c.in_ok-unify_gathered.field-0 (ap (λ (x : _). meaning x c.args.solutions) c.take_gathered-gathered.ensures.present) list c.in_ok-unify_gathered.ensures.unified in
    found_engine g.S.Store g.L.Lists e ch s a below w c.args.solutions h tries mid ahead (ap (λ (x : Search _ _ _ _ _ _ _ _ _ _). x.steps) c.take_gathered-gathered.ensures.same) c.unify_gathered.new.store c.unify_gathered.ensures.rest.marks c.unify_gathered.ensures.rest.names (takes_most _ (let large = ap size list in omega (arith, large)) c.unify_gathered.ensures.cells)
    c.coming-self.result g.met.L.Lists.words (met_unified p q _ _ _ c.if-not-branch.false meets) (λ ms chain. rw rest (c.coming-self.ensures.behind ms (rw rest at chain))))

pub returns-then-not-branch-clause-costs : goal.returns-then-not-branch-clause-costs
returns-then-not-branch-clause-costs g c =
    let b = c.requires.back in
    let all = c.take_gathered-gathered.ensures.costs b.0 b.2 b.3 b.4 b.8 in
    let here = tried_same (g.L.Lists.cost c.args.self.now.lists) (b.0).left (left.Gathering c.args.solutions b.1) (b.0).rest c.args.newest.rest b.7 b.6 in
    omega (arith, all, here)

pub returns-clause-costs : goal.returns-clause-costs
returns-clause-costs g c =
    let b = c.requires.back in
    let all = c.take_gathered-gathered.ensures.costs b.0 b.2 b.3 b.4 b.8 in
    let here = tried_same (g.L.Lists.cost c.args.self.now.lists) (b.0).left (left.Gathering c.args.solutions b.1) (b.0).rest c.args.newest.rest b.7 b.6 in
    let same = ap (λ (x : Search _ _ _ _ _ _ _ _ _ _). g.L.Lists.cost x.lists c.args.newest.rest) c.take_gathered-gathered.ensures.same in
    omega (arith, all, here, same, c.coming-self.ensures.cost)
