use Rattle.std.proofs.Common.{arith}
use Rattle.iso_model.specs.Search.Walker.{tried_right}
use Rattle.iso_store_core.specs.Presents.{meaning}
use Rattle.iso_search_core.specs.Offers.{goal_arguments, row_tree, row_offer}
use Rattle.iso_program.proofs.ResultLemmas.{behind_error}
use Rattle.iso_search_core.proofs.FittingLemmas.{fits_more, fits_taken}
use Rattle.iso_search_core.proofs.OfferLemmas.{row_within}
use Rattle.iso_search.proofs.AheadLemmas.{keeps_ahead, remains_ahead}
use Rattle.iso_search.proofs.StoppedLemmas.{keeps_store}
use Rattle.iso_search.proofs.Moves.Offer.{right_counts, was_unified, was_never, row_found, row_missed}
use Rattle.iso_search.proofs.Moves.Word.{slice_are, worded, meets_worded}
use Rattle.iso_search.proofs.search.Search.try_row.Goals as goal

pub read_arguments-requires : goal.read_arguments-requires
read_arguments-requires g c = c.requires.meets.1.holds

pub returns-in_err-read_arguments-clause-kept : goal.returns-in_err-read_arguments-clause-kept
returns-in_err-read_arguments-clause-kept g c = λ s made h.
    (let t = meaning (g.S.Store.present c.args.self.now.store) c.args.goal in
    let tried = tried_right (goal_arguments t) (row_offer made t c.args.row.now) s.list s in
    let counts = right_counts made (goal_arguments t) t c.args.row.now c.requires.row s.list s in
    let remains = remains_ahead g.S.Store g.L.Lists c.args.self.now s c.args.place h.ahead in
    behind_error c.from_residual.result (
      remains.0,
      fits_more g.S.Store (g.S.Store.present c.args.self.now.store) 0 s tried counts.0 (let more = counts.1 in omega (arith, more)) remains.1,
    ))

pub unify_row-requires-clause-arguments : goal.unify_row-requires-clause-arguments
unify_row-requires-clause-arguments g c = (slice_are c.as_slice-arguments.ensures.value c.in_ok-read_arguments.ensures.arguments).hold

pub unify_row-requires-clause-row : goal.unify_row-requires-clause-row
unify_row-requires-clause-row g c = (meaning (g.S.Store.present c.args.self.now.store) c.args.goal, slice_are c.as_slice-arguments.ensures.value c.in_ok-read_arguments.ensures.arguments, c.requires.row)

pub returns-in_err-unify_row-clause-kept : goal.returns-in_err-unify_row-clause-kept
returns-in_err-unify_row-clause-kept g c = λ s made h.
    (let e = worded c.args.self.now c.read_arguments.new.words in
    let met = meets_worded g.S.Store g.L.Lists c.args.self.now c.read_arguments.new.words h in
    let t = meaning (g.S.Store.present c.args.self.now.store) c.args.goal in
    let tried = tried_right (goal_arguments t) (row_offer made t c.args.row.now) s.list s in
    let counts = right_counts made (goal_arguments t) t c.args.row.now c.requires.row s.list s in
    let within = row_within made c.args.row.now in
    behind_error c.from_residual-in_err-unify_row.result (
      keeps_store g.S.Store g.L.Lists e c.unify_row.new.store s.world s.stack (keeps_ahead g.S.Store g.L.Lists e s c.args.place met.ahead) c.in_err-unify_row.ensures.rest.marks c.in_err-unify_row.ensures.rest.names,
      fits_taken g.S.Store s tried c.in_err-unify_row.ensures.cells (omega arith) counts.0 (let more = counts.1 in omega (arith, more, within)) h.ahead.fits,
    ))

pub returns-then-not-branch-clause-tried : goal.returns-then-not-branch-clause-tried
returns-then-not-branch-clause-tried g c = λ s made h.
    (let e = worded c.args.self.now c.read_arguments.new.words in
    let met = meets_worded g.S.Store g.L.Lists c.args.self.now c.read_arguments.new.words h in
    let t = meaning (g.S.Store.present e.store) c.args.goal in
    let left = goal_arguments t in
    let told = c.in_ok-unify_row.ensures.unified t (slice_are c.as_slice-arguments.ensures.value c.in_ok-read_arguments.ensures.arguments) c.requires.row in
    row_missed g.S.Store g.L.Lists e c.args.goal s c.args.place met made left t c.args.row.now c.requires.row c.unify_row.new.store c.in_ok-unify_row.ensures.rest.marks c.in_ok-unify_row.ensures.rest.names c.in_ok-unify_row.ensures.cells
    (was_never (g.S.Store.present e.store) (g.S.Store.present c.unify_row.new.store) left (row_tree t c.args.row.now) c.in_ok-unify_row.field-0 c.if-not-branch.true told))

pub coming-self-requires : goal.coming-self-requires
coming-self-requires g c =
    let s = c.requires.meets.0 in
    let t = meaning (g.S.Store.present c.args.self.now.store) c.args.goal in
    let told = c.in_ok-unify_row.ensures.unified t (slice_are c.as_slice-arguments.ensures.value c.in_ok-read_arguments.ensures.arguments) c.requires.row in
    let found = was_unified (g.S.Store.present c.args.self.now.store) (g.S.Store.present c.unify_row.new.store) (goal_arguments t) (row_tree t c.args.row.now) c.in_ok-unify_row.field-0 c.if-not-branch.false told in
    (s.list, g.met.L.Lists.words _ _ c.args.self.now.lists (g.L.Lists.whole c.args.self.now.lists) c.args.place s.list found.2.words c.requires.meets.1.ahead.chain)

pub returns-clause-tried : goal.returns-clause-tried
returns-clause-tried g c = λ s made h.
    (let e = worded c.args.self.now c.read_arguments.new.words in
    let met = meets_worded g.S.Store g.L.Lists c.args.self.now c.read_arguments.new.words h in
    let t = meaning (g.S.Store.present e.store) c.args.goal in
    let left = goal_arguments t in
    let told = c.in_ok-unify_row.ensures.unified t (slice_are c.as_slice-arguments.ensures.value c.in_ok-read_arguments.ensures.arguments) c.requires.row in
    let found = was_unified (g.S.Store.present e.store) (g.S.Store.present c.unify_row.new.store) left (row_tree t c.args.row.now) c.in_ok-unify_row.field-0 c.if-not-branch.false told in
    let chain = g.met.L.Lists.words (g.S.Store.present e.store) (g.S.Store.present c.unify_row.new.store) e.lists (g.L.Lists.whole e.lists) c.args.place s.list found.2.words h.ahead.chain in
    row_found g.S.Store g.L.Lists e c.args.goal s c.args.place met made left t c.args.row.now c.requires.row c.unify_row.new.store c.in_ok-unify_row.ensures.rest.marks c.in_ok-unify_row.ensures.rest.names c.in_ok-unify_row.ensures.cells
    c.coming-self.result found.0 found.1 found.2 chain (c.coming-self.ensures.behind s.list chain))
