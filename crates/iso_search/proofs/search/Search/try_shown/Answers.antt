use Rattle.std.proofs.Common.{subst, Bool}
use Rattle.iso_program.proofs.ResultLemmas.{behind_error}
use Rattle.iso_search.specs.Shows.{HasUnified, shown_row}
use Rattle.iso_search.proofs.NewestLemmas.{lists_same}
use Rattle.iso_search.proofs.ShowEnds.{read_counts, read_found, read_missed}
use Rattle.iso_search.proofs.search.Search.try_shown.Goals as goal

pub unify_shown-requires-clause-shows : goal.unify_shown-requires-clause-shows
unify_shown-requires-clause-shows g c = let b = c.requires.shows in (c.args.place, b.0, b.1, b.2, b.3, b.4)

pub returns-in_err-unify_shown-clause-kept : goal.returns-in_err-unify_shown-clause-kept
returns-in_err-unify_shown-clause-kept g c = λ s k x xs t.
    (let remains = c.in_err-unify_shown.ensures.kept c.args.place s k x xs t in
    let row = shown_row (g.S.Store.present c.args.self.now.store) c.args.shown in
    behind_error c.from_residual.result (remains.0, read_counts g.S.Store g.L.Lists (g.S.Store.present c.unify_shown.new.self.store) row c.args.shown s k x c.requires.stays remains.1))

pub coming-self-requires : goal.coming-self-requires
coming-self-requires g c =
    let e = c.unify_shown.new.self in
    let row = shown_row (g.S.Store.present c.args.self.now.store) c.args.shown in
    let b = c.requires.shows in
    let h = subst (λ (y : Bool). HasUnified g.S.Store g.L.Lists e row c.args.place b.0 b.2 y) c.if-branch.true (c.in_ok-unify_shown.ensures.unified c.args.place b.0 b.1 b.2 b.3 b.4) in
    (b.0.list, h.3.chain)

pub returns-then-branch-clause-tried : goal.returns-then-branch-clause-tried
returns-then-branch-clause-tried g c = λ s k x xs t.
    (let e = c.unify_shown.new.self in
    let row = shown_row (g.S.Store.present c.args.self.now.store) c.args.shown in
    let h = subst (λ (y : Bool). HasUnified g.S.Store g.L.Lists e row c.args.place s x y) c.if-branch.true (c.in_ok-unify_shown.ensures.unified c.args.place s k x xs t) in
    read_found g.S.Store g.L.Lists e c.coming-self.result row c.args.shown c.args.place s k x c.requires.stays h (c.coming-self.ensures.behind s.list h.3.chain))

pub returns-then-branch-clause-cost : goal.returns-then-branch-clause-cost
returns-then-branch-clause-cost g c = rw (lists_same c.in_ok-unify_shown.ensures.same) at c.coming-self.ensures.cost

pub returns-else-branch-clause-tried : goal.returns-else-branch-clause-tried
returns-else-branch-clause-tried g c = λ s k x xs t.
    (let e = c.unify_shown.new.self in
    let row = shown_row (g.S.Store.present c.args.self.now.store) c.args.shown in
    let h = subst (λ (y : Bool). HasUnified g.S.Store g.L.Lists e row c.args.place s x y) c.if-branch.false (c.in_ok-unify_shown.ensures.unified c.args.place s k x xs t) in
    read_missed g.S.Store g.L.Lists e row c.args.shown c.args.place s k x (rw c.in_ok-unify_shown.ensures.same c.requires.failing) c.requires.stays h)
