use Rattle.std.proofs.Common.{◌≡◌, Some, ap, sym, subst, ◌∙◌, Bool, true, false}
use Rattle.iso_db.specs.Presents.{contents}
use Rattle.iso_db.specs.declared.db.Db.{Db}
use Rattle.iso_search.specs.declared.search.Search.{Search}
use Rattle.iso_program.specs.Programs.{place_at}
use Rattle.iso_program.proofs.KeyingLemmas.{preserves_less}
use Rattle.iso_program.proofs.ProgramLemmas.{place_within}
use Rattle.iso_program.proofs.ResultLemmas.{behind_error}
use Rattle.iso_search.specs.Shows.{HasUnified, IsUserPlace, shown_row}
use Rattle.iso_search.proofs.NewestLemmas.{lists_same}
use Rattle.iso_search.proofs.ShowEnds.{take_counts}
use Rattle.iso_search.proofs.Moves.Take.{left_number, there_at, take_absent, take_gone, take_missed, take_found}
use Rattle.iso_search.proofs.search.Search.try_removal.Goals as goal

pub returns-in_default-clause-tried : goal.returns-in_default-clause-tried
returns-in_default-clause-tried g c = λ s k x xs t.
    (let e = c.args.self.now in
    take_absent g.S.Store g.L.Lists e c.args.shown c.args.place s k x xs t (shown_row (g.S.Store.present e.store) c.args.shown) c.requires.failing c.requires.removes
    (subst (IsUserPlace (contents e.db) k) c.in_default.is (c.place_of.ensures k t.key_is t.user)))

pub has-requires : goal.has-requires
has-requires g c =
    let e = c.args.self.now in
    let t = c.requires.shows.4 in
    let k = c.requires.shows.1 in
    place_within (contents e.db) k c.in-Some.procedure (subst (IsUserPlace (contents e.db) k) c.in-Some.is (c.place_of.ensures k t.key_is t.user))

pub returns-then-not-has-clause-tried : goal.returns-then-not-has-clause-tried
returns-then-not-has-clause-tried g c = λ s k x xs t.
    (let old = c.args.self.now in
    let at : place_at (contents old.db) k ≡ Some c.in-Some.procedure = subst (IsUserPlace (contents old.db) k) c.in-Some.is (c.place_of.ensures k t.key_is t.user) in
    take_gone g.S.Store g.L.Lists old c.args.shown c.args.place s k x xs t (shown_row (g.S.Store.present old.store) c.args.shown) c.requires.failing c.requires.removes
    (there_at g.S.Store g.L.Lists old c.args.shown c.args.place s k x xs t c.in-Some.procedure false at (sym c.has.ensures ∙ c.if-not-has.true)))

pub unify_shown-requires-clause-shows : goal.unify_shown-requires-clause-shows
unify_shown-requires-clause-shows g c = let b = c.requires.shows in (c.args.place, b.0, b.1, b.2, b.3, b.4)

pub returns-in_err-unify_shown-clause-kept : goal.returns-in_err-unify_shown-clause-kept
returns-in_err-unify_shown-clause-kept g c = λ s k x xs t.
    (let old = c.args.self.now in
    let remains = c.in_err-unify_shown.ensures.kept c.args.place s k x xs t in
    let row = shown_row (g.S.Store.present old.store) c.args.shown in
    let at : place_at (contents old.db) k ≡ Some c.in-Some.procedure = subst (IsUserPlace (contents old.db) k) c.in-Some.is (c.place_of.ensures k t.key_is t.user) in
    let there = there_at g.S.Store g.L.Lists old c.args.shown c.args.place s k x xs t c.in-Some.procedure true at (sym c.has.ensures ∙ c.if-not-has.false) in
    behind_error c.from_residual.result (remains.0, take_counts g.S.Store g.L.Lists (g.S.Store.present c.unify_shown.new.self.store) row c.args.shown s k x c.requires.removes there remains.1))

pub remove_from-requires : goal.remove_from-requires
remove_from-requires g c =
    let e = c.args.self.now in
    let t = c.requires.shows.4 in
    let k = c.requires.shows.1 in
    rw c.in_ok-unify_shown.ensures.same (place_within (contents e.db) k c.in-Some.procedure (subst (IsUserPlace (contents e.db) k) c.in-Some.is (c.place_of.ensures k t.key_is t.user)))

pub coming-self-requires : goal.coming-self-requires
coming-self-requires g c =
    let e = c.unify_shown.new.self in
    let row = shown_row (g.S.Store.present c.args.self.now.store) c.args.shown in
    let b = c.requires.shows in
    let h = subst (λ (y : Bool). HasUnified g.S.Store g.L.Lists e row c.args.place b.0 b.2 y) c.if-branch.true (c.in_ok-unify_shown.ensures.unified c.args.place b.0 b.1 b.2 b.3 b.4) in
    (b.0.list, h.3.chain)

pub returns-then-branch-clause-tried : goal.returns-then-branch-clause-tried
returns-then-branch-clause-tried g c = λ s k x xs t.
    (let old = c.args.self.now in
    let e = c.unify_shown.new.self in
    let row = shown_row (g.S.Store.present old.store) c.args.shown in
    let at : place_at (contents old.db) k ≡ Some c.in-Some.procedure = subst (IsUserPlace (contents old.db) k) c.in-Some.is (c.place_of.ensures k t.key_is t.user) in
    let db : e.db ≡ old.db = ap (λ (y : Search _ _ _ _ _ _ _ _ _ _). y.db) c.in_ok-unify_shown.ensures.same in
    let there = there_at g.S.Store g.L.Lists old c.args.shown c.args.place s k x xs t c.in-Some.procedure true at (sym c.has.ensures ∙ c.if-not-has.false) in
    let h = subst (λ (y : Bool). HasUnified g.S.Store g.L.Lists e row c.args.place s x y) c.if-branch.true (c.in_ok-unify_shown.ensures.unified c.args.place s k x xs t) in
    take_found g.S.Store g.L.Lists e c.remove_from.new.self c.in-Some.procedure c.args.shown.clause c.remove_from.ensures.contents
    (preserves_less e.db c.remove_from.new.self c.remove_from.ensures.clauses c.remove_from.ensures.index c.in-Some.procedure c.args.shown.clause c.remove_from.ensures.contents)
    c.coming-self.result row c.args.shown c.args.place s k x (left_number t.clauses) (subst (λ (d : Db _). place_at (contents d) k ≡ Some c.in-Some.procedure) (sym db) at) c.requires.removes there h
    (c.coming-self.ensures.behind s.list h.3.chain))

pub returns-then-branch-clause-cost : goal.returns-then-branch-clause-cost
returns-then-branch-clause-cost g c = rw (lists_same c.in_ok-unify_shown.ensures.same) at c.coming-self.ensures.cost

pub returns-else-branch-clause-tried : goal.returns-else-branch-clause-tried
returns-else-branch-clause-tried g c = λ s k x xs t.
    (let old = c.args.self.now in
    let e = c.unify_shown.new.self in
    let row = shown_row (g.S.Store.present old.store) c.args.shown in
    let at : place_at (contents old.db) k ≡ Some c.in-Some.procedure = subst (IsUserPlace (contents old.db) k) c.in-Some.is (c.place_of.ensures k t.key_is t.user) in
    let there = there_at g.S.Store g.L.Lists old c.args.shown c.args.place s k x xs t c.in-Some.procedure true at (sym c.has.ensures ∙ c.if-not-has.false) in
    let h = subst (λ (y : Bool). HasUnified g.S.Store g.L.Lists e row c.args.place s x y) c.if-branch.false (c.in_ok-unify_shown.ensures.unified c.args.place s k x xs t) in
    take_missed g.S.Store g.L.Lists e row c.args.shown c.args.place s k x (rw c.in_ok-unify_shown.ensures.same c.requires.failing) c.requires.removes there h)
