use Rattle.std.proofs.Common.{◌≤◌, arith, sym, subst}
use Rattle.iso_search.specs.Shows.{offers_of, shown_row, Shows}
use Rattle.iso_search_core.specs.Own.{own_of}
use Rattle.iso_db.specs.Keyed.{remaining_keyed}
use Rattle.iso_search.specs.declared.search.Search.{Search}
use Rattle.iso_model.specs.Search.Walker.{with_rights}
use Rattle.iso_program.specs.Leaving.{most_left, AreLeft, NextLeft}
use Rattle.iso_program.proofs.LeavingLemmas.{left_behind, left_long}
use Rattle.iso_search_core.specs.declared.choices.Left.TheVariants as left
use Rattle.iso_search_core.proofs.BodyCosts.{view_cost}
use Rattle.iso_search.proofs.NewestLemmas.{lists_same, pushed_cost}
use Rattle.iso_search.proofs.Moves.Show.{shown_from, shows_last, shows_later}
use Rattle.iso_search.proofs.search.Search.push_shown.Goals as goal

pub next_left-requires : goal.next_left-requires
next_left-requires g c = (let t = c.requires.4 in (t.clauses.behind, t.clauses.gives))

pub returns-in_default-clause-shows : goal.returns-in_default-clause-shows
returns-in_default-clause-shows g c = λ s k x xs t done.
    (let e = c.args.self.now in
    let next = c.next_left.ensures.left (g.S.Store.names e.store) t.clauses.behind xs t.clauses.gives (left_behind (g.S.Store.names e.store) e.db t.clauses) t.clauses.few in
    shows_last g.S.Store g.L.Lists e c.args.shown c.args.place s k x xs t
    (subst (λ o. NextLeft (AreLeft (own_of g.L.Lists) (g.S.Store.names e.store) e.db) o c.next_left.new.later xs) c.in_default.is next))

pub returns-clause-shows : goal.returns-clause-shows
returns-clause-shows g c = λ s k x xs t done.
    (let e = c.args.self.now in
    let new = c.push_choice.new.self in
    let told = c.push_choice.ensures in
    let next = c.next_left.ensures.left (g.S.Store.names e.store) t.clauses.behind xs t.clauses.gives (left_behind (g.S.Store.names e.store) e.db t.clauses) t.clauses.few in
    let first = subst (λ o. NextLeft (AreLeft (own_of g.L.Lists) (g.S.Store.names e.store) e.db) o c.next_left.new.later xs) c.in-Some.is next in
    subst (λ (y : Search _ _ _ _ _ _ _ _ _ _). Shows g.S.Store g.L.Lists y c.args.shown c.args.place (with_rights (shown_row (g.S.Store.present e.store) c.args.shown) (offers_of c.args.shown k xs) s.list s) k x xs) (sym told.same)
    (shows_later g.S.Store g.L.Lists e c.args.shown c.args.place s k x xs t new.store new.choices c.in-Some.clause c.next_left.new.later (g.met.L.Lists.all e.lists) (g.met.L.Lists.top e.lists) first
    told.present told.rest.marks told.rest.names (told.gains done)))

pub returns-clause-kept : goal.returns-clause-kept
returns-clause-kept g c = λ s k x xs t. c.push_choice.ensures.refused s t.ahead

pub returns-clause-over : goal.returns-clause-over
returns-clause-over g c = λ s k x xs t refused.
    (let e = c.args.self.now in
    let next = c.next_left.ensures.left (g.S.Store.names e.store) t.clauses.behind xs t.clauses.gives (left_behind (g.S.Store.names e.store) e.db t.clauses) t.clauses.few in
    let first = subst (λ o. NextLeft (AreLeft (own_of g.L.Lists) (g.S.Store.names e.store) e.db) o c.next_left.new.later xs) c.in-Some.is next in
    let full = c.push_choice.ensures.full refused in
    (full.0, full.1, left_long (g.S.Store.names e.store) e.db first))

pub returns-clause-costs : goal.returns-clause-costs
returns-clause-costs g c =
    let e = c.args.self.now in
    let told = c.push_choice.ensures in
    let all = pushed_cost g.L.Lists e c.push_choice.new.self (left.Shown (shown_from c.args.shown c.in-Some.clause c.next_left.new.later)) c.args.place c.push_choice.result (lists_same told.same) told.gains told.full told.kept in
    let few : remaining_keyed c.next_left.new.later ≤ most_left = (let many = c.requires.4.clauses.few in let less = c.next_left.ensures.never_rises in omega (arith, many, less)) in
    let later = view_cost (remaining_keyed c.next_left.new.later) (g.L.Lists.cost e.lists c.args.place) few in
    omega (arith, all, later)
