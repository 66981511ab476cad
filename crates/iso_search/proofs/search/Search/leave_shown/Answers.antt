use Rattle.std.proofs.Common.{◌≡◌, ◌-◌, ◌<◌, length, arith, subst}
use Rattle.std.specs.Vec.{with_item}
use Rattle.std.specs.Option.{IfSome}
use Rattle.iso_program.specs.Leaving.{AreLeft, NextLeft}
use Rattle.iso_search_core.specs.Own.{own_of}
use Rattle.iso_db.specs.Keyed.{remaining_keyed}
use Rattle.iso_search_core.specs.declared.choices.Left.TheVariants as left
use Rattle.iso_search.proofs.NewestLemmas.{with_left, set_left}
use Rattle.iso_search.proofs.Moves.Show.{has, shown_from, next_some, next_last, shown_cost, fewer_shown}
use Rattle.iso_search.proofs.search.Search.leave_shown.Goals as goal

pub next_left-requires : goal.next_left-requires
next_left-requires g c =
    let b = c.requires.back in
    let has = has g.S.Store g.L.Lists c.args.self.now b.0 c.args.shown b.1 b.2 b.3 b.6 b.5 in
    (has.are.behind, has.are.gives)

pub returns-in-Some-clause-shows : goal.returns-in-Some-clause-shows
returns-in-Some-clause-shows g c = λ ch s a below mark tries w.
    (let e = c.args.self.now in
    let has = has g.S.Store g.L.Lists e ch c.args.shown s a below w tries in
    let next = c.next_left.ensures.left (g.S.Store.names e.store) has.are.behind has.are.others has.are.gives has.are.are has.are.few in
    let x = left.Shown (shown_from c.args.shown c.in-Some.clause c.next_left.new.later) in
    let many : c.len-newest.result ≡ length e.choices.items = cc (c.len-newest.ensures, e.choices.ok.0) in
    let made = set_left e.choices.items c.len-newest.result ch c.index_mut.result.now x many c.requires.some w.newest c.index_mut.ensures.value in
    next_some g.S.Store g.L.Lists e ch c.args.shown s a below w tries c.in-Some.clause c.next_left.new.later
    (with_item e.choices (c.len-newest.result - 1) (with_left c.index_mut.result.now x)) (g.met.L.Lists.top e.lists)
    (subst (λ o. NextLeft (AreLeft (own_of g.L.Lists) (g.S.Store.names e.store) e.db) o c.next_left.new.later has.are.others) c.in-Some.is next) made)

pub returns-in-Some-clause-costs : goal.returns-in-Some-clause-costs
returns-in-Some-clause-costs g c = λ ch s a below mark tries w.
    (let e = c.args.self.now in
    let x = left.Shown (shown_from c.args.shown c.in-Some.clause c.next_left.new.later) in
    let many : c.len-newest.result ≡ length e.choices.items = cc (c.len-newest.ensures, e.choices.ok.0) in
    let made = set_left e.choices.items c.len-newest.result ch c.index_mut.result.now x many c.requires.some w.newest c.index_mut.ensures.value in
    let less : remaining_keyed c.next_left.new.later < remaining_keyed c.args.shown.later = subst (λ o. IfSome o (λ id. remaining_keyed c.next_left.new.later < remaining_keyed c.args.shown.later)) c.in-Some.is c.next_left.ensures.falls in
    fewer_shown g.S.Store g.L.Lists e ch c.args.shown s a below w tries _ c.in-Some.clause c.next_left.new.later c.requires.some made less)

pub drop_choice-requires-clause-back : goal.drop_choice-requires-clause-back
drop_choice-requires-clause-back g c = let b = c.requires.back in (b.0, b.1, b.2, b.3, b.4, b.6)

pub returns-in_default-clause-shows : goal.returns-in_default-clause-shows
returns-in_default-clause-shows g c = λ ch s a below mark tries w.
    (let e = c.args.self.now in
    let has = has g.S.Store g.L.Lists e ch c.args.shown s a below w tries in
    let next = c.next_left.ensures.left (g.S.Store.names e.store) has.are.behind has.are.others has.are.gives has.are.are has.are.few in
    let gone = c.drop_choice.ensures in
    next_last g.S.Store g.L.Lists e ch c.args.shown s a below w tries c.drop_choice.new.self gone.same
    (subst (λ o. NextLeft (AreLeft (own_of g.L.Lists) (g.S.Store.names e.store) e.db) o c.next_left.new.later has.are.others) c.in_default.is next)
    gone.present gone.stays.names_kept (gone.ahead ch s a below mark w))

pub returns-in_default-clause-costs : goal.returns-in_default-clause-costs
returns-in_default-clause-costs g c = λ ch s a below mark tries w.
    (let all = c.drop_choice.ensures.costs ch w.newest in
    let one = shown_cost g.S.Store g.L.Lists c.args.self.now ch c.args.shown s a below w tries in
    omega (arith, all, one))
