use Rattle.std.proofs.Common.{rules, ◌≡◌, ◌∙◌, ◌-◌, Option, Some, None, IfNone, length, refl, sym, subst, Vec, Global}
use Rattle.std.specs.List.{slice_get}
use Rattle.iso_search_core.specs.declared.choices.Choice.{Choice}
use Rattle.iso_search.specs.EngineStates.{kept_cost}
use Rattle.iso_search.proofs.BackLemmas.{newest_shows}
use Rattle.iso_search.proofs.FailLemmas.{ends_run, resumes_on, passes_on, repeats_on, spends_on}
use Rattle.iso_search_core.specs.GroupsLeft.{LeavesGroups}
use Rattle.iso_search.proofs.GroupSteps.{newest_twice}
use Rattle.iso_search.proofs.Moves.Gather.{found_on, found_stops}
use Rattle.iso_search.proofs.Moves.Grouped.{are_gathered, are_kept, groups_on, groups_stop}
use Rattle.iso_search.proofs.MovedLemmas.{moved_not, moved_on, moved_pauses}
use Rattle.iso_search.proofs.Moves.Offer.{offers_on, offers_stop, shows_stop}
use Rattle.iso_search.proofs.Moves.Search.{stands_itself}
use Rattle.iso_search.proofs.WeightLemmas.{falls_back, back_cost, falls_again}
use Rattle.iso_search.proofs.search.Search.fail.Goals as goal

at_none : {X P : Type 0} (o : Option X) → ((x : X) → o ≡ Some x → ⊥) → IfNone o P → P
at_none None never p = p
at_none (Some x) never p = absurd (never x refl)

-- clauses that are left at the newest choice are tried before
pub unreachable-requires : goal.unreachable-requires
unreachable-requires g c =
    let r = c.requires.stands.1 in
    let b = newest_shows g.S.Store g.L.Lists (c.go_back-newest.ensures.back r.own r.engine) c.len.ensures c.index.ensures c.in-Clauses.is in
    let there = subst (λ (cs : Vec (Choice _ _ _ _ _) Global). slice_get cs.items (length cs.items - 1) ≡ Some b.choice) c.go_back-newest.ensures.choices b.back.newest in
    at_none c.next_retry.result (λ x is. c.in_default.not-Some x is) c.next_retry.ensures.none b.choice c.in-Clauses.field-0 there b.left_is

pub returns-then-is_empty : goal.returns-then-is_empty
returns-then-is_empty g c =
    moved_pauses g.S.Store g.L.Lists
    (λ s r.
    (let none : length c.args.self.now.choices.items ≡ 0 = search rules in
    ends_run g.S.Store g.L.Lists c.args.self.now c.clear.new.self s r c.requires.failing none c.clear.ensures.idle c.clear.ensures.now))
    tt (λ s r. tt) tt (search rules)

-- ---- members that the choice kept

pub returns-in-AsIs : goal.returns-in-AsIs
returns-in-AsIs g c =
    moved_on g.S.Store g.L.Lists
    (λ s r.
    (let b = newest_shows g.S.Store g.L.Lists (c.go_back-newest.ensures.back r.own r.engine) c.len.ensures c.index.ensures c.in-AsIs.is in
    let on = c.go_on.ensures.goes b.choice r.own b.alternative b.below b.mark_is b.rest_is b.back in
    resumes_on g.S.Store g.L.Lists c.args.self.now c.go_on.new.self s r b.alternative b.below c.requires.failing b.stack b.has on c.go_on.ensures.awake))
    (let back = c.go_back-newest.ensures in
    falls_back g.L.Lists c.args.self.now c.go_back-newest.new.self c.go_on.new.self back.choices back.costs back.steps c.go_on.ensures.steps c.go_on.ensures.costs) (search rules)

pub go_on-requires-clause-back : goal.go_on-requires-clause-back
go_on-requires-clause-back g c =
    let r = c.requires.stands.1 in
    let b = newest_shows g.S.Store g.L.Lists (c.go_back-newest.ensures.back r.own r.engine) c.len.ensures c.index.ensures c.in-AsIs.is in
    (b.choice, r.own, b.alternative, b.below, b.mark_is, b.rest_is, b.left_is, b.back)

pub returns-in-Again : goal.returns-in-Again
returns-in-Again g c =
    moved_pauses g.S.Store g.L.Lists
    (λ s r.
    (let b = newest_shows g.S.Store g.L.Lists (c.go_back-newest.ensures.back r.own r.engine) c.len.ensures c.index.ensures c.in-Again.is in
    spends_on g.S.Store g.L.Lists c.args.self.now c.clear-in-Again.new.self s r b.alternative b.below c.requires.failing b.stack b.has
    (sym c.go_back-newest.ensures.steps ∙ c.if-self-eq0.true)
    (c.clear-in-Again.ensures.idle r.own.world b.back.world) c.clear-in-Again.ensures.now))
    tt (λ s r. tt) tt (search rules)

pub returns-in-Again-2 : goal.returns-in-Again-2
returns-in-Again-2 g c =
    moved_on g.S.Store g.L.Lists
    (λ s r.
    (let b = newest_shows g.S.Store g.L.Lists (c.go_back-newest.ensures.back r.own r.engine) c.len.ensures c.index.ensures c.in-Again-2.is in
    let on = c.go_again.ensures.goes b.choice r.own b.alternative b.below b.rest_is b.left_is b.back in
    repeats_on g.S.Store g.L.Lists c.args.self.now c.go_again.new.self s r b.alternative b.below c.requires.failing b.stack b.has
    (c.go_again.ensures.step ∙ c.go_back-newest.ensures.steps) on c.go_again.ensures.awake))
    (let back = c.go_back-newest.ensures in
    let mid = c.go_back-newest.new.self in
    let all = back_cost g.L.Lists c.args.self.now mid back.choices back.costs in
    falls_again g.L.Lists c.args.self.now c.go_again.new.self (kept_cost g.L.Lists mid)
    (c.go_again.ensures.step ∙ back.steps) c.go_again.ensures.costs all) (search rules)

pub go_again-requires-clause-back : goal.go_again-requires-clause-back
go_again-requires-clause-back g c =
    let r = c.requires.stands.1 in
    let b = newest_shows g.S.Store g.L.Lists (c.go_back-newest.ensures.back r.own r.engine) c.len.ensures c.index.ensures c.in-Again-2.is in
    (b.choice, r.own, b.alternative, b.below, b.rest_is, b.left_is, b.back)

-- ---- the entry of a catch

pub returns-in-Catching : goal.returns-in-Catching
returns-in-Catching g c =
    moved_on g.S.Store g.L.Lists
    (λ s r.
    (let b = newest_shows g.S.Store g.L.Lists (c.go_back-newest.ensures.back r.own r.engine) c.len.ensures c.index.ensures c.in-Catching.is in
    passes_on g.S.Store g.L.Lists c.args.self.now c.pass_catch.new.self s r b.alternative b.below c.requires.failing b.stack _ _ b.has.is
    (c.pass_catch.ensures.fails b.choice r.own b.alternative b.below b.mark_is b.back) c.pass_catch.ensures.awake))
    (let back = c.go_back-newest.ensures in
    falls_back g.L.Lists c.args.self.now c.go_back-newest.new.self c.pass_catch.new.self back.choices back.costs back.steps c.pass_catch.ensures.steps c.pass_catch.ensures.costs) (search rules)

pub pass_catch-requires-clause-back : goal.pass_catch-requires-clause-back
pass_catch-requires-clause-back g c =
    let r = c.requires.stands.1 in
    let b = newest_shows g.S.Store g.L.Lists (c.go_back-newest.ensures.back r.own r.engine) c.len.ensures c.index.ensures c.in-Catching.is in
    (b.choice, r.own, b.alternative, b.below, b.mark_is, (_, b.left_is), b.back)

-- ---- what a findall/3 has gathered

pub end_gathering-requires-clause-back : goal.end_gathering-requires-clause-back
end_gathering-requires-clause-back g c =
    let r = c.requires.stands.1 in
    let b = newest_shows g.S.Store g.L.Lists (c.go_back-newest.ensures.back r.own r.engine) c.len.ensures c.index.ensures c.in-Gathering.is in
    (b.choice, _, r.own, b.alternative, b.below, b.mark_is, b.rest_is, b.left_is, b.back)

pub returns-in_ok-end_gathering-in-Gathering : goal.returns-in_ok-end_gathering-in-Gathering
returns-in_ok-end_gathering-in-Gathering g c =
    moved_on g.S.Store g.L.Lists
    (λ s r.
    (let b = newest_shows g.S.Store g.L.Lists (c.go_back-newest.ensures.back r.own r.engine) c.len.ensures c.index.ensures c.in-Gathering.is in
    let e = c.in_ok-end_gathering-in-Gathering.ensures in
    found_on g.S.Store g.L.Lists c.args.self.now c.end_gathering.new.self s r b.alternative b.below c.requires.failing b.stack _ _ _ b.has.is
    (e.found b.choice _ r.own b.alternative b.below b.mark_is b.rest_is b.left_is b.back) e.awake))
    (let back = c.go_back-newest.ensures in
    falls_back g.L.Lists c.args.self.now c.go_back-newest.new.self c.end_gathering.new.self back.choices back.costs back.steps c.in_ok-end_gathering-in-Gathering.ensures.steps c.in_ok-end_gathering-in-Gathering.ensures.costs) (search rules)

pub returns-in_err-end_gathering-in-Gathering : goal.returns-in_err-end_gathering-in-Gathering
returns-in_err-end_gathering-in-Gathering g c =
    moved_not g.S.Store g.L.Lists c.from_residual.result c.from_residual.ensures.0
    (λ s r.
    (let b = newest_shows g.S.Store g.L.Lists (c.go_back-newest.ensures.back r.own r.engine) c.len.ensures c.index.ensures c.in-Gathering.is in
    (found_stops g.S.Store g.L.Lists c.args.self.now c.end_gathering.new.self s r b.alternative b.below c.requires.failing b.stack _ _ _ b.has.is
    (c.in_err-end_gathering-in-Gathering.ensures.kept b.choice _ r.own b.alternative b.below b.mark_is b.rest_is b.left_is b.back))))
    (search rules) (search rules)

-- ---- groups of what a bagof/3 or setof/3 has gathered, and those that were left

pub try_groups-requires-clause-back : goal.try_groups-requires-clause-back
try_groups-requires-clause-back g c =
    let r = c.requires.stands.1 in
    let b = newest_shows g.S.Store g.L.Lists (c.go_back-newest.ensures.back r.own r.engine) c.len.ensures c.index.ensures c.in-Grouping.is in (
      b.choice,
      r.own,
      b.alternative,
      b.below,
      b.mark_is,
      b.rest_is,
      subst LeavesGroups (sym b.left_is) tt,
      b.back,
      newest_twice r.own c.requires.stands.0 b.alternative b.below r.same b.stack,
    )

pub returns-in_ok-try_groups-in-Grouping : goal.returns-in_ok-try_groups-in-Grouping
returns-in_ok-try_groups-in-Grouping g c =
    moved_on g.S.Store g.L.Lists
    (λ s r.
    (let b = newest_shows g.S.Store g.L.Lists (c.go_back-newest.ensures.back r.own r.engine) c.len.ensures c.index.ensures c.in-Grouping.is in
    let e = c.in_ok-try_groups-in-Grouping.ensures in
    let are = are_gathered _ _ _ _ b.has.is in
    groups_on g.S.Store g.L.Lists c.args.self.now c.try_groups.new.self s r b.alternative b.below c.requires.failing b.stack _ _ are
    (e.tried b.choice r.own b.alternative b.below _ _ b.mark_is b.rest_is (subst LeavesGroups (sym b.left_is) tt) b.back
    (newest_twice r.own s b.alternative b.below r.same b.stack) are) e.awake))
    (let back = c.go_back-newest.ensures in
    falls_back g.L.Lists c.args.self.now c.go_back-newest.new.self c.try_groups.new.self back.choices back.costs back.steps c.in_ok-try_groups-in-Grouping.ensures.steps c.in_ok-try_groups-in-Grouping.ensures.costs) (search rules)

pub returns-in_err-try_groups-in-Grouping : goal.returns-in_err-try_groups-in-Grouping
returns-in_err-try_groups-in-Grouping g c =
    moved_not g.S.Store g.L.Lists c.from_residual-in_err-try_groups-in-Grouping.result c.from_residual-in_err-try_groups-in-Grouping.ensures.0
    (λ s r.
    (let b = newest_shows g.S.Store g.L.Lists (c.go_back-newest.ensures.back r.own r.engine) c.len.ensures c.index.ensures c.in-Grouping.is in
    let are = are_gathered _ _ _ _ b.has.is in
    (groups_stop g.S.Store g.L.Lists c.args.self.now c.try_groups.new.self s r b.alternative b.below c.requires.failing b.stack _ _ are
    (c.in_err-try_groups-in-Grouping.ensures.kept b.choice r.own b.alternative b.below _ _ b.mark_is b.rest_is (subst LeavesGroups (sym b.left_is) tt) b.back
    (newest_twice r.own s b.alternative b.below r.same b.stack) are))))
    (search rules) (search rules)

pub try_groups-requires-in-Groups-clause-back : goal.try_groups-requires-in-Groups-clause-back
try_groups-requires-in-Groups-clause-back g c =
    let r = c.requires.stands.1 in
    let b = newest_shows g.S.Store g.L.Lists (c.go_back-newest.ensures.back r.own r.engine) c.len.ensures c.index.ensures c.in-Groups.is in (
      b.choice,
      r.own,
      b.alternative,
      b.below,
      b.mark_is,
      b.rest_is,
      subst LeavesGroups (sym b.left_is) tt,
      b.back,
      newest_twice r.own c.requires.stands.0 b.alternative b.below r.same b.stack,
    )

pub returns-in_ok-try_groups-in-Groups : goal.returns-in_ok-try_groups-in-Groups
returns-in_ok-try_groups-in-Groups g c =
    moved_on g.S.Store g.L.Lists
    (λ s r.
    (let b = newest_shows g.S.Store g.L.Lists (c.go_back-newest.ensures.back r.own r.engine) c.len.ensures c.index.ensures c.in-Groups.is in
    let e = c.in_ok-try_groups-in-Groups.ensures in
    let are = are_kept _ _ _ b.has.is in
    groups_on g.S.Store g.L.Lists c.args.self.now c.try_groups-in-Groups.new.self s r b.alternative b.below c.requires.failing b.stack _ _ are
    (e.tried b.choice r.own b.alternative b.below _ _ b.mark_is b.rest_is (subst LeavesGroups (sym b.left_is) tt) b.back
    (newest_twice r.own s b.alternative b.below r.same b.stack) are) e.awake))
    (let back = c.go_back-newest.ensures in
    falls_back g.L.Lists c.args.self.now c.go_back-newest.new.self c.try_groups-in-Groups.new.self back.choices back.costs back.steps c.in_ok-try_groups-in-Groups.ensures.steps c.in_ok-try_groups-in-Groups.ensures.costs) (search rules)

pub returns-in_err-try_groups-in-Groups : goal.returns-in_err-try_groups-in-Groups
returns-in_err-try_groups-in-Groups g c =
    moved_not g.S.Store g.L.Lists c.from_residual-in_err-try_groups-in-Groups.result c.from_residual-in_err-try_groups-in-Groups.ensures.0
    (λ s r.
    (let b = newest_shows g.S.Store g.L.Lists (c.go_back-newest.ensures.back r.own r.engine) c.len.ensures c.index.ensures c.in-Groups.is in
    let are = are_kept _ _ _ b.has.is in
    (groups_stop g.S.Store g.L.Lists c.args.self.now c.try_groups-in-Groups.new.self s r b.alternative b.below c.requires.failing b.stack _ _ are
    (c.in_err-try_groups-in-Groups.ensures.kept b.choice r.own b.alternative b.below _ _ b.mark_is b.rest_is (subst LeavesGroups (sym b.left_is) tt) b.back
    (newest_twice r.own s b.alternative b.below r.same b.stack) are))))
    (search rules) (search rules)

-- ---- rows that were left

pub try_next-requires-clause-back : goal.try_next-requires-clause-back
try_next-requires-clause-back g c =
    let r = c.requires.stands.1 in
    let b = newest_shows g.S.Store g.L.Lists (c.go_back-newest.ensures.back r.own r.engine) c.len.ensures c.index.ensures c.in-Offered.is in
    (b.choice, _, r.own, b.alternative, b.below, b.mark_is, b.rest_is, b.left_is, b.back)

pub returns-in_ok-try_next-in-Offered : goal.returns-in_ok-try_next-in-Offered
returns-in_ok-try_next-in-Offered g c =
    moved_on g.S.Store g.L.Lists
    (λ s r.
    (let b = newest_shows g.S.Store g.L.Lists (c.go_back-newest.ensures.back r.own r.engine) c.len.ensures c.index.ensures c.in-Offered.is in
    let e = c.in_ok-try_next-in-Offered.ensures in
    offers_on g.S.Store g.L.Lists c.args.self.now c.try_next.new.self s r b.alternative b.below c.requires.failing b.stack _ _ b.has.is
    (stands_itself g.S.Store g.L.Lists _ _ (e.tried b.choice _ r.own b.alternative b.below _ _ b.mark_is b.rest_is b.left_is b.back b.has.is)) e.awake))
    (let back = c.go_back-newest.ensures in
    falls_back g.L.Lists c.args.self.now c.go_back-newest.new.self c.try_next.new.self back.choices back.costs back.steps c.in_ok-try_next-in-Offered.ensures.steps c.in_ok-try_next-in-Offered.ensures.costs) (search rules)

pub returns-in_err-try_next-in-Offered : goal.returns-in_err-try_next-in-Offered
returns-in_err-try_next-in-Offered g c =
    moved_not g.S.Store g.L.Lists c.from_residual-in_err-try_next-in-Offered.result c.from_residual-in_err-try_next-in-Offered.ensures.0
    (λ s r.
    (let b = newest_shows g.S.Store g.L.Lists (c.go_back-newest.ensures.back r.own r.engine) c.len.ensures c.index.ensures c.in-Offered.is in
    (offers_stop g.S.Store g.L.Lists c.args.self.now c.try_next.new.self s r b.alternative b.below c.requires.failing b.stack _ _ b.has.is
    (c.in_err-try_next-in-Offered.ensures.kept b.choice _ r.own b.alternative b.below _ _ b.mark_is b.rest_is b.left_is b.back b.has.is))))
    (search rules) (search rules)

-- ---- clauses that were left to be shown

pub show_next-requires-clause-back : goal.show_next-requires-clause-back
show_next-requires-clause-back g c =
    let r = c.requires.stands.1 in
    let b = newest_shows g.S.Store g.L.Lists (c.go_back-newest.ensures.back r.own r.engine) c.len.ensures c.index.ensures c.in-Shown.is in
    (b.choice, r.own, b.alternative, b.below, b.mark_is, b.rest_is, b.left_is, b.back)

pub returns-in_ok-show_next-in-Shown : goal.returns-in_ok-show_next-in-Shown
returns-in_ok-show_next-in-Shown g c =
    moved_on g.S.Store g.L.Lists
    (λ s r.
    (let b = newest_shows g.S.Store g.L.Lists (c.go_back-newest.ensures.back r.own r.engine) c.len.ensures c.index.ensures c.in-Shown.is in
    let e = c.in_ok-show_next-in-Shown.ensures in
    offers_on g.S.Store g.L.Lists c.args.self.now c.show_next.new.self s r b.alternative b.below c.requires.failing b.stack _ _ b.has.is
    (e.tried b.choice r.own b.alternative b.below _ _ b.mark_is b.rest_is b.left_is b.back b.has.is) e.awake))
    (let back = c.go_back-newest.ensures in
    falls_back g.L.Lists c.args.self.now c.go_back-newest.new.self c.show_next.new.self back.choices back.costs back.steps c.in_ok-show_next-in-Shown.ensures.steps c.in_ok-show_next-in-Shown.ensures.costs) (search rules)

pub returns-in_err-show_next-in-Shown : goal.returns-in_err-show_next-in-Shown
returns-in_err-show_next-in-Shown g c =
    moved_not g.S.Store g.L.Lists c.from_residual-in_err-show_next-in-Shown.result c.from_residual-in_err-show_next-in-Shown.ensures.0
    (λ s r.
    (let b = newest_shows g.S.Store g.L.Lists (c.go_back-newest.ensures.back r.own r.engine) c.len.ensures c.index.ensures c.in-Shown.is in
    (shows_stop g.S.Store g.L.Lists c.args.self.now c.show_next.new.self s r b.alternative b.below c.requires.failing b.stack _ _ b.has.is
    (c.in_err-show_next-in-Shown.ensures.kept b.choice r.own b.alternative b.below _ _ b.mark_is b.rest_is b.left_is b.back b.has.is))))
    (search rules) (search rules)
