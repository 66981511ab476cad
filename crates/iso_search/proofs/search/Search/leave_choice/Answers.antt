use Rattle.std.proofs.Common.{◌≡◌, ◌∙◌, ◌-◌, ◌<◌, length, arith, ap, sym, subst, take, slice_set, Some}
use Rattle.std.specs.List.{slice_get}
use Rattle.std.specs.Vec.{with_item}
use Rattle.std.specs.Option.{IfSome}
use Rattle.std.proofs.lemmas.List.{take-set}
use Rattle.iso_program.specs.Leaving.{AreLeft, NextLeft}
use Rattle.iso_search_core.specs.Costs.{choices_cost}
use Rattle.iso_search_core.specs.Own.{own_of}
use Rattle.iso_db.specs.Keyed.{remaining_keyed}
use Rattle.iso_search_core.specs.declared.choices.Left.TheVariants as left
use Rattle.iso_search_core.proofs.StandingLemmas.{item_is, last_split}
use Rattle.iso_search.proofs.ChoiceLemmas.{has, next_of, next_there, next_absent, retries_next, retries_last, fewer_next, fewer_choices}
use Rattle.iso_search.proofs.BackLemmas.{marks_of, newest_is}
use Rattle.iso_search.proofs.NewestLemmas.{with_left, set_left}
use Rattle.iso_search.proofs.WorldLemmas.{same_texts}
use Rattle.iso_search.proofs.search.Search.leave_choice.Goals as goal

pub next_clause-requires : goal.next_clause-requires
next_clause-requires g c =
    let b = c.requires.back in
    let e = c.args.self.now in
    let many : c.len-newest.result ≡ length e.choices.items = cc (c.len-newest.ensures, e.choices.ok.0) in
    let is = newest_is g.S.Store g.L.Lists e b.1 b.2 b.3 b.4 b.7 c.len-newest.result c.index_mut.result.now many c.index_mut.ensures.value in
    let has = has g.S.Store g.L.Lists e b.1 b.0 b.2 b.3 b.4 b.7 b.6 in
    (b.0, ap (λ (x : _). x.left) is ∙ b.6, (has.are.behind, has.are.gives))

-- ---- a clause is left

pub returns-else-not-next_clause-clause-calls : goal.returns-else-not-next_clause-clause-calls
returns-else-not-next_clause-clause-calls g c = λ attempt ch s a below mark tries w.
    (let e = c.args.self.now in
    let choices = e.choices.items in
    let x = c.index_mut.result.now in
    let many : c.len-newest.result ≡ length choices = cc (c.len-newest.ensures, e.choices.ok.0) in
    let is = newest_is g.S.Store g.L.Lists e ch s a below w c.len-newest.result x many c.index_mut.ensures.value in
    let on = c.next_clause.ensures attempt (ap (λ (x : _). x.left) is ∙ tries) in
    let next = next_there on.1 c.if-not-next_clause.false in
    let after = left.Clauses (next_of attempt next.0 (on.0).later) in
    let new : c.next_clause.new.choice ≡ with_left x after = on.2 ∙ ap (λ (y : _). with_left x (left.Clauses y)) next.2 in
    let made = ap (slice_set choices (c.len-newest.result - 1)) new ∙ set_left choices c.len-newest.result ch x after many c.requires.some w.newest c.index_mut.ensures.value in
    let has = has g.S.Store g.L.Lists e ch attempt s a below w tries in
    let behind = on.1.left (g.S.Store.names e.store) has.are.behind has.are.others has.are.gives has.are.are has.are.few in
    retries_next g.S.Store g.L.Lists e ch attempt s a below w tries next.0 (on.0).later (with_item e.choices (c.len-newest.result - 1) c.next_clause.new.choice) (g.met.L.Lists.top e.lists)
    (subst (λ (o : _). NextLeft (AreLeft (own_of g.L.Lists) (g.S.Store.names e.store) e.db) o (on.0).later has.are.others) next.1 behind) made)

pub returns-else-not-next_clause-clause-costs : goal.returns-else-not-next_clause-clause-costs
returns-else-not-next_clause-clause-costs g c = λ attempt ch newest tries.
    (let e = c.args.self.now in
    let choices = e.choices.items in
    let costs = g.L.Lists.cost e.lists in
    let x = c.index_mut.result.now in
    let many : c.len-newest.result ≡ length choices = cc (c.len-newest.ensures, e.choices.ok.0) in
    let is = item_is choices (c.len-newest.result - 1) ch x (subst (λ (n : _). slice_get choices (n - 1) ≡ Some ch) (sym many) newest) c.index_mut.ensures.value in
    let on = c.next_clause.ensures attempt (ap (λ (x : _). x.left) is ∙ tries) in
    let next = next_there on.1 c.if-not-next_clause.false in
    let after = left.Clauses (next_of attempt next.0 (on.0).later) in
    let new : c.next_clause.new.choice ≡ with_left x after = on.2 ∙ ap (λ (y : _). with_left x (left.Clauses y)) next.2 in
    let made = ap (slice_set choices (c.len-newest.result - 1)) new ∙ set_left choices c.len-newest.result ch x after many c.requires.some newest c.index_mut.ensures.value in
    let are = last_split choices (length choices - 1) ch newest (omega (arith, c.requires.some)) in
    let less : remaining_keyed (on.0).later < remaining_keyed attempt.later = subst (λ (o : _). IfSome o (λ id. remaining_keyed (on.0).later < remaining_keyed attempt.later)) next.1 on.1.falls in
    let fewer = fewer_next costs (take (length choices - 1) choices) ch attempt tries next.0 (on.0).later less in
    let now = ap (choices_cost costs) made in
    let before = ap (choices_cost costs) are in
    omega (arith, fewer, now, before))

-- ---- none is

pub returns-then-not-next_clause-clause-calls : goal.returns-then-not-next_clause-clause-calls
returns-then-not-next_clause-clause-calls g c = λ attempt ch s a below mark tries w.
    (let e = c.args.self.now in
    let choices = e.choices.items in
    let x = c.index_mut.result.now in
    let many : c.len-newest.result ≡ length choices = cc (c.len-newest.ensures, e.choices.ok.0) in
    let is = newest_is g.S.Store g.L.Lists e ch s a below w c.len-newest.result x many c.index_mut.ensures.value in
    let on = c.next_clause.ensures attempt (ap (λ (x : _). x.left) is ∙ tries) in
    let none = next_absent on.1 c.if-not-next_clause.true in
    let has = has g.S.Store g.L.Lists e ch attempt s a below w tries in
    let behind = on.1.left (g.S.Store.names e.store) has.are.behind has.are.others has.are.gives has.are.are has.are.few in
    let cut = c.truncate.ensures.items ∙ take-set choices (c.len-newest.result - 1) c.next_clause.new.choice in
    retries_last g.S.Store g.L.Lists e ch attempt s a below w tries c.forget.new.self c.truncate.new.self
    (subst (λ (o : _). NextLeft (AreLeft (own_of g.L.Lists) (g.S.Store.names e.store) e.db) o (on.0).later has.are.others) none behind)
    c.forget.ensures.present (marks_of g.S.Store.older c.args.mark ch.mark mark c.forget.ensures.marks) (same_texts c.forget.ensures.names) (rw many at cut))

pub returns-then-not-next_clause-clause-costs : goal.returns-then-not-next_clause-clause-costs
returns-then-not-next_clause-clause-costs g c = λ attempt ch newest tries.
    (let choices = c.args.self.now.choices.items in
    let costs = g.L.Lists.cost c.args.self.now.lists in
    let many : c.len-newest.result ≡ length choices = cc (c.len-newest.ensures, c.args.self.now.choices.ok.0) in
    let are = last_split choices (length choices - 1) ch newest (omega (arith, c.requires.some)) in
    let fewer = fewer_choices costs (take (length choices - 1) choices) ch attempt tries in
    let cut = c.truncate.ensures.items ∙ take-set choices (c.len-newest.result - 1) c.next_clause.new.choice in
    let now : choices_cost costs c.truncate.new.self.items ≡ choices_cost costs (take (length choices - 1) choices) = ap (choices_cost costs) (rw many at cut) in
    let before = ap (choices_cost costs) are in
    omega (arith, fewer, now, before))
