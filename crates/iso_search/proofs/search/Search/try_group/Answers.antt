use Rattle.std.proofs.Common.{inl, inr}
use Rattle.iso_search.proofs.Moves.Meeting.{group_engine, group_fits, group_stops, result_missed, witness_missed}
use Rattle.iso_search.proofs.search.Search.try_group.Goals as goal

pub coming-self-requires : goal.coming-self-requires
coming-self-requires g c =
    let s = c.requires.meets.0 in
    let h = c.requires.meets.1 in
    let met = rw c.in-Ok-Done.field-0-is at c.in-Ok-Done.ensures.met in
    (s.list, g.met.L.Lists.words _ _ c.args.self.now.lists (g.L.Lists.whole c.args.self.now.lists) c.args.rest s.list met.words h.ahead.chain)

pub returns-in-Ok-Done-clause-tried : goal.returns-in-Ok-Done-clause-tried
returns-in-Ok-Done-clause-tried g c = λ s h.
    (let e = c.args.self.now in
    let met = rw c.in-Ok-Done.field-0-is at c.in-Ok-Done.ensures.met in
    let kept = c.in-Ok-Done.ensures.rest in
    group_engine g.S.Store g.L.Lists e c.args.by c.args.group s c.args.rest h c.meet_group.new.store kept.marks kept.names met
    (c.in-Ok-Done.ensures.cells met.unifier met.is) c.coming-self.result g.met.L.Lists.words
    (λ ms chain. c.coming-self.ensures.behind ms chain))

pub returns-in-Ok-Fail-clause-tried : goal.returns-in-Ok-Fail-clause-tried
returns-in-Ok-Fail-clause-tried g c = λ s h.
    (let e = c.args.self.now in
    let met = rw c.in-Ok-Fail.field-0-is at c.in-Ok-Fail.ensures.met in
    let kept = c.in-Ok-Fail.ensures.rest in
    elim met [
      | inl never ↦ witness_missed g.S.Store g.L.Lists e c.args.by c.args.group s c.args.rest h c.meet_group.new.store kept.marks kept.names never (c.in-Ok-Fail.ensures.unmet never)
      | inr k ↦ result_missed g.S.Store g.L.Lists e c.args.by c.args.group s c.args.rest h c.meet_group.new.store kept.marks kept.names k.0 k.1 k.2 (c.in-Ok-Fail.ensures.cells k.0 k.1)
    ])

pub returns-in-Err-Full-clause-kept : goal.returns-in-Err-Full-clause-kept
returns-in-Err-Full-clause-kept g c = λ s h.
    (let e = c.args.self.now in
    let last = c.meet_group.new.store in
    let made = c.in-Err-Full.ensures in
    group_stops g.S.Store g.L.Lists e c.args.by c.args.group s c.args.rest h last made.rest.marks made.rest.names
    (group_fits g.S.Store g.L.Lists e c.args.by c.args.group s c.args.rest h last made.rest.marks made.rest.names made.cells made.unmet))

pub returns-in-Err-NoMemory-clause-kept : goal.returns-in-Err-NoMemory-clause-kept
returns-in-Err-NoMemory-clause-kept g c = λ s h.
    (let e = c.args.self.now in
    let last = c.meet_group.new.store in
    let made = c.in-Err-NoMemory.ensures in
    group_stops g.S.Store g.L.Lists e c.args.by c.args.group s c.args.rest h last made.rest.marks made.rest.names
    (group_fits g.S.Store g.L.Lists e c.args.by c.args.group s c.args.rest h last made.rest.marks made.rest.names made.cells made.unmet))
