use Rattle.std.proofs.Common.{rules, ◌≤◌, length, refl, arith}
use Rattle.iso_search.proofs.AheadLemmas.{ahead_cut, ahead_uncut}
use Rattle.iso_search_core.proofs.CostLemmas.{choices_fewer}
use Rattle.iso_search.proofs.Moves.Member.{cut_failing, uncut_failing}
use Rattle.iso_search_core.proofs.StandingLemmas.{lower, item_within}
use Rattle.iso_search.proofs.WorldLemmas.{same_texts}
use Rattle.iso_search.proofs.search.Search.cut_to.Goals as goal

pub forget-requires : goal.forget-requires
forget-requires g c =
    let there = item_within c.args.self.now.choices c.len.result c.index.result.now c.len.ensures c.args.height c.if-height-len.true c.index.ensures in
    let l = lower g.L.Lists c.args.height c.index.result.now there (c.requires.2).2.1 in
    (l.present, l.mark)

pub returns-then-height-len-clause-cut : goal.returns-then-height-len-clause-cut
returns-then-height-len-clause-cut g c = λ s place h.
    (let there = item_within c.args.self.now.choices c.len.result c.index.result.now c.len.ensures c.args.height c.if-height-len.true c.index.ensures in
    ahead_cut g.S.Store g.L.Lists c.args.self.now s place c.args.height c.forget.new.self c.truncate.new.self c.index.result.now h there c.truncate.ensures.items c.forget.ensures.present c.forget.ensures.marks (same_texts c.forget.ensures.names))

pub returns-then-height-len-clause-costs : goal.returns-then-height-len-clause-costs
returns-then-height-len-clause-costs g c = rw c.truncate.ensures.items (choices_fewer c.args.height (g.L.Lists.cost c.args.self.now.lists) c.args.self.now.choices.items)

pub returns-else-height-len-clause-cut : goal.returns-else-height-len-clause-cut
returns-else-height-len-clause-cut g c = λ s place h.
    (let less : length c.args.self.now.choices.items ≤ c.args.height = (let h = c.if-height-len.false in let many = c.len.ensures in let ok = c.args.self.now.choices.ok.0 in omega (arith, h, many, ok)) in
    ahead_uncut g.S.Store g.L.Lists c.args.self.now s place c.args.height h less)

pub returns-then-height-len-clause-failing : goal.returns-then-height-len-clause-failing
returns-then-height-len-clause-failing g c = λ s is doing.
    (let there = item_within c.args.self.now.choices c.len.result c.index.result.now c.len.ensures c.args.height c.if-height-len.true c.index.ensures in
    cut_failing g.S.Store g.L.Lists c.args.self.now s c.args.height c.forget.new.self c.truncate.new.self c.index.result.now is doing there c.truncate.ensures.items c.forget.ensures.present c.forget.ensures.marks (same_texts c.forget.ensures.names))

pub returns-else-height-len-clause-failing : goal.returns-else-height-len-clause-failing
returns-else-height-len-clause-failing g c = λ s is doing.
    (let less : length c.args.self.now.choices.items ≤ c.args.height = (let h = c.if-height-len.false in let many = c.len.ensures in let ok = c.args.self.now.choices.ok.0 in omega (arith, h, many, ok)) in
    uncut_failing g.S.Store g.L.Lists c.args.self.now s c.args.height is doing less)

pub returns-then-height-len-clause-stays : goal.returns-then-height-len-clause-stays
returns-then-height-len-clause-stays g c =
    let there = item_within c.args.self.now.choices c.len.result c.index.result.now c.len.ensures c.args.height c.if-height-len.true c.index.ensures in
    let newer = (lower g.L.Lists c.args.height c.index.result.now there (c.requires.2).2.1).newer_base in
    record { limit = refl; vocabulary = refl; names_kept = same_texts c.forget.ensures.names; base = λ p h. c.forget.ensures.marks c.args.self.now.base p newer h; within = search rules }
