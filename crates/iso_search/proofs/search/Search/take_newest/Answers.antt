use Rattle.std.proofs.Common.{◌≡◌, ◌∙◌, ◌+◌, ◌-◌, length, sym, ap, arith}
use Rattle.iso_search.proofs.BackLemmas.{dropped, marks_of, newest_costs, popped_is}
use Rattle.iso_search.proofs.WorldLemmas.{same_texts}
use Rattle.iso_search.proofs.search.Search.take_newest.Goals as goal

pub returns-clause-left : goal.returns-clause-left
returns-clause-left g c = λ ch s a below w.
    (let last = popped_is g.S.Store g.L.Lists c.args.self.now ch s a below w c.pop.new.self.items c.in-Some.choice c.in-Some.ensures.items in
    ap (λ (y : _). y.left) last.0)

pub returns-clause-ahead : goal.returns-clause-ahead
returns-clause-ahead g c = λ ch s a below mark w.
    (let last = popped_is g.S.Store g.L.Lists c.args.self.now ch s a below w c.pop.new.self.items c.in-Some.choice c.in-Some.ensures.items in
    dropped g.S.Store g.L.Lists c.args.self.now ch s a below w c.forget.new.self c.pop.new.self c.forget.ensures.present (marks_of g.S.Store.older c.args.mark ch.mark mark c.forget.ensures.marks) (same_texts c.forget.ensures.names) last.1)

pub returns-clause-costs : goal.returns-clause-costs
returns-clause-costs g c = λ ch s a below w.
    (let last = popped_is g.S.Store g.L.Lists c.args.self.now ch s a below w c.pop.new.self.items c.in-Some.choice c.in-Some.ensures.items in
    newest_costs g.L.Lists c.args.self.now ch c.pop.new.self.items c.requires.some w.newest last.1)
