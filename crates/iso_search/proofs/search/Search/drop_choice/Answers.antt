use Rattle.std.proofs.Common.{◌≡◌, length}
use Rattle.iso_search.proofs.BackLemmas.{dropped, marks_of, newest_costs}
use Rattle.iso_search.proofs.WorldLemmas.{same_texts}
use Rattle.iso_search.proofs.search.Search.drop_choice.Goals as goal

pub returns-clause-ahead : goal.returns-clause-ahead
returns-clause-ahead g c = λ ch s a below mark w.
    (let choices = c.args.self.now.choices.items in
    let many : c.len.result ≡ length choices = cc (c.len.ensures, c.args.self.now.choices.ok.0) in
    dropped g.S.Store g.L.Lists c.args.self.now ch s a below w c.forget.new.self c.truncate.new.self c.forget.ensures.present (marks_of g.S.Store.older c.args.mark ch.mark mark c.forget.ensures.marks) (same_texts c.forget.ensures.names) (rw many at c.truncate.ensures.items))

pub returns-clause-costs : goal.returns-clause-costs
returns-clause-costs g c = λ ch newest.
    (let choices = c.args.self.now.choices.items in
    let many : c.len.result ≡ length choices = cc (c.len.ensures, c.args.self.now.choices.ok.0) in
    newest_costs g.L.Lists c.args.self.now ch c.truncate.new.self.items c.requires.some newest (rw many at c.truncate.ensures.items))
