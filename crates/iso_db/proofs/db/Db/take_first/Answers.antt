-- Where nothing is left behind the first clause, the view that gave nothing gives that.
use Rattle.std.proofs.Common.{◌∙◌, is_some, ap, sym}
use Rattle.iso_clauses.specs.Stepping.{behind}
use Rattle.iso_db.proofs.KeyedLemmas.{spent_gives, none_behind}
use Rattle.iso_db.proofs.db.Db.take_first.Goals as goal
use Rattle.iso_db.proofs.db.Db.take_first.Goals.{then-has_more, else-has_more}

pub returns-clause-rest : goal.returns-clause-rest
returns-clause-rest g c =
    let db = c.args.self.now in
    λ cs gives. elim c.if-has_more.branch [
      | then-has_more w ↦ rw w.later-is (c.next_in.ensures.rest cs gives)
      | else-has_more w ↦ rw w.later-is (spent_gives db.slots.items db.removals db.entries.items db.lists.items c.args.later.now (behind cs) c.requires.nothing
          (sym (c.has_more.ensures (behind cs) (c.next_in.ensures.rest cs gives)) ∙ w.if-has_more.false))
    ]

pub returns-in_err-first-clause-rest : goal.returns-in_err-first-clause-rest
returns-in_err-first-clause-rest g c =
    let db = c.args.self.now in
    λ cs gives. spent_gives db.slots.items db.removals db.entries.items db.lists.items c.args.later.now (behind cs) c.requires.nothing (none_behind cs (sym (ap is_some (c.in_err-first.ensures.first cs gives))))
