-- The clause behind the next one is ahead, or none is left.
use Rattle.std.proofs.Common.{◌∙◌, sym}
use Rattle.iso_clauses.specs.Stepping.{behind}
use Rattle.iso_db.proofs.KeyedLemmas.{behind_stand}
use Rattle.iso_db.proofs.keyed.advance.Goals as goal

pub returns-then-is_some-clause-rest : goal.returns-then-is_some-clause-rest
returns-then-is_some-clause-rest g c = λ removals cs leads.
    (let some = sym c.is_some.ensures ∙ c.if-is_some.true in
    record {
      first = c.next_fitting-ahead.ensures.first removals (behind cs) (leads.rest some);
      rest = c.next_fitting-ahead.ensures.rest removals (behind cs) (leads.rest some);
      stand = behind_stand c.args.slots.now.items cs leads.stand;
    })
