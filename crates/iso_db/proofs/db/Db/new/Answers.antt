-- Nothing is kept.
use Rattle.std.proofs.Common.{◌≡◌, List, [], ap, length, rules}
use Rattle.iso_db.specs.Keys.{Heading}
use Rattle.iso_clauses.specs.Slots.{procedure_of}
use Rattle.iso_clauses.proofs.NewLemmas.{kept_nothing}
use Rattle.iso_db.proofs.CarryLemmas.{indexed_nothing}
use Rattle.iso_db.proofs.db.Db.new.Goals as goal

none : (heads : List Heading) → heads ≡ [] → length heads ≡ 0
none heads is = ap length is

pub invariant_of-result : goal.invariant_of-result
invariant_of-result g c = record {
  kept = kept_nothing procedure_of _ _ _ (search rules) (none _ (search rules)) (search rules);
  indexed = indexed_nothing _ _ _ (search rules) (search rules) (search rules);
}
