-- With the clauses of the numbers that are left removed too, all are.
use Rattle.std.proofs.Common.{◌≡◌, ◌<◌, length, drop}
use Rattle.iso_db.specs.Databases.{with_kind}
use Rattle.iso_db.specs.Presents.{contents}
use Rattle.iso_db.specs.declared.kinds.Kind.TheVariants.{Dynamic}
use Rattle.iso_program.specs.Keying.{Preserves}
use Rattle.iso_storage.specs.Matching.{all_removed}
use Rattle.iso_storage.proofs.removals.remove_all.Given as goal

abbrev pub invariant-loop-number : goal.invariant-loop-number
invariant-loop-number g l = record {
  within : l.place < length (contents l.db).procedures;
  contents : all_removed l.place (drop l.number-index l.numbers) (contents l.db) ≡ all_removed l.place l.numbers (with_kind Dynamic l.place (contents l.fn.db));
  preserves : Preserves l.fn.db l.db;
}
