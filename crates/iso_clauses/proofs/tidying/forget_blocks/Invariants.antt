-- The entries so far are forgotten, the others as they were.
use Rattle.std.proofs.Common.{◌≡◌, map, take}
use Rattle.iso_clauses.specs.Blocks.{forgotten}
use Rattle.iso_clauses.proofs.tidying.forget_blocks.Given as goal

abbrev pub invariant-loop-entry : goal.invariant-loop-entry
invariant-loop-entry l = record {
  same : map forgotten l.entry-items ≡ map forgotten l.initial.entry-items;
  done : map forgotten (take l.entry-index l.entry-items) ≡ take l.entry-index l.entry-items;
}
