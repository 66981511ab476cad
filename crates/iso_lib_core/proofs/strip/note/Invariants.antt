-- The variables so far, and those that are left, are those of the term.
use Rattle.std.proofs.Common.{◌≡◌, map, drop}
use Rattle.iso_store_core.specs.Presents.{meaning}
use Rattle.iso_lib_core.proofs.StripLemmas.{with_variables}
use Rattle.iso_lib_core.proofs.strip.note.Given as goal

abbrev pub invariant-loop-variable : goal.invariant-loop-variable
invariant-loop-variable g l = record {
  added : with_variables l.bound (drop l.variable-index (map (meaning (g.S.Store.present l.store)) l.variable-items))
      ≡ with_variables l.fn.bound (map (meaning (g.S.Store.present l.store)) l.variable-items);
}
