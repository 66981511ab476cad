-- The free ones so far, and those of the variables that are left, are the free ones.
use Rattle.std.proofs.Common.{◌≡◌, ◌++◌, map, drop}
use Rattle.std.specs.List.{All, filter}
use Rattle.iso_lib_core.specs.Stripping.{is_free}
use Rattle.iso_store_core.specs.Presents.{Holds, meaning}
use Rattle.iso_lib_core.proofs.strip.free.Given as goal

abbrev pub invariant-loop-variable : goal.invariant-loop-variable
invariant-loop-variable g l = record {
  hold : All (λ w. Holds (g.S.Store.present l.store) w) l.free.items;
  free : map (meaning (g.S.Store.present l.store)) l.free.items ++ filter (is_free l.bound) (drop l.variable-index (map (meaning (g.S.Store.present l.store)) l.variable-items))
      ≡ filter (is_free l.bound) (map (meaning (g.S.Store.present l.store)) l.variable-items);
}
