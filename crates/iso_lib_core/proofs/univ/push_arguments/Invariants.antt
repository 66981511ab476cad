-- The arguments so far come behind the words that there were.
use Rattle.std.proofs.Common.{◌≡◌, ◌++◌, map, take}
use Rattle.std.specs.List.{All}
use Rattle.iso_model.specs.Terms.Arguments.{arguments, listed}
use Rattle.iso_store_core.specs.Presents.{Holds, meaning}
use Rattle.iso_lib_core.proofs.univ.push_arguments.Given as goal

abbrev pub invariant-loop-index : goal.invariant-loop-index
invariant-loop-index g l = record {
  hold : All (λ w. Holds (g.S.Store.present l.store) w) l.words.items;
  values : map (meaning (g.S.Store.present l.store)) l.words.items
      ≡ map (meaning (g.S.Store.present l.store)) l.fn.words.items ++ take l.index (listed (arguments (meaning (g.S.Store.present l.store) l.word)));
}
