-- The arguments of the words so far.
use Rattle.std.proofs.Common.{◌≡◌, map, take}
use Rattle.std.specs.List.{All}
use Rattle.iso_model.specs.Terms.Arguments.{argument}
use Rattle.iso_store_core.specs.Presents.{Holds, meaning}
use Rattle.iso_lib_core.proofs.collecting.arguments_at.Given as goal

abbrev pub invariant-loop-word : goal.invariant-loop-word
invariant-loop-word g l = record {
  hold : All (λ w. Holds (g.S.Store.present l.store) w) l.arguments.items;
  values : map (meaning (g.S.Store.present l.store)) l.arguments.items ≡ take l.word-index (map (argument l.index) (map (meaning (g.S.Store.present l.store)) l.words));
}
