-- What was found, and the elements of the rest, are the elements.
use Rattle.std.proofs.Common.{◌≡◌, ◌++◌, map}
use Rattle.std.specs.List.{All}
use Rattle.iso_model.specs.Terms.Lists.{elements, tail}
use Rattle.iso_model.specs.Terms.Sizes.{size}
use Rattle.iso_store_core.specs.Presents.{Holds, meaning}
use Rattle.iso_lib_core.proofs.lists.elements.Given as goal

abbrev pub invariant-loop-first : goal.invariant-loop-first
invariant-loop-first g l = record {
  holds : Holds (g.S.Store.present l.store) l.rest;
  hold : All (λ w. Holds (g.S.Store.present l.store) w) l.elements.items;
  elements : map (meaning (g.S.Store.present l.store)) l.elements.items ++ elements (meaning (g.S.Store.present l.store) l.rest)
      ≡ elements (meaning (g.S.Store.present l.store) l.fn.word);
  tail : tail (meaning (g.S.Store.present l.store) l.rest) ≡ tail (meaning (g.S.Store.present l.store) l.fn.word);
}

abbrev pub decreases-loop-first : goal.decreases-loop-first
decreases-loop-first g l = size (meaning (g.S.Store.present l.store) l.rest)
