-- The words so far came for the terms of the first parts, with the variables replaced.
use Rattle.std.proofs.Common.{◌≡◌, map, take, []}
use Rattle.iso_model.specs.Terms.Trees.{row}
use Rattle.iso_model.specs.Terms.Substitutions.{apply}
use Rattle.iso_store_core.specs.Presents.{Gathers, KeepsNumbers, Grows, KeepsMarks}
use Rattle.iso_store_core.specs.Copying.{cells_of}
use Rattle.iso_store_core.specs.Patterns.{after_parts, at_places}
use Rattle.iso_store.proofs.instances.make_nested.Given as goal

abbrev pub invariant-loop-part : goal.invariant-loop-part
invariant-loop-part g l = record {
  gathers : Gathers (g.S.Primitives.present l.fn.store) (g.S.Primitives.present l.store) l.words.items
      (map (apply (at_places (map (g.S.Primitives.present l.fn.store).term l.variables))) (after_parts (g.S.Primitives.names l.fn.store) (take l.part-index l.parts) []));
  numbers : KeepsNumbers (g.S.Primitives.present l.fn.store) (g.S.Primitives.present l.store);
  cells : Grows (g.S.Primitives.present l.fn.store) (g.S.Primitives.present l.store) (cells_of g.S.Primitives.atomic g.S.Primitives.width (row (after_parts (g.S.Primitives.names l.fn.store) (take l.part-index l.parts) []))) 0;
  names : g.S.Primitives.names l.store ≡ g.S.Primitives.names l.fn.store;
  marks : KeepsMarks (g.S.Primitives.stands l.fn.store) (g.S.Primitives.stands l.store);
}
