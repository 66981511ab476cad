-- The pieces so far came for the terms of the first parts, with the variables by their numbers.
use Rattle.std.proofs.Common.{◌≡◌, ℕ, ◌+◌, length, map, take, [], slice_get, false}
use Rattle.iso_model.specs.Terms.Trees.{Tree, row}
use Rattle.iso_model.specs.Terms.Variables.{occurs}
use Rattle.iso_model.specs.Terms.Substitutions.{apply}
use Rattle.iso_store_core.specs.Presents.{Gathers}
use Rattle.iso_store_core.specs.Copying.{cells_of}
use Rattle.iso_store_core.specs.Patterns.{IsPattern, after_parts}
use Rattle.iso_store.specs.HeapBuilds.{GoesOn, HaveCells, built, numbered}
use Rattle.iso_store.proofs.heap_builds.make_parts.Given as goal

abbrev pub invariant-loop-part : goal.invariant-loop-part
invariant-loop-part l = record {
  gathers : Gathers (built l.fn.heap l.first (length l.fn.places.items)) (built l.heap l.first (length l.fn.places.items)) l.pieces.items
      (map (apply (numbered l.first)) (after_parts (take l.fn.heap.named l.fn.heap.atoms) (take l.part-index l.parts) []));
  size : length l.heap.area.low ≡ length l.fn.heap.area.low + cells_of 0 (λ n. n + 1) (row (after_parts (take l.fn.heap.named l.fn.heap.atoms) (take l.part-index l.parts) []));
  cells : HaveCells l.heap.area.low l.first l.places.items;
  count : length l.places.items ≡ length l.fn.places.items;
  goes_on : GoesOn l.first l.fn.heap l.heap;
  others : (t : Tree) → IsPattern (take l.fn.heap.named l.fn.heap.atoms) l.parts t → (k : ℕ) → occurs k t ≡ false → slice_get l.places.items k ≡ slice_get l.fn.places.items k;
}
