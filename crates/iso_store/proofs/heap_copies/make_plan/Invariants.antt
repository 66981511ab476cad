-- The pieces so far are for what the first parts make.
use Rattle.std.proofs.Common.{◌≡◌, ◌≤◌, ◌+◌, length, map, take}
use Rattle.iso_model.specs.Terms.Trees.{row}
use Rattle.iso_store_core.specs.Presents.{Gathers}
use Rattle.iso_store_core.specs.Copying.{cells_of}
use Rattle.iso_store.specs.Plans.{start}
use Rattle.iso_store.specs.HeapBuilds.{GoesOn, HaveCells, built, known_pieces}
use Rattle.iso_model.specs.Terms.Copies.{numbers_from}
use Rattle.iso_store.specs.declared.heap_cells.Piece.TheVariants.{Variable as Place}
use Rattle.iso_store.proofs.PlanLemmas.{sketch_at}
use Rattle.iso_store.proofs.heap_copies.make_plan.Given as goal

abbrev pub invariant-loop-part : goal.invariant-loop-part
invariant-loop-part l = record {
  pieces : Gathers (built l.fn.heap l.first (length l.fn.places.items)) (built l.heap l.first (length l.fn.places.items)) l.pieces.items
      (sketch_at (take l.fn.heap.named l.fn.heap.atoms) l.parts (start (map (built l.fn.heap l.first (length l.fn.places.items)).term (map Place (numbers_from 0 (length l.fn.places.items))))) l.part-index).terms;
  known : Gathers (built l.fn.heap l.first (length l.fn.places.items)) (built l.heap l.first (length l.fn.places.items)) (known_pieces (length l.fn.places.items) l.compounds.items)
      (sketch_at (take l.fn.heap.named l.fn.heap.atoms) l.parts (start (map (built l.fn.heap l.first (length l.fn.places.items)).term (map Place (numbers_from 0 (length l.fn.places.items))))) l.part-index).known;
  few : length l.heap.area.low ≤ length l.fn.heap.area.low
      + cells_of 0 (λ n. n + 1) (row (sketch_at (take l.fn.heap.named l.fn.heap.atoms) l.parts (start (map (built l.fn.heap l.first (length l.fn.places.items)).term (map Place (numbers_from 0 (length l.fn.places.items))))) l.part-index).terms);
  cells : HaveCells l.heap.area.low l.first l.places.items;
  count : length l.places.items ≡ length l.fn.places.items;
  goes_on : GoesOn l.first l.fn.heap l.heap;
}
