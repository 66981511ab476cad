-- The cells of the first pieces stand behind those that there were.
use Rattle.std.proofs.Common.{◌≡◌, ◌≢◌, ℕ, length, take, slice_get}
use Rattle.std.specs.List.{All}
use Rattle.iso_store.specs.declared.heap_cells.Piece.TheVariants.{Variable as Place}
use Rattle.iso_store.specs.HeapBuilds.{ArePushed, GoesOn, HaveCells}
use Rattle.iso_store.proofs.heap_builds.push_pieces.Given as goal

abbrev pub invariant-loop-piece : goal.invariant-loop-piece
invariant-loop-piece l = record {
  pushed : ArePushed (take l.fn.heap.named l.fn.heap.atoms) l.first l.fn.heap.area.low l.heap.area.low (take l.piece-index l.pieces);
  cells : HaveCells l.heap.area.low l.first l.places.items;
  count : length l.places.items ≡ length l.fn.places.items;
  goes_on : GoesOn l.first l.fn.heap l.heap;
  others : (k : ℕ) → All (λ p. p ≢ Place k) l.pieces → slice_get l.places.items k ≡ slice_get l.fn.places.items k;
}
