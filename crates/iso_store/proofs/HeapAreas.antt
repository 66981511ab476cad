-- What the calls of a heap's area keep of the heap.
use Rattle.std.proofs.Common.{◌≡◌, ℕ, ◌≤◌, List, [], ◌∷◌, ◌++◌, length, sym, subst, arith, length-append, OnOk, OnErr, Result, Ok, Err}
use Rattle.iso_area.specs.Stacks.{Stacks, stacks}
use Rattle.iso_store.specs.declared.heap_cells.Cell.{Cell}
use Rattle.iso_store.specs.HeapTerms.{bound_count}
use Rattle.iso_store.specs.HeapStores.{IsHeap, MayCome}
use Rattle.iso_store.proofs.HeapPushes.{heap-more, counted-more}

-- The area of a heap, whose newest mark was made at so many cells.
pub record IsHeapArea (names : List (List ℕ)) (next newest : ℕ) (area : Stacks Cell) : Type 0 where
  pub is_heap : IsHeap names area.low next
  pub newest_within : newest ≤ length area.low
  pub trail_within : length area.high ≤ bound_count area.low

-- where these are the names of the atoms
module _ (names : List (List ℕ)) (next newest : ℕ) (area : Stacks Cell) (is : IsHeapArea names next newest area) where
  -- a cell more
  more : (c : Cell) → MayCome names area.low next c → IsHeapArea names next newest (stacks (area.low ++ c ∷ []) area.high area.capacity)
  more c may =
      let count = counted-more names area.low next is.is_heap c may in
      let newest_was = is.newest_within in
      let trail_was = is.trail_within in
      record {
        is_heap = heap-more names area.low next is.is_heap c may;
        newest_within = omega (arith, length-append area.low (c ∷ []));
        trail_within = omega arith;
      }

  pub pushed-area : {E : Type 0} (c : Cell) → MayCome names area.low next c → (new : Stacks Cell) (result : Result Unit E) → OnOk result (new ≡ stacks (area.low ++ c ∷ []) area.high area.capacity) → OnErr result (new ≡ area) → IsHeapArea names next newest new
  pushed-area c may new (Ok u) done same = subst (IsHeapArea names next newest) (sym done) (more c may)
  pushed-area c may new (Err e) done same = subst (IsHeapArea names next newest) (sym same) is
