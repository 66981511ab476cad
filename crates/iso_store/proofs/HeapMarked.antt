-- Marks of a heap stand on after each change of it.
use Rattle.std.proofs.Common.{◌≡◌, ℕ, ◌≤◌, List, [], ◌∷◌, ◌++◌, length, take, drop, set, refl, ap, arith, length-append, length-set, length-take, Some, Bool, true, false, nat_lt, if◌then◌else◌}
use Rattle.std.specs.List.{slice_get}
use Rattle.std.proofs.lemmas.Bool.{ltb-false}
use Rattle.std.proofs.lemmas.List.{take-append-le}
use Rattle.iso_store.specs.declared.heap_cells.HeapWord.{HeapWord}
use Rattle.iso_store.specs.declared.heap_cells.Cell.{Cell}
use Rattle.iso_store.specs.declared.heap_cells.Cell.TheVariants.{Unbound, Bound, Entry}
use Rattle.iso_store.specs.declared.heap_cells.HeapMark.{HeapMark}
use Rattle.iso_store_core.specs.Presents.{Present}
use Rattle.iso_store.specs.HeapTerms.{bound_count}
use Rattle.iso_store.specs.HeapStores.{reset, restored, IsHeap, HeapStandsFor, present_of_heap, KeepsHeapMarks, trailed}
use Rattle.iso_store.proofs.HeapResets.{bound-restored, newer-restored, undone-restored, restored-length, marked-restored}

-- where these are the names of the atoms
module _ (names : List (List ℕ)) (limit : ℕ) where
  stands-same : (newest later : ℕ) (cs ds es fs : List Cell) (m : HeapMark) (p : Present HeapWord) → restored ds fs m ≡ restored cs es m → m.cells ≤ later → m.cells ≤ length ds → m.trail ≤ length fs → HeapStandsFor names limit newest cs es m p → HeapStandsFor names limit later ds fs m p
  stands-same newest later cs ds es fs m p same a b c h = record {
    newest_top = a;
    cells_top = b;
    trail_top = c;
    before_top = h.before_top;
    named_top = h.named_top;
    is_heap = rw same h.is_heap;
    counted = rw same h.counted;
    present = rw same h.present;
  }

  pub trailed-keeps : (newest : ℕ) (cs es : List Cell) (e n : ℕ) (w : HeapWord) → slice_get cs e ≡ Some (Unbound n) → KeepsHeapMarks names limit newest cs es newest (set cs e (Bound n w)) (es ++ Entry e ∷ [])
  trailed-keeps newest cs es e n w free m p h =
      let top = h.trail_top in
      let within = h.cells_top in
      stands-same newest newest cs _ es _ m p (bound-restored cs es m e n w free h.trail_top) h.newest_top (omega (arith, length-set cs e (Bound n w))) (omega (arith, length-append es (Entry e ∷ []))) h

  pub newer-keeps : (newest : ℕ) (cs es : List Cell) (e : ℕ) (c : Cell) → newest ≤ e → KeepsHeapMarks names limit newest cs es newest (set cs e c) es
  newer-keeps newest cs es e c newer m p h =
      let top = h.newest_top in
      let within = h.cells_top in
      stands-same newest newest cs _ es es m p (newer-restored cs es m e c (omega arith)) h.newest_top (omega (arith, length-set cs e c)) h.trail_top h

  bound-cases : (newest : ℕ) (cs es : List Cell) (e n : ℕ) (w : HeapWord) → slice_get cs e ≡ Some (Unbound n) → (older : Bool) → nat_lt e newest ≡ older → KeepsHeapMarks names limit newest cs es newest (set cs e (Bound n w)) (if older then es ++ Entry e ∷ [] else es)
  bound-cases newest cs es e n w free true is = trailed-keeps newest cs es e n w free
  bound-cases newest cs es e n w free false is = newer-keeps newest cs es e (Bound n w) (ltb-false e newest is)

  pub bound-keeps : (newest : ℕ) (cs es : List Cell) (e n : ℕ) (w : HeapWord) → slice_get cs e ≡ Some (Unbound n) → KeepsHeapMarks names limit newest cs es newest (set cs e (Bound n w)) (trailed newest e es)
  bound-keeps newest cs es e n w free = bound-cases newest cs es e n w free (nat_lt e newest) refl

  -- cells more
  pub more-keeps : (newest : ℕ) (cs ds es : List Cell) → KeepsHeapMarks names limit newest cs es newest (cs ++ ds) es
  more-keeps newest cs ds es m p h =
      let within = h.cells_top in
      let same : restored (cs ++ ds) es m ≡ restored cs es m = ap (reset (drop m.trail es)) (take-append-le m.cells cs ds h.cells_top) in
      stands-same newest newest cs _ es es m p same h.newest_top (omega (arith, length-append cs ds)) h.trail_top h

  -- a mark that is made
  pub marked-stands : (next newest named : ℕ) (cs es : List Cell) (m : HeapMark) → m.cells ≡ length cs → m.trail ≡ length es → m.next ≡ next → m.named ≡ named → m.before ≡ newest → newest ≤ length cs → named ≤ length names → length es ≤ bound_count cs
      → IsHeap (take named names) cs next → HeapStandsFor names limit (length cs) cs es m (present_of_heap (take named names) cs next limit)
  marked-stands next newest named cs es m cells trail number known before below room count heap = record {
    newest_top = omega arith;
    cells_top = omega arith;
    trail_top = omega arith;
    before_top = omega arith;
    named_top = omega arith;
    is_heap = rw (marked-restored cs es m cells trail, number, known) heap;
    counted = rw (marked-restored cs es m cells trail) (omega arith);
    present = rw (marked-restored cs es m cells trail, number, known) refl;
  }

  pub marked-keeps : (newest : ℕ) (cs es : List Cell) → newest ≤ length cs → KeepsHeapMarks names limit newest cs es (length cs) cs es
  marked-keeps newest cs es below m p h =
      let top = h.newest_top in
      stands-same newest (length cs) cs cs es es m p refl (omega arith) h.cells_top h.trail_top h

  -- a mark that is undone, and older ones
  pub undone-stands : (newest later : ℕ) (cs es : List Cell) (k m : HeapMark) (p : Present HeapWord) → k.cells ≤ m.cells → k.trail ≤ m.trail → k.cells ≤ later → m.cells ≤ length cs → m.trail ≤ length es → HeapStandsFor names limit newest cs es k p → HeapStandsFor names limit later (restored cs es m) (take m.trail es) k p
  undone-stands newest later cs es k m p cells trail top within trailed h =
      let size = restored-length cs es m within in
      stands-same newest later cs _ es _ k p (undone-restored cs es k m cells trail trailed) top (omega arith) (omega (arith, length-take m.trail es)) h

  -- marks older than one that is given up
  pub forgotten-stands : (newest later : ℕ) (cs es : List Cell) (k : HeapMark) (p : Present HeapWord) → k.cells ≤ later → HeapStandsFor names limit newest cs es k p → HeapStandsFor names limit later cs es k p
  forgotten-stands newest later cs es k p top h = stands-same newest later cs cs es es k p refl top h.cells_top h.trail_top h
