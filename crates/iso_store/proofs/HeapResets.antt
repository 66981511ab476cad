-- Taking bindings of a heap back: what it leaves alone, and what a mark brings back after each change of the heap.
use Rattle.std.proofs.Common.{◌≡◌, ◌≢◌, ℕ, zero, suc, ◌≤◌, List, [], ◌∷◌, ◌++◌, length, take, drop, set, refl, ap, sym, Some}
use Rattle.std.specs.List.{slice_get}
use Rattle.std.proofs.lemmas.List.{take-set-le}
use Rattle.iso_store.specs.declared.heap_cells.HeapWord.{HeapWord}
use Rattle.iso_store.specs.declared.heap_cells.Cell.{Cell}
use Rattle.iso_store.specs.declared.heap_cells.Cell.TheVariants.{Unbound, Bound, Argument, Functor, Wide, Entry}
use Rattle.iso_store.specs.declared.heap_cells.HeapMark.{HeapMark}
use Rattle.iso_store.specs.HeapStores.{unbound_cell, unbound_at, taken_back, reset, restored}
use Rattle.iso_store.proofs.TakingBack.{changed_at-length, changed_at-same, changed_at-there, take-changed_at, changed-back, back-length, back-marked, back-trailed, back-undone}

taken_back-length : (e : Cell) (cs : List Cell) → length (taken_back e cs) ≡ length cs
taken_back-length (Unbound n) cs = refl
taken_back-length (Bound n w) cs = refl
taken_back-length (Argument w) cs = refl
taken_back-length (Functor f n) cs = refl
taken_back-length (Wide z) cs = refl
taken_back-length (Entry p) cs = changed_at-length unbound_cell cs p

take-taken_back : (k : ℕ) (e : Cell) (cs : List Cell) → take k (taken_back e cs) ≡ taken_back e (take k cs)
take-taken_back k (Unbound n) cs = refl
take-taken_back k (Bound n w) cs = refl
take-taken_back k (Argument w) cs = refl
take-taken_back k (Functor f n) cs = refl
take-taken_back k (Wide z) cs = refl
take-taken_back k (Entry p) cs = take-changed_at unbound_cell k cs p

-- a binding that is trailed
pub bound-restored : (cs es : List Cell) (m : HeapMark) (e n : ℕ) (w : HeapWord) → slice_get cs e ≡ Some (Unbound n) → m.trail ≤ length es → restored (set cs e (Bound n w)) (es ++ Entry e ∷ []) m ≡ restored cs es m
bound-restored cs es m e n w free top = back-trailed taken_back take-taken_back cs (set cs e (Bound n w)) es (Entry e) m.cells m.trail top (changed-back unbound_cell cs e (Unbound n) (Bound n w) free refl)

-- a binding of a cell that came after the mark
pub newer-restored : (cs es : List Cell) (m : HeapMark) (e : ℕ) (c : Cell) → m.cells ≤ e → restored (set cs e c) es m ≡ restored cs es m
newer-restored cs es m e c newer = ap (reset (drop m.trail es)) (take-set-le m.cells cs e c newer)

-- what the mark stands for, once it was undone, for the mark itself and each older one
pub undone-restored : (cs es : List Cell) (k m : HeapMark) → k.cells ≤ m.cells → k.trail ≤ m.trail → m.trail ≤ length es → restored (restored cs es m) (take m.trail es) k ≡ restored cs es k
undone-restored cs es k m cells trail top = back-undone taken_back take-taken_back cs es k.cells k.trail m.cells m.trail cells trail top

pub restored-length : (cs es : List Cell) (m : HeapMark) → m.cells ≤ length cs → length (restored cs es m) ≡ m.cells
restored-length cs es m top = back-length taken_back taken_back-length cs es m.cells m.trail top

-- a mark that is made stands for the heap as it is
pub marked-restored : (cs es : List Cell) (m : HeapMark) → m.cells ≡ length cs → m.trail ≡ length es → restored cs es m ≡ cs
marked-restored cs es m cells trail = back-marked taken_back cs es m.cells m.trail cells trail

-- a binding that is taken back
pub unbind-bound : (cs : List Cell) (e n : ℕ) (w : HeapWord) → slice_get cs e ≡ Some (Bound n w) → set cs e (Unbound n) ≡ unbound_at cs e
unbind-bound cs e n w h = sym (changed_at-there unbound_cell cs e (Bound n w) h)

not_bound-same : (c : Cell) → ((n : ℕ) (w : HeapWord) → c ≢ Bound n w) → unbound_cell c ≡ c
not_bound-same (Unbound n) other = refl
not_bound-same (Bound n w) other = absurd (other n w refl)
not_bound-same (Argument w) other = refl
not_bound-same (Functor f n) other = refl
not_bound-same (Wide z) other = refl
not_bound-same (Entry p) other = refl

pub unbind-other : (cs : List Cell) (e : ℕ) (c : Cell) → slice_get cs e ≡ Some c → ((n : ℕ) (w : HeapWord) → c ≢ Bound n w) → unbound_at cs e ≡ cs
unbind-other cs e c h other = changed_at-same unbound_cell cs e c h (not_bound-same c other)

-- the entries from this one on
pub drop-entry : (es : List Cell) (k left : ℕ) (e : Cell) → slice_get es k ≡ Some e → left ≡ suc k → drop k es ≡ e ∷ drop left es
drop-entry [] k left e h is = absurd (cc)
drop-entry (x ∷ es) zero left e h is = let same : x ≡ e = cc in rw is (ap (λ y. y ∷ es) same)
drop-entry (x ∷ es) (suc k) left e h is = rw is (drop-entry es k (suc k) e h refl)

pub no-entry : (e : Cell) (cs : List Cell) → ((p : ℕ) → e ≢ Entry p) → taken_back e cs ≡ cs
no-entry (Unbound n) cs other = refl
no-entry (Bound n w) cs other = refl
no-entry (Argument w) cs other = refl
no-entry (Functor f n) cs other = refl
no-entry (Wide z) cs other = refl
no-entry (Entry p) cs other = absurd (other p refl)
