-- A variable behind every binding that leads to a cell behind it occurs in no term of the cells before it.
use Rattle.std.proofs.Common.{◌≡◌, ◌≢◌, ℕ, ◌<◌, ◌≤◌, List, [], ◌∷◌, ◌++◌, length, drop, take, set, false, refl, ap, sym, ◌∙◌, arith, Some, inl, inr, ◌⊎◌, OnOk, OnErr, Result, Ok, Err}
use Rattle.std.specs.List.{slice_get}
use Rattle.std.proofs.lemmas.Bool.{cases_eq, false_from_ne_true}
use Rattle.iso_model.specs.Terms.Variables.{occurs}
use Rattle.iso_model.specs.Terms.Substitutions.{apply}
use Rattle.iso_area.specs.Stacks.{Stacks, stacks}
use Rattle.iso_store.specs.declared.heap_cells.HeapWord.{HeapWord}
use Rattle.iso_store.specs.declared.heap_cells.HeapWord.TheVariants.{Var, Structure, Int, Boxed, Atom}
use Rattle.iso_store.specs.declared.heap_cells.Cell.{Cell}
use Rattle.iso_store.specs.declared.heap_cells.Cell.TheVariants.{Unbound, Bound, Argument, Functor, Wide, Entry}
use Rattle.iso_store.specs.declared.heap_cells.HeapMark.{HeapMark}
use Rattle.iso_store.specs.HeapTerms.{made_term, heap_substitution}
use Rattle.iso_store.specs.HeapStores.{number_of, IsBefore, word_place, HeapLeadsBack, IsHeap, MayCome, unbound_cell, taken_back, restored}
use Rattle.iso_store.proofs.TakingBack.{changed_at-was, back-was}
use Rattle.iso_store.specs.HeapNumbers.{word_before}
use Rattle.iso_store.specs.HeapVariables.{inside-made, inside-meaning}
use Rattle.iso_store.specs.Slices.{slice_get-pushed, slice_get-set, slice_get-here, slice_get-taken}
use Rattle.iso_store.specs.VariableKinds.{Inside}
use Rattle.iso_store.proofs.Apart.{before-or-not}

pub place-before : (k : ℕ) (w : HeapWord) (j : ℕ) → IsBefore k w → word_place w ≡ Some j → j < k
place-before k (Var a) j below is = let same : a ≡ j = cc in omega arith
place-before k (Structure p) j below is = let same : p ≡ j = cc in omega arith
place-before k (Int z) j below is = absurd (cc)
place-before k (Boxed p) j below is = let same : p ≡ j = cc in omega arith
place-before k (Atom a) j below is = absurd (cc)

pub before-place : (k : ℕ) (w : HeapWord) → ((j : ℕ) → word_place w ≡ Some j → j < k) → IsBefore k w
before-place k (Var a) below = below a refl
before-place k (Structure p) below = below p refl
before-place k (Int z) below = tt
before-place k (Boxed p) below = below p refl
before-place k (Atom a) below = tt

pub either-before : (w : HeapWord) (j k : ℕ) → (w ≡ Var j) ⊎ ((w ≡ Structure j) ⊎ (w ≡ Boxed j)) → j < k → IsBefore k w
either-before w j k (inl is) below = rw is below
either-before w j k (inr (inl is)) below = rw is below
either-before w j k (inr (inr is)) below = rw is below

-- ---- what a binding, a new cell and a mark leave of that
leads-set : (cs : List Cell) (e n : ℕ) (w : HeapWord) (top high : ℕ) (x : Cell) → slice_get cs e ≡ Some x → HeapLeadsBack cs top → top ≤ high → ((j : ℕ) → word_place w ≡ Some j → e < j → j ≤ high) → HeapLeadsBack (set cs e (Bound n w)) high
leads-set cs e n w top high x free back more here a m v j there place forward =
    elim (cases_eq a e) [
      | inl same ↦
          let both : Some (Bound n w) ≡ Some (Bound m v) = sym (slice_get-here cs e (Bound n w) x free) ∙ ap (slice_get (set cs e (Bound n w))) (sym same) ∙ there in
          let target : w ≡ v = cc in
          here j (ap word_place target ∙ place) (omega arith)
      | inr other ↦
          let before = back a m v j (sym (slice_get-set cs e a (Bound n w) other) ∙ there) place forward in
          omega arith
    ]

pub heap-leads-bound : (area new : Stacks Cell) (e n : ℕ) (w : HeapWord) (top high : ℕ) (x : Cell) → slice_get area.low e ≡ Some x → HeapLeadsBack area.low top → top ≤ high → ((j : ℕ) → word_place w ≡ Some j → e < j → j ≤ high)
    → {E : Type 0} (result : Result Unit E) → OnOk result (new.low ≡ set area.low e (Bound n w)) → OnErr result (new ≡ area) → HeapLeadsBack new.low high
heap-leads-bound area new e n w top high x free back more here (Ok u) done same = rw done (leads-set area.low e n w top high x free back more here)
heap-leads-bound area new e n w top high x free back more here (Err f) done same = rw same (λ a m v j there place forward. let before = back a m v j there place forward in omega arith)

unbound-was : (c : Cell) (n : ℕ) (w : HeapWord) → Some (unbound_cell c) ≢ Some (Bound n w)
unbound-was (Unbound m) n w is = cc
unbound-was (Bound m v) n w is = cc
unbound-was (Argument v) n w is = cc
unbound-was (Functor f m) n w is = cc
unbound-was (Wide z) n w is = cc
unbound-was (Entry p) n w is = cc

taken_back-was : (e : Cell) (cs : List Cell) (a n : ℕ) (w : HeapWord) → slice_get (taken_back e cs) a ≡ Some (Bound n w) → slice_get cs a ≡ Some (Bound n w)
taken_back-was (Unbound m) cs a n w h = h
taken_back-was (Bound m v) cs a n w h = h
taken_back-was (Argument v) cs a n w h = h
taken_back-was (Functor f m) cs a n w h = h
taken_back-was (Wide z) cs a n w h = h
taken_back-was (Entry p) cs a n w h = changed_at-was unbound_cell cs p a (Bound n w) (λ c. unbound-was c n w) h

-- where these are the names of the atoms
module _ (names : List (List ℕ)) where
  not-bound : (cs : List Cell) (next : ℕ) (c : Cell) → MayCome names cs next c → (n : ℕ) (w : HeapWord) → c ≢ Bound n w
  not-bound cs next (Unbound m) may n w is = cc
  not-bound cs next (Bound m v) may n w is = may
  not-bound cs next (Argument v) may n w is = cc
  not-bound cs next (Functor f m) may n w is = cc
  not-bound cs next (Wide z) may n w is = cc
  not-bound cs next (Entry p) may n w is = may

  leads-more : (cs : List Cell) (next top : ℕ) (c : Cell) → MayCome names cs next c → HeapLeadsBack cs top → HeapLeadsBack (cs ++ c ∷ []) top
  leads-more cs next top c may back a n w j there place forward =
      elim (slice_get-pushed cs c (Bound n w) a there) [
        | inl before ↦ back a n w j before place forward
        | inr last ↦ absurd (not-bound cs next c may n w last.1)
      ]

  pub heap-leads-pushed : (area new : Stacks Cell) (next top : ℕ) (c : Cell) → MayCome names area.low next c → HeapLeadsBack area.low top
      → {E : Type 0} (result : Result Unit E) → OnOk result (new ≡ stacks (area.low ++ c ∷ []) area.high area.capacity) → OnErr result (new ≡ area) → HeapLeadsBack new.low top
  heap-leads-pushed area new next top c may back (Ok u) done same = rw done (leads-more area.low next top c may back)
  heap-leads-pushed area new next top c may back (Err f) done same = rw same back

  pub heap-leads-restored : (cs es : List Cell) (m : HeapMark) (top high : ℕ) → IsHeap names (restored cs es m) m.next → HeapLeadsBack cs top → ((k : ℕ) → k ≤ top → k < length (restored cs es m) → k ≤ high) → HeapLeadsBack (restored cs es m) high
  heap-leads-restored cs es m top high heap back enough a n w j there place forward =
      let was = slice_get-taken m.cells cs a (Bound n w) (back-was taken_back a (Bound n w) (λ e ds. taken_back-was e ds a n w) (drop m.trail es) (take m.cells cs) there) in
      enough j (back a n w j was place forward) (place-before (length (restored cs es m)) w j (word_before names (restored cs es m) w (heap.target a n w there)) place)

  module _ (cs : List Cell) (next top place : ℕ) (heap : IsHeap names cs next) (back : HeapLeadsBack cs top) (behind : top < place) (within : place < length cs) where
    -- the variable is that of a cell before the place
    abbrev Old : ℕ → Type 0
    Old y = (a : ℕ) × (a < place) × (number_of (slice_get cs a) ≡ Some y)

    old-made : (w : HeapWord) → IsBefore place w → Inside Old (made_term names cs w)
    old-made w below = inside-made Old names cs next heap place (omega arith) (λ a m less number. (a, less, number)) w below

    -- what an old variable is bound to is old
    old-target : (a n : ℕ) (w : HeapWord) → slice_get cs a ≡ Some (Bound n w) → Old n → Inside Old (made_term names cs w)
    old-target a n w is old =
        let here = heap.one_cell old.0 a n old.2 (ap number_of is) in
        let less = old.1 in
        old-made w (before-place place w (λ j leads. elim (before-or-not a j) [
          | inl forward ↦ let low = back a n w j is leads forward in omega arith
          | inr not ↦ omega arith
        ]))

    pub heap-apart : (w : HeapWord) (n : ℕ) → IsBefore place w → number_of (slice_get cs place) ≡ Some n → occurs n (apply (heap_substitution names cs) (made_term names cs w)) ≡ false
    heap-apart w n below there =
        false_from_ne_true (occurs n (apply (heap_substitution names cs) (made_term names cs w))) (λ h.
        let old = inside-meaning Old names cs next heap old-target (made_term names cs w) (old-made w below) n h in
        let here = heap.one_cell old.0 place n old.2 there in
        let less = old.1 in
        absurd (omega arith))
