-- What the words of a heap stand for are terms, its bindings are a substitution, and no variable has a number that is
-- still to come.
use Rattle.std.proofs.Common.{◌≡◌, ◌≢◌, ◌≤◌, ℕ, zero, suc, ◌+◌, ◌-◌, ◌<◌, ◌&&◌, List, [], ◌∷◌, length, get_or, true, false, nat_le, refl, ap, sym, ◌∙◌, arith, Option, Some, None}
use Rattle.std.specs.List.{slice_get, list_any}
use Rattle.iso_atoms.specs.Texts.{text_at}
use Rattle.std.proofs.lemmas.Bool.{and_from, le-leb, false_from_ne_true}
use Rattle.std.proofs.lemmas.Option.{slice_get_within}
use Rattle.iso_model.specs.Terms.Trees.{Tree, Variable, Apply, End, row, count}
use Rattle.iso_model.specs.Terms.Sorts.{is_term, is_row}
use Rattle.iso_model.specs.Terms.Variables.{occurs}
use Rattle.iso_model.specs.Terms.Substitutions.{apply, IsSubstitution}
use Rattle.iso_model.proofs.OnTerms.SortLemmas.{term_applied}
use Rattle.iso_store.specs.declared.heap_cells.HeapWord.{HeapWord}
use Rattle.iso_store.specs.declared.heap_cells.HeapWord.TheVariants.{Var, Structure, Int, Boxed, Atom}
use Rattle.iso_store.specs.declared.heap_cells.Cell.{Cell}
use Rattle.iso_store.specs.declared.heap_cells.Cell.TheVariants.{Unbound, Bound, Argument, Functor, Wide, Entry}
use Rattle.iso_store.specs.Rounds.{bound_or_itself, rounds, rounds_for}
use Rattle.iso_store.specs.HeapTerms.{made_term, heap_bindings, heap_substitution, bound_count}
use Rattle.iso_store.specs.RoundLemmas.{rounds_left, rounds_none}
use Rattle.iso_store.specs.HeapStores.{is_word, number_of, has_cell_number, IsBefore, IsHeap}
use Rattle.iso_store.specs.HeapUntouched.{not_bound-value}
use Rattle.iso_store.specs.HeapLemmas.{place_term, place_term-unbound, place_term-bound, place_term-argument, place_term-functor, place_term-wide, terms_before, before-length, before-at, each_place}
use Rattle.iso_store.specs.HeapNumbers.{word_before, binding_is, untaken}

-- a compound of 1 to 255 terms is a term
pub compound-sorted : (f : List ℕ) (ts : Tree) → 0 < count ts → count ts < 256 → is_row ts ≡ true → is_term (Apply f ts) ≡ true
compound-sorted f ts some few sorted =
    and_from (nat_le 1 (count ts)) (nat_le (count ts) 255 && is_row ts) (le-leb 1 (count ts) (omega arith))
    (and_from (nat_le (count ts) 255) (is_row ts) (le-leb (count ts) 255 (omega arith)) sorted)

list-count : (us : List Tree) → count (row us) ≡ length us
list-count [] = refl
list-count (u ∷ us) = let inner = list-count us in omega arith

list-sorted : (us : List Tree) → ((k : ℕ) → k < length us → is_term (get_or us k End) ≡ true) → is_row (row us) ≡ true
list-sorted [] sorted = refl
list-sorted (u ∷ us) sorted = and_from (is_term u) (is_row (row us)) (sorted 0 (omega arith)) (list-sorted us (λ k h. sorted (suc k) (omega arith)))

-- where these are the names of the atoms
module _ (names : List (List ℕ)) (cs : List Cell) (next : ℕ) (heap : IsHeap names cs next) where
  abbrev Sorted : Tree → Type 0
  Sorted t = is_term t ≡ true

  sorted-word : (a : ℕ) (w : HeapWord) → IsBefore a w → ((j : ℕ) → j < a → Sorted (place_term names cs j)) → Sorted (made_term names cs w)
  sorted-word a (Var b) below before = before b below
  sorted-word a (Structure p) below before = before p below
  sorted-word a (Int z) below before = refl
  sorted-word a (Boxed p) below before = before p below
  sorted-word a (Atom x) below before = refl

  sorted-cell : (a : ℕ) (c : Cell) → slice_get cs a ≡ Some c → ((j : ℕ) → j < a → Sorted (place_term names cs j)) → Sorted (place_term names cs a)
  sorted-cell a (Unbound n) h before = ap is_term (place_term-unbound names cs a n h)
  sorted-cell a (Bound n w) h before = ap is_term (place_term-bound names cs a n w h)
  sorted-cell a (Argument w) h before =
      let below = (heap.argument a w h).1 in
      ap is_term (place_term-argument names cs a w h below) ∙ sorted-word a w below before
  sorted-cell a (Functor f n) h before =
      let is = heap.functor a f n h in
      let room = is.room in
      let some = is.some in
      let few = is.few in
      let us = terms_before names cs a n in
      let size = before-length names cs a n room (slice_get_within cs a (Functor f n) h) in
      let number = list-count us in
      let each : (k : ℕ) → k < length us → Sorted (get_or us k End) =
      λ k less. (let here : k < n = omega arith in ap is_term (before-at names cs a n k room here) ∙ before (a - n + k) (omega arith)) in
      ap is_term (place_term-functor names cs a f n h) ∙ compound-sorted (text_at names f) (row us) (omega arith) (omega arith) (list-sorted us each)
  sorted-cell a (Wide z) h before = ap is_term (place_term-wide names cs a z h)
  sorted-cell a (Entry p) h before = absurd (heap.entry a p h)

  sorted-made : (w : HeapWord) → is_word names cs w ≡ true → Sorted (made_term names cs w)
  sorted-made w h = sorted-word (length cs) w (word_before names cs w h) (each_place names Sorted cs (length cs) (omega arith) (λ a c there below before. sorted-cell a c there before))

  sorted-bound : (k n : ℕ) (o : Option Tree) → heap_bindings names cs n ≡ o → Sorted (rounds (heap_bindings names cs) k n)
  sorted-bound zero n o is = refl
  sorted-bound (suc k) n None is =
      ap (λ u. is_term (apply (rounds (heap_bindings names cs) k) (bound_or_itself n u))) is ∙ sorted-bound k n None is
  sorted-bound (suc k) n (Some t) is =
      let parts = binding_is names cs n t is in
      let target : Sorted t = ap is_term (sym parts.3) ∙ sorted-made parts.1 (heap.target parts.0 n parts.1 parts.2) in
      ap (λ u. is_term (apply (rounds (heap_bindings names cs) k) (bound_or_itself n u))) is
      ∙ term_applied (rounds (heap_bindings names cs) k) t target (λ m o. sorted-bound k m (heap_bindings names cs m) refl)

  pub sorted-meaning : (w : HeapWord) → is_word names cs w ≡ true → is_term (apply (heap_substitution names cs) (made_term names cs w)) ≡ true
  sorted-meaning w h =
      term_applied (heap_substitution names cs) (made_term names cs w) (sorted-made w h)
      (λ n o. sorted-bound (rounds_for (bound_count cs)) n (heap_bindings names cs n) refl)

  -- a number that is still to come is bound to nothing
  pub high_value : (n : ℕ) → next ≤ n → heap_substitution names cs n ≡ Variable n
  high_value n high = not_bound-value names cs next heap n (λ b w k. let below = heap.numbered b n (ap number_of k) in absurd (omega arith))

  left-alone : (n m : ℕ) → heap_substitution names cs n ≢ Variable n → occurs n (heap_substitution names cs m) ≡ false
  left-alone n m bound =
      false_from_ne_true (occurs n (heap_substitution names cs m)) (λ inside.
      bound (rounds_none (heap_bindings names cs) (rounds_for (bound_count cs)) n (rounds_left (heap_bindings names cs) (rounds_for (bound_count cs)) m (heap.settled m) n inside)))

  pub substitution-is : IsSubstitution (heap_substitution names cs)
  substitution-is = record { finite = (next, high_value); idempotent = left-alone }

  pub next-untaken : (n : ℕ) → next ≤ n → list_any (has_cell_number n) cs ≡ false
  next-untaken n high = untaken cs n (λ a m there. (let below = heap.numbered a m there in omega arith))
