-- A heap has no terms but those of its variables: a number that no variable has is untouched.
use Rattle.std.proofs.Common.{◌≡◌, ◌≢◌, ℕ, List, [], length, true, false, refl, ap, sym, ◌∙◌, arith, Option, Some, None}
use Rattle.std.specs.List.{slice_get, list_any}
use Rattle.std.proofs.lemmas.Bool.{false≢true, false_from_ne_true}
use Rattle.iso_model.specs.Terms.Trees.{Variable}
use Rattle.iso_model.specs.Terms.Variables.{occurs}
use Rattle.iso_model.specs.Terms.Substitutions.{apply}
use Rattle.iso_store.specs.declared.heap_cells.HeapWord.{HeapWord}
use Rattle.iso_store.specs.declared.heap_cells.Cell.{Cell}
use Rattle.iso_store.specs.declared.heap_cells.Cell.TheVariants.{Bound}
use Rattle.iso_store_core.specs.Presents.{Untouched}
use Rattle.iso_store.specs.Rounds.{rounds_for}
use Rattle.iso_store.specs.RoundLemmas.{rounds_none}
use Rattle.iso_store.specs.HeapTerms.{target, cell_terms, made_term, optional_term, heap_bindings, heap_substitution, bound_count}
use Rattle.iso_store.specs.HeapStores.{number_of, has_cell_number, is_word, IsHeap, present_of_heap}
use Rattle.iso_store.specs.HeapNumbers.{target_from, unnumbered, numbered-taken, word_before}
use Rattle.iso_store.specs.HeapVariables.{inside-made, inside-meaning}
use Rattle.iso_store.specs.VariableKinds.{Inside}

-- where these are the names of the atoms
module _ (names : List (List ℕ)) (cs : List Cell) where
  module _ (next : ℕ) (heap : IsHeap names cs next) where
    -- the variable has a cell
    abbrev pub Known : ℕ → Type 0
    Known y = list_any (has_cell_number y) cs ≡ true

    pub known-made : (w : HeapWord) → is_word names cs w ≡ true → Inside Known (made_term names cs w)
    known-made w h = inside-made Known names cs next heap (length cs) (omega arith) (λ a m below number. numbered-taken cs a m number) w (word_before names cs w h)

    known-meaning : (w : HeapWord) → is_word names cs w ≡ true → Inside Known (apply (heap_substitution names cs) (made_term names cs w))
    known-meaning w h =
        inside-meaning Known names cs next heap (λ a n v is known. known-made v (heap.target a n v is)) (made_term names cs w) (known-made w h)

    pub not_bound : (n : ℕ) → ((a : ℕ) (w : HeapWord) → slice_get cs a ≢ Some (Bound n w)) → heap_bindings names cs n ≡ None
    not_bound n bare = none_at (target cs n) refl
      where
        none_at : (o : Option HeapWord) → target cs n ≡ o → heap_bindings names cs n ≡ None
        none_at None is = ap (optional_term names (cell_terms names [] cs)) is
        none_at (Some w) is = let from = target_from cs n w is in absurd (bare from.0 w from.1)

    pub not_bound-value : (n : ℕ) → ((a : ℕ) (w : HeapWord) → slice_get cs a ≢ Some (Bound n w)) → heap_substitution names cs n ≡ Variable n
    not_bound-value n bare = rounds_none (heap_bindings names cs) (rounds_for (bound_count cs)) n (not_bound n bare)

    pub heap-untouched : (limit n : ℕ) → list_any (has_cell_number n) cs ≡ false → Untouched (present_of_heap names cs next limit) n
    heap-untouched limit n none = record {
      substitution = not_bound-value n (λ a w h. unnumbered cs n none a (ap number_of h));
      meanings = λ w holds.
          false_from_ne_true (occurs n (apply (heap_substitution names cs) (made_term names cs w))) (λ h. false≢true (sym none ∙ known-meaning w holds n h));
    }
