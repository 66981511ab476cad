-- Variables of one kind in a heap: where cells have no others, and are bound to nothing that has others, the terms
-- that they stand for have no others.
use Rattle.std.proofs.Common.{◌≡◌, ℕ, zero, suc, ◌+◌, ◌-◌, ◌<◌, ◌≤◌, List, length, get_or, refl, ap, sym, ◌∙◌, arith, Option, Some, None}
use Rattle.std.specs.List.{slice_get}
use Rattle.std.proofs.lemmas.Bool.{false≢true}
use Rattle.std.proofs.lemmas.Option.{slice_get_within}
use Rattle.iso_model.specs.Terms.Trees.{Tree, End}
use Rattle.iso_model.specs.Terms.Variables.{occurs}
use Rattle.iso_model.specs.Terms.Substitutions.{apply}
use Rattle.iso_store.specs.declared.heap_cells.HeapWord.{HeapWord}
use Rattle.iso_store.specs.declared.heap_cells.HeapWord.TheVariants.{Var, Structure, Int, Boxed, Atom}
use Rattle.iso_store.specs.declared.heap_cells.Cell.{Cell}
use Rattle.iso_store.specs.declared.heap_cells.Cell.TheVariants.{Unbound, Bound, Argument, Functor, Wide, Entry}
use Rattle.iso_store.specs.Rounds.{bound_or_itself, rounds, rounds_for}
use Rattle.iso_store.specs.HeapTerms.{made_term, heap_bindings, heap_substitution, bound_count}
use Rattle.iso_store.specs.HeapStores.{number_of, IsBefore, IsHeap}
use Rattle.iso_store.specs.HeapLemmas.{place_term, place_term-unbound, place_term-bound, place_term-argument, place_term-functor, place_term-is, terms_before, before-length, before-at, each_place}
use Rattle.iso_store.specs.HeapNumbers.{binding_is}
use Rattle.iso_store.specs.VariableKinds.{Inside, inside-variable, inside-row, inside-applied}

-- where Kind says which variables are of the kind, and these are the names of the atoms
module _ (Kind : ℕ → Type 0) (names : List (List ℕ)) (cs : List Cell) (next : ℕ) (heap : IsHeap names cs next) where
  -- the terms of the cells before a place, where all variables among these are of the kind
  module _ (top : ℕ) (within : top ≤ length cs) (variables : (a m : ℕ) → a < top → number_of (slice_get cs a) ≡ Some m → Kind m) where
    inside-word : (a : ℕ) (w : HeapWord) → IsBefore a w → ((j : ℕ) → j < a → Inside Kind (place_term names cs j)) → Inside Kind (made_term names cs w)
    inside-word a (Var b) below before = before b below
    inside-word a (Structure p) below before = before p below
    inside-word a (Int z) below before = λ y h. absurd (false≢true h)
    inside-word a (Boxed p) below before = before p below
    inside-word a (Atom x) below before = λ y h. absurd (false≢true h)

    inside-cell : (a : ℕ) (c : Cell) → slice_get cs a ≡ Some c → a < top → ((j : ℕ) → j < a → Inside Kind (place_term names cs j)) → Inside Kind (place_term names cs a)
    inside-cell a (Unbound n) h below before = rw (place_term-unbound names cs a n h) (inside-variable Kind n (variables a n below (ap number_of h)))
    inside-cell a (Bound n w) h below before = rw (place_term-bound names cs a n w h) (inside-variable Kind n (variables a n below (ap number_of h)))
    inside-cell a (Argument w) h below before =
        let less = (heap.argument a w h).1 in
        rw (place_term-argument names cs a w h less) (inside-word a w less before)
    inside-cell a (Functor f n) h below before =
        let room = (heap.functor a f n h).room in
        let size = before-length names cs a n room (slice_get_within cs a (Functor f n) h) in
        let each : (k : ℕ) → k < length (terms_before names cs a n) → Inside Kind (get_or (terms_before names cs a n) k End) =
        λ k less. (let here : k < n = omega arith in rw (before-at names cs a n k room here) (before (a - n + k) (omega arith))) in
        rw (place_term-functor names cs a f n h) (inside-row Kind (terms_before names cs a n) each)
    inside-cell a (Wide z) h below before = λ y o. absurd (false≢true (ap (occurs y) (sym (place_term-is names cs a (Wide z) h)) ∙ o))
    inside-cell a (Entry p) h below before = λ y o. absurd (false≢true (ap (occurs y) (sym (place_term-is names cs a (Entry p) h)) ∙ o))

    pub inside-made : (w : HeapWord) → IsBefore top w → Inside Kind (made_term names cs w)
    inside-made w below = inside-word top w below (each_place names (Inside Kind) cs top within inside-cell)

  -- what terms stand for, where variables of the kind are bound to such terms alone
  module _ (targets : (a n : ℕ) (w : HeapWord) → slice_get cs a ≡ Some (Bound n w) → Kind n → Inside Kind (made_term names cs w)) where
    inside-rounds : (k n : ℕ) (o : Option Tree) → heap_bindings names cs n ≡ o → Kind n → Inside Kind (rounds (heap_bindings names cs) k n)
    inside-rounds zero n o is kind y inside = inside-variable Kind n kind y inside
    inside-rounds (suc k) n None is kind y inside =
        inside-rounds k n None is kind y (ap (λ u. occurs y (apply (rounds (heap_bindings names cs) k) (bound_or_itself n u))) (sym is) ∙ inside)
    inside-rounds (suc k) n (Some t) is kind y inside =
        let parts = binding_is names cs n t is in
        let target : Inside Kind t = λ m o. targets parts.0 n parts.1 parts.2 kind m (ap (occurs m) parts.3 ∙ o) in
        inside-applied Kind (rounds (heap_bindings names cs) k) t (λ m other. inside-rounds k m (heap_bindings names cs m) refl other) target y
        (ap (λ u. occurs y (apply (rounds (heap_bindings names cs) k) (bound_or_itself n u))) (sym is) ∙ inside)

    pub inside-meaning : (t : Tree) → Inside Kind t → Inside Kind (apply (heap_substitution names cs) t)
    inside-meaning t inside = inside-applied Kind (heap_substitution names cs) t (λ m kind. inside-rounds (rounds_for (bound_count cs)) m (heap_bindings names cs m) refl kind) inside
