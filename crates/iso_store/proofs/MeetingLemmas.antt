-- How words of a heap meet that are at the end of their bindings.
use Rattle.std.proofs.Common.{◌≡◌, ◌≢◌, ℕ, ◌<◌, List, true, false, refl, sym, ap, ◌∙◌, arith, Option, Some, None}
use Rattle.std.specs.List.{slice_get}
use Rattle.std.proofs.lemmas.Bool.{false≢true, ne_eqb}
use Rattle.iso_model.specs.Terms.Trees.{Tree, Variable}
use Rattle.iso_model.specs.Terms.Sorts.{is_term}
use Rattle.iso_model.specs.Terms.Variables.{occurs}
use Rattle.iso_model.specs.Terms.Substitutions.{Subst, apply}
use Rattle.iso_model.specs.Terms.Unification.Applied.{apply_none}
use Rattle.iso_model.specs.Terms.Unification.Composed.{unifier_sym}
use Rattle.iso_store_core.specs.Presents.{Present, Binds, IsUnification}
use Rattle.iso_store.specs.declared.heap_cells.HeapWord.{HeapWord}
use Rattle.iso_store.specs.declared.heap_cells.HeapWord.TheVariants.{Var}
use Rattle.iso_store.specs.declared.heap_cells.Cell.{Cell}
use Rattle.iso_store.specs.declared.heap_cells.Cell.TheVariants.{Unbound, Bound, Argument, Functor, Wide, Entry}
use Rattle.iso_store.specs.FlatCells.{is_unbound}
use Rattle.iso_store.specs.declared.meetings.Meeting.{Meeting}
use Rattle.iso_store.specs.declared.meetings.Meeting.TheVariants.{Same, Clash, FirstVariable, SecondVariable, Arguments}
use Rattle.iso_store.specs.HeapTerms.{made_term, heap_substitution}
use Rattle.iso_store.specs.HeapStores.{is_word, IsHeap, next_word}
use Rattle.iso_store.specs.Meetings.{IsYounger, IsMeeting, IsMetFirst}
use Rattle.iso_store.proofs.Bound.{binds-none}
use Rattle.iso_store.proofs.HeapReads.{end_is_variable, shows_variable}
use Rattle.iso_store.proofs.HeapInstructionLemmas.{same-unifies}

-- where nothing is bound, all stands as it stood
pub places-kept : {W : Type 0} (p : Present W) (at : ℕ → Tree) → (s : Subst) × Binds p p s × ((k : ℕ) → at k ≡ apply s (at k))
places-kept p at = (Variable, binds-none p, λ k. sym (apply_none (at k)))

-- the other way round
pub unified-sym : {W : Type 0} {p q : Present W} (a b : Tree) → IsUnification p q a b true → IsUnification p q b a true
unified-sym a b h = (h.0, unifier_sym h.1, h.2)

-- where nothing is bound at first
pub met-kept : {W : Type 0} (p : Present W) (a b : Tree) (m : Meeting) → IsMeeting m a b → is_term a ≡ true → is_term b ≡ true → IsMetFirst p p a b m
met-kept p a b Same h one other = same-unifies p a b h
met-kept p a b Clash h one other = h
met-kept p a b (FirstVariable x) h one other = (refl, h)
met-kept p a b (SecondVariable x) h one other = (refl, h)
met-kept p a b (Arguments n) h one other = (refl, h, one, other)

-- of two variables the one of the lesser number does not have the other in it
module _ (x y : ℕ) (t u : Tree) (first : t ≡ Variable x) (second : u ≡ Variable y) (less : x < y) (n : ℕ) (is : u ≡ Variable n) where
  younger-number : y ≡ n
  younger-number = let both : Variable y ≡ Variable n = sym second ∙ is in cc

  pub younger-absent : occurs n t ≡ false
  younger-absent =
      let number = younger-number in
      ap (occurs n) first ∙ ne_eqb x n (λ same. omega arith)

  pub younger-over : IsYounger n t
  younger-over m e =
      let both : Variable x ≡ Variable m = sym first ∙ e in
      let same : x ≡ m = cc in
      let number = younger-number in
      omega arith

-- the number of an unbound variable
unbound-number : (o : Option Cell) → is_unbound o ≡ true → (n : ℕ) × (o ≡ Some (Unbound n))
unbound-number None h = absurd (false≢true h)
unbound-number (Some (Unbound n)) h = (n, refl)
unbound-number (Some (Bound n w)) h = absurd (false≢true h)
unbound-number (Some (Argument w)) h = absurd (false≢true h)
unbound-number (Some (Functor f n)) h = absurd (false≢true h)
unbound-number (Some (Wide z)) h = absurd (false≢true h)
unbound-number (Some (Entry p)) h = absurd (false≢true h)

pub unbound-cell : (names : List (List ℕ)) (cs : List Cell) (next : ℕ) → IsHeap names cs next → (a n : ℕ) → is_unbound (slice_get cs a) ≡ true → apply (heap_substitution names cs) (made_term names cs (Var a)) ≡ Variable n → slice_get cs a ≡ Some (Unbound n)
unbound-cell names cs next heap a n unbound is =
    let found = unbound-number (slice_get cs a) unbound in
    let both : Variable found.0 ≡ Variable n = sym (shows_variable names cs next heap a found.0 found.1) ∙ is in
    let same : found.0 ≡ n = cc in
    found.1 ∙ ap (λ k. Some (Unbound k)) same

-- a word at the end of its bindings, which is no variable, stands for none
pub bound-over : (names : List (List ℕ)) (cs : List Cell) (next : ℕ) → IsHeap names cs next → (w : HeapWord) → is_word names cs w ≡ true → next_word cs w ≡ None → ((a : ℕ) → w ≢ Var a)
    → (n : ℕ) → IsYounger n (apply (heap_substitution names cs) (made_term names cs w))
bound-over names cs next heap w holds end other n m is =
    let found = end_is_variable names cs next heap w m holds end is in
    absurd (other found.0 found.1)
