-- What a cell holds: the word that a variable is bound to, or that stands as an argument.
use Rattle.std.proofs.Common.{◌≡◌, ℕ, ◌+◌, ◌-◌, ◌<◌, List, length, get_or, true, refl, ap, sym, ◌∙◌, arith, Option, Some, None}
use Rattle.std.specs.List.{slice_get}
use Rattle.std.proofs.lemmas.Bool.{false≢true}
use Rattle.std.proofs.lemmas.Option.{slice_get-get_or}
use Rattle.iso_store_core.specs.Arguments.{argument}
use Rattle.iso_store.specs.declared.heap_cells.HeapWord.{HeapWord}
use Rattle.iso_store.specs.declared.heap_cells.HeapWord.TheVariants.{Var, Structure}
use Rattle.iso_store.specs.declared.heap_cells.Cell.{Cell}
use Rattle.iso_store.specs.declared.heap_cells.Cell.TheVariants.{Unbound, Bound, Argument, Functor, Wide, Entry}
use Rattle.iso_store.specs.FlatCells.{IsStorable, bound_number, held_word, is_unbound}
use Rattle.iso_store.specs.HeapStores.{is_variable_cell, bound_word, cell_word, is_word, IsHeap, MayCome, next_word, unbound_at}
use Rattle.iso_store.proofs.HeapResets.{unbind-other}
use Rattle.iso_store.proofs.HeapReads.{seen, step_holds, step_same, argument_word}

-- a cell that may come can be written flat
pub storable-coming : (names : List (List ℕ)) (cs : List Cell) (next : ℕ) (c : Cell) → MayCome names cs next c → IsStorable c
storable-coming names cs next (Unbound n) h = tt
storable-coming names cs next (Bound n w) h = absurd h
storable-coming names cs next (Argument w) h = tt
storable-coming names cs next (Functor f n) h = tt
storable-coming names cs next (Wide z) h = tt
storable-coming names cs next (Entry p) h = absurd h

-- a variable's cell holds what the variable is bound to
pub held-bound : (o : Option Cell) → is_variable_cell o ≡ true → held_word o ≡ bound_word o
held-bound None h = refl
held-bound (Some (Unbound n)) h = refl
held-bound (Some (Bound n w)) h = refl
held-bound (Some (Argument w)) h = absurd (false≢true h)
held-bound (Some (Functor f n)) h = refl
held-bound (Some (Wide z)) h = refl
held-bound (Some (Entry p)) h = refl

-- a variable that is bound to nothing is unbound
pub unbound-end : (o : Option Cell) → is_variable_cell o ≡ true → bound_word o ≡ None → is_unbound o ≡ true
unbound-end None h none = absurd (false≢true h)
unbound-end (Some (Unbound n)) h none = refl
unbound-end (Some (Bound n w)) h none = absurd (cc)
unbound-end (Some (Argument w)) h none = absurd (false≢true h)
unbound-end (Some (Functor f n)) h none = absurd (false≢true h)
unbound-end (Some (Wide z)) h none = absurd (false≢true h)
unbound-end (Some (Entry p)) h none = absurd (false≢true h)

-- the cell of the bound variable of a number
pub bound_number-is : (o : Option Cell) (n : ℕ) → bound_number o ≡ Some n → (w : HeapWord) × (o ≡ Some (Bound n w))
bound_number-is None n h = absurd (cc)
bound_number-is (Some (Unbound m)) n h = absurd (cc)
bound_number-is (Some (Bound m w)) n h = let same : m ≡ n = cc in (w, ap (λ k. Some (Bound k w)) same)
bound_number-is (Some (Argument w)) n h = absurd (cc)
bound_number-is (Some (Functor f m)) n h = absurd (cc)
bound_number-is (Some (Wide z)) n h = absurd (cc)
bound_number-is (Some (Entry p)) n h = absurd (cc)

-- where no variable is bound, there is no binding to take back
pub unbound_at-same : (cs : List Cell) (a : ℕ) → a < length cs → bound_number (slice_get cs a) ≡ None → unbound_at cs a ≡ cs
unbound_at-same cs a within none =
    let there = slice_get-get_or cs a (Unbound 0) within in
    unbind-other cs a (get_or cs a (Unbound 0)) there (λ n w is. let both : None ≡ Some n = sym none ∙ ap bound_number (there ∙ ap Some is) in cc)

-- an argument's cell that holds no word is a variable itself
none_held : (a : ℕ) (c : Cell) → held_word (Some c) ≡ None → cell_word a c ≡ Var a
none_held a (Unbound n) h = refl
none_held a (Bound n w) h = absurd (cc)
none_held a (Argument w) h = absurd (cc)
none_held a (Functor f n) h = refl
none_held a (Wide z) h = refl
none_held a (Entry p) h = refl

-- where these are the names of the atoms
module _ (names : List (List ℕ)) (cs : List Cell) (next : ℕ) (heap : IsHeap names cs next) where
  -- what an argument's cell holds stands for what the argument's word stands for
  word_held : (a : ℕ) (c : Cell) (w : HeapWord) → slice_get cs a ≡ Some c → is_word names cs (cell_word a c) ≡ true → held_word (Some c) ≡ Some w → (is_word names cs w ≡ true) × (seen names cs next heap w ≡ seen names cs next heap (cell_word a c))
  word_held a (Unbound n) w is holds h = absurd (cc)
  word_held a (Bound n v) w is holds h =
      let step : next_word cs (Var a) ≡ Some w = ap bound_word is ∙ h in
      (step_holds names cs next heap (Var a) w step, step_same names cs next heap (Var a) w step)
  word_held a (Argument v) w is holds h =
      let same : w ≡ v = cc in
      (ap (is_word names cs) same ∙ holds, ap (seen names cs next heap) same)
  word_held a (Functor f n) w is holds h = absurd (cc)
  word_held a (Wide z) w is holds h = absurd (cc)
  word_held a (Entry p) w is holds h = absurd (cc)

  -- the argument of a compound, from the functor back: the word that its cell holds
  pub argument-held : (p f n i : ℕ) (w : HeapWord) → slice_get cs p ≡ Some (Functor f n) → i < n → held_word (slice_get cs (p - (n - i))) ≡ Some w → (is_word names cs w ≡ true) × (seen names cs next heap w ≡ argument i (seen names cs next heap (Structure p)))
  argument-held p f n i w h below held =
      let room = (heap.functor p f n h).room in
      let found = argument_word names cs next heap p f n i h below in
      let same : p - (n - i) ≡ p - n + i = omega arith in
      let here : held_word (Some found.0) ≡ Some w = sym (ap held_word (ap (slice_get cs) same ∙ found.1)) ∙ held in
      let is = word_held (p - n + i) found.0 w found.1 found.2 here in
      (is.0, is.1 ∙ found.3)

  -- or the variable at its place
  pub argument-unbound : (p f n i : ℕ) → slice_get cs p ≡ Some (Functor f n) → i < n → held_word (slice_get cs (p - (n - i))) ≡ None → (is_word names cs (Var (p - (n - i))) ≡ true) × (seen names cs next heap (Var (p - (n - i))) ≡ argument i (seen names cs next heap (Structure p)))
  argument-unbound p f n i h below held =
      let room = (heap.functor p f n h).room in
      let found = argument_word names cs next heap p f n i h below in
      let same : p - (n - i) ≡ p - n + i = omega arith in
      let here : held_word (Some found.0) ≡ None = sym (ap held_word (ap (slice_get cs) same ∙ found.1)) ∙ held in
      let is : Var (p - (n - i)) ≡ cell_word (p - n + i) found.0 = ap Var same ∙ sym (none_held (p - n + i) found.0 here) in
      (ap (is_word names cs) is ∙ found.2, ap (seen names cs next heap) is ∙ found.3)
