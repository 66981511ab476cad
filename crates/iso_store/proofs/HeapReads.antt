-- What the cells of a heap show of its words.
use Rattle.std.proofs.Common.{◌≡◌, ◌≢◌, ℕ, ℤ, zero, suc, ◌+◌, ◌-◌, ◌<◌, List, [], ◌∷◌, length, get_or, true, false, refl, ap, sym, ◌∙◌, arith, Option, Some, None}
use Rattle.std.specs.List.{slice_get, position_or_len}
use Rattle.iso_atoms.specs.Texts.{text_at}
use Rattle.std.proofs.lemmas.Bool.{false≢true, eq-eqb, ne_eqb}
use Rattle.std.proofs.lemmas.List.Sums.{position_or_len_is}
use Rattle.std.proofs.lemmas.Option.{slice_get-get_or, slice_get_within, get_or_from_slice_get}
use Rattle.iso_model.specs.Terms.Trees.{Tree, Variable, Integer, Apply, End, row, count}
use Rattle.iso_model.specs.Terms.Substitutions.{Subst, apply}
use Rattle.iso_store.specs.declared.heap_cells.HeapWord.{HeapWord}
use Rattle.iso_store.specs.declared.heap_cells.HeapWord.TheVariants.{Var, Structure, Int, Boxed, Atom}
use Rattle.iso_store.specs.declared.heap_cells.Cell.{Cell}
use Rattle.iso_store.specs.declared.heap_cells.Cell.TheVariants.{Unbound, Bound, Argument, Functor, Wide, Entry}
use Rattle.iso_store_core.specs.Arguments.{member, arity, argument}
use Rattle.iso_store.specs.Rounds.{rounds_for}
use Rattle.iso_store.specs.RoundLemmas.{rounds_bound}
use Rattle.iso_store.specs.HeapTerms.{cell_terms, made_term, optional_term, heap_bindings, heap_substitution, bound_count}
use Rattle.iso_store.specs.HeapStores.{number_of, is_variable_cell, is_functor, is_wide, is_argument, has_cell_number, cell_word, is_word, IsHeap, next_word, bound_word, number_rank, word_rank}
use Rattle.iso_store.specs.HeapLemmas.{place_term, place_term-unbound, place_term-bound, place_term-argument, place_term-functor, place_term-wide, terms_before, before-length, before-at}
use Rattle.iso_store.specs.HeapNumbers.{target_is}
use Rattle.iso_store.specs.HeapUntouched.{not_bound-value}

pub applied-count : (s : Subst) (us : List Tree) → count (apply s (row us)) ≡ length us
applied-count s [] = refl
applied-count s (u ∷ us) = let inner = applied-count s us in omega arith

pub applied-member : (s : Subst) (us : List Tree) (i : ℕ) → i < length us → member i (apply s (row us)) ≡ apply s (get_or us i End)
applied-member s [] i h = absurd (omega arith)
applied-member s (u ∷ us) zero h = refl
applied-member s (u ∷ us) (suc i) h = applied-member s us i (omega arith)

-- cells by what they are
pub bound_cell : (o : Option Cell) (w : HeapWord) → bound_word o ≡ Some w → (n : ℕ) × (o ≡ Some (Bound n w))
bound_cell None w h = absurd (cc)
bound_cell (Some (Unbound n)) w h = absurd (cc)
bound_cell (Some (Bound n v)) w h = let same : v ≡ w = cc in (n, ap (λ u. Some (Bound n u)) same)
bound_cell (Some (Argument v)) w h = absurd (cc)
bound_cell (Some (Functor f n)) w h = absurd (cc)
bound_cell (Some (Wide z)) w h = absurd (cc)
bound_cell (Some (Entry p)) w h = absurd (cc)

pub unbound_cell-is : (o : Option Cell) → is_variable_cell o ≡ true → bound_word o ≡ None → (n : ℕ) × (o ≡ Some (Unbound n))
unbound_cell-is None h none = absurd (false≢true h)
unbound_cell-is (Some (Unbound n)) h none = (n, refl)
unbound_cell-is (Some (Bound n v)) h none = absurd (cc)
unbound_cell-is (Some (Argument v)) h none = absurd (false≢true h)
unbound_cell-is (Some (Functor f n)) h none = absurd (false≢true h)
unbound_cell-is (Some (Wide z)) h none = absurd (false≢true h)
unbound_cell-is (Some (Entry p)) h none = absurd (false≢true h)

pub functor_cell : (o : Option Cell) → is_functor o ≡ true → (f : ℕ) × (n : ℕ) × (o ≡ Some (Functor f n))
functor_cell None h = absurd (false≢true h)
functor_cell (Some (Unbound n)) h = absurd (false≢true h)
functor_cell (Some (Bound n v)) h = absurd (false≢true h)
functor_cell (Some (Argument v)) h = absurd (false≢true h)
functor_cell (Some (Functor f n)) h = (f, n, refl)
functor_cell (Some (Wide z)) h = absurd (false≢true h)
functor_cell (Some (Entry p)) h = absurd (false≢true h)

pub wide_cell : (o : Option Cell) → is_wide o ≡ true → (z : ℤ) × (o ≡ Some (Wide z))
wide_cell None h = absurd (false≢true h)
wide_cell (Some (Unbound n)) h = absurd (false≢true h)
wide_cell (Some (Bound n v)) h = absurd (false≢true h)
wide_cell (Some (Argument v)) h = absurd (false≢true h)
wide_cell (Some (Functor f n)) h = absurd (false≢true h)
wide_cell (Some (Wide z)) h = (z, refl)
wide_cell (Some (Entry p)) h = absurd (false≢true h)

-- the cell of an argument
pub argument_cell : (o : Option Cell) → is_argument o ≡ true → (c : Cell) × (o ≡ Some c)
argument_cell None h = absurd (false≢true h)
argument_cell (Some c) h = (c, refl)

pub leaf_ends : (cs : List Cell) (w : HeapWord) → ((a : ℕ) → w ≡ Var a → ⊥) → next_word cs w ≡ None
leaf_ends cs (Var a) h = absurd (h a refl)
leaf_ends cs (Structure p) h = refl
leaf_ends cs (Int z) h = refl
leaf_ends cs (Boxed p) h = refl
leaf_ends cs (Atom x) h = refl

-- where these are the names of the atoms
module _ (names : List (List ℕ)) (cs : List Cell) (next : ℕ) (heap : IsHeap names cs next) where
  abbrev pub seen : HeapWord → Tree
  seen w = apply (heap_substitution names cs) (made_term names cs w)

  -- what a variable is bound to
  pub bound_is : (a n : ℕ) (w : HeapWord) → slice_get cs a ≡ Some (Bound n w) → heap_bindings names cs n ≡ Some (made_term names cs w)
  bound_is a n w h =
      ap (optional_term names (cell_terms names [] cs)) (target_is cs a n w h (λ b v k. heap.one_cell b a n (ap number_of k) (ap number_of h)))

  pub bound_value : (a n : ℕ) (w : HeapWord) → slice_get cs a ≡ Some (Bound n w) → heap_substitution names cs n ≡ seen w
  bound_value a n w h = rounds_bound (heap_bindings names cs) (rounds_for (bound_count cs)) n (made_term names cs w) (heap.settled n) (bound_is a n w h)

  pub free_value : (a n : ℕ) → slice_get cs a ≡ Some (Unbound n) → heap_substitution names cs n ≡ Variable n
  free_value a n h =
      not_bound-value names cs next heap n
      (λ b w k.
      let place = heap.one_cell b a n (ap number_of k) (ap number_of h) in
      let both : Some (Bound n w) ≡ Some (Unbound n) = sym k ∙ ap (slice_get cs) place ∙ h in
      cc)

  -- a step along a binding changes nothing
  step_at : (w v : HeapWord) → next_word cs w ≡ Some v → seen v ≡ seen w
  step_at (Var a) v h =
      let found = bound_cell (slice_get cs a) v h in
      sym (bound_value a found.0 v found.1) ∙ ap (apply (heap_substitution names cs)) (sym (place_term-bound names cs a found.0 v found.1))
  step_at (Structure p) v h = absurd (cc)
  step_at (Int z) v h = absurd (cc)
  step_at (Boxed p) v h = absurd (cc)
  step_at (Atom x) v h = absurd (cc)

  pub step_same : (w v : HeapWord) → next_word cs w ≡ Some v → seen v ≡ seen w
  step_same w v h = step_at w v h

  pub step_holds : (w v : HeapWord) → next_word cs w ≡ Some v → is_word names cs v ≡ true
  step_holds (Var a) v h = let found = bound_cell (slice_get cs a) v h in heap.target a found.0 v found.1
  step_holds (Structure p) v h = absurd (cc)
  step_holds (Int z) v h = absurd (cc)
  step_holds (Boxed p) v h = absurd (cc)
  step_holds (Atom x) v h = absurd (cc)

  rank_of_target : (a n : ℕ) (v : HeapWord) → slice_get cs a ≡ Some (Bound n v) → word_rank cs v < suc n
  rank_of_target a n (Var b) h = of_number (number_of (slice_get cs b)) refl
    where
      of_number : (o : Option ℕ) → number_of (slice_get cs b) ≡ o → number_rank o < suc n
      of_number None is = omega arith
      of_number (Some m) is = let below = heap.older a n b m h is in omega arith
  rank_of_target a n (Structure p) h = omega arith
  rank_of_target a n (Int z) h = omega arith
  rank_of_target a n (Boxed p) h = omega arith
  rank_of_target a n (Atom x) h = omega arith

  pub step_falls : (w v : HeapWord) → next_word cs w ≡ Some v → word_rank cs v < word_rank cs w
  step_falls (Var a) v h =
      let found = bound_cell (slice_get cs a) v h in
      let rank : word_rank cs (Var a) ≡ suc found.0 = ap (λ o. number_rank (number_of o)) found.1 in
      let falls = rank_of_target a found.0 v found.1 in
      omega arith
  step_falls (Structure p) v h = absurd (cc)
  step_falls (Int z) v h = absurd (cc)
  step_falls (Boxed p) v h = absurd (cc)
  step_falls (Atom x) v h = absurd (cc)

  -- what words show
  pub shows_variable : (a n : ℕ) → slice_get cs a ≡ Some (Unbound n) → seen (Var a) ≡ Variable n
  shows_variable a n h = ap (apply (heap_substitution names cs)) (place_term-unbound names cs a n h) ∙ free_value a n h

  pub shows_wide : (p : ℕ) (z : ℤ) → slice_get cs p ≡ Some (Wide z) → seen (Boxed p) ≡ Integer z
  shows_wide p z h = ap (apply (heap_substitution names cs)) (place_term-wide names cs p z h)

  pub shows_compound : (p f n : ℕ) → slice_get cs p ≡ Some (Functor f n) → seen (Structure p) ≡ Apply (text_at names f) (apply (heap_substitution names cs) (row (terms_before names cs p n)))
  shows_compound p f n h = ap (apply (heap_substitution names cs)) (place_term-functor names cs p f n h)

  pub compound_count : (p f n : ℕ) → slice_get cs p ≡ Some (Functor f n) → count (apply (heap_substitution names cs) (row (terms_before names cs p n))) ≡ n
  compound_count p f n h =
      applied-count (heap_substitution names cs) (terms_before names cs p n) ∙ before-length names cs p n (heap.functor p f n h).room (slice_get_within cs p (Functor f n) h)

  pub compound_arity : (p f n : ℕ) → slice_get cs p ≡ Some (Functor f n) → arity (seen (Structure p)) ≡ n
  compound_arity p f n h = ap arity (shows_compound p f n h) ∙ compound_count p f n h

  -- an argument's cell stands for what its word stands for
  cell_seen : (a : ℕ) (c : Cell) → slice_get cs a ≡ Some c → is_argument (slice_get cs a) ≡ true → (is_word names cs (cell_word a c) ≡ true) × (made_term names cs (cell_word a c) ≡ place_term names cs a)
  cell_seen a (Unbound n) h is = (ap is_variable_cell h, refl)
  cell_seen a (Bound n v) h is = (ap is_variable_cell h, refl)
  cell_seen a (Argument w) h is = let holds = heap.argument a w h in (holds.0, sym (place_term-argument names cs a w h holds.1))
  cell_seen a (Functor f n) h is = absurd (false≢true (sym (ap is_argument h) ∙ is))
  cell_seen a (Wide z) h is = absurd (false≢true (sym (ap is_argument h) ∙ is))
  cell_seen a (Entry p) h is = absurd (false≢true (sym (ap is_argument h) ∙ is))

  -- the word of an argument
  pub argument_word : (p f n i : ℕ) → slice_get cs p ≡ Some (Functor f n) → i < n → (c : Cell) × (slice_get cs (p - n + i) ≡ Some c) × (is_word names cs (cell_word (p - n + i) c) ≡ true) × (seen (cell_word (p - n + i) c) ≡ argument i (seen (Structure p)))
  argument_word p f n i h below =
      let is = heap.functor p f n h in
      let room = is.room in
      let found = argument_cell (slice_get cs (p - n + i)) (is.arguments i below) in
      let holds = cell_seen (p - n + i) found.0 found.1 (is.arguments i below) in
      let size = before-length names cs p n room (slice_get_within cs p (Functor f n) h) in
      let s = heap_substitution names cs in
      let value : argument i (seen (Structure p)) ≡ seen (cell_word (p - n + i) found.0) =
      ap (argument i) (shows_compound p f n h) ∙ applied-member s (terms_before names cs p n) i (omega arith)
      ∙ ap (apply s) (before-at names cs p n i room below ∙ sym holds.1) in
      (found.0, found.1, holds.0, sym value)

  -- only a compound has arguments
  pub end_arity : (w : HeapWord) → is_word names cs w ≡ true → next_word cs w ≡ None → ((p : ℕ) → w ≢ Structure p) → arity (seen w) ≡ 0
  end_arity (Var a) holds end other =
      let found = unbound_cell-is (slice_get cs a) holds end in
      ap arity (shows_variable a found.0 found.1)
  end_arity (Structure p) holds end other = absurd (other p refl)
  end_arity (Int z) holds end other = refl
  end_arity (Boxed p) holds end other = let found = wide_cell (slice_get cs p) holds in ap arity (shows_wide p found.0 found.1)
  end_arity (Atom x) holds end other = refl

  -- the word at the end of the bindings stands for an unbound variable
  pub end_is_variable : (w : HeapWord) (n : ℕ) → is_word names cs w ≡ true → next_word cs w ≡ None → seen w ≡ Variable n → (a : ℕ) × (w ≡ Var a) × (slice_get cs a ≡ Some (Unbound n))
  end_is_variable (Var a) n holds end is =
      let found = unbound_cell-is (slice_get cs a) holds end in
      let same : Variable found.0 ≡ Variable n = sym (shows_variable a found.0 found.1) ∙ is in
      let number : found.0 ≡ n = cc in
      (a, refl, found.1 ∙ ap (λ k. Some (Unbound k)) number)
  end_is_variable (Structure p) n holds end is =
      let found = functor_cell (slice_get cs p) holds in
      let both = sym (shows_compound p found.0 found.1 found.2) ∙ is in
      absurd (cc)
  end_is_variable (Int z) n holds end is = absurd (cc)
  end_is_variable (Boxed p) n holds end is =
      let found = wide_cell (slice_get cs p) holds in
      let both = sym (shows_wide p found.0 found.1) ∙ is in
      absurd (cc)
  end_is_variable (Atom x) n holds end is = absurd (cc)

  -- the place of an unbound variable is that of its number
  no_other : (n k j : ℕ) (c : Cell) → slice_get cs k ≡ Some (Unbound n) → slice_get cs j ≡ Some c → j < k → has_cell_number n c ≡ false
  no_other n k j (Unbound m) there is below =
      ne_eqb m n (λ same. let place = heap.one_cell j k n (ap number_of is ∙ ap Some same) (ap number_of there) in omega arith)
  no_other n k j (Bound m w) there is below =
      ne_eqb m n (λ same. let place = heap.one_cell j k n (ap number_of is ∙ ap Some same) (ap number_of there) in omega arith)
  no_other n k j (Argument w) there is below = refl
  no_other n k j (Functor f i) there is below = refl
  no_other n k j (Wide z) there is below = refl
  no_other n k j (Entry p) there is below = refl

  pub number_place : (n k : ℕ) → slice_get cs k ≡ Some (Unbound n) → position_or_len (has_cell_number n) cs ≡ k
  number_place n k there =
      let within = slice_get_within cs k (Unbound n) there in
      let at = get_or_from_slice_get cs k (Unbound n) (Unbound n) there in
      position_or_len_is (has_cell_number n) cs k (Unbound n) (omega arith)
      (λ j below. no_other n k j (get_or cs j (Unbound n)) there (slice_get-get_or cs j (Unbound n) (omega arith)) below)
      (λ _. ap (has_cell_number n) at ∙ eq-eqb n n refl)
