-- A binding keeps a heap, and composes its substitution with that binding.
use Rattle.std.proofs.Common.{◌≡◌, ◌≢◌, ℕ, zero, suc, ◌+◌, ◌-◌, ◌<◌, ◌==◌, ◌||◌, List, [], ◌∷◌, set, true, false, refl, ap, ap₂, sym, ◌∙◌, subst, arith, Option, Some, None, inl, inr, if◌then◌else◌}
use Rattle.std.specs.List.{slice_get, list_any}
use Rattle.std.proofs.lemmas.Bool.{eq-eqb, ne_eqb, cases_eq}
use Rattle.iso_model.specs.Terms.Variables.{occurs}
use Rattle.iso_model.specs.Terms.Substitutions.{apply, compose, single}
use Rattle.iso_store.specs.declared.heap_cells.HeapWord.{HeapWord}
use Rattle.iso_store.specs.declared.heap_cells.HeapWord.TheVariants.{Var, Structure, Int, Boxed, Atom}
use Rattle.iso_store.specs.declared.heap_cells.Cell.{Cell}
use Rattle.iso_store.specs.declared.heap_cells.Cell.TheVariants.{Unbound, Bound, Argument, Functor, Wide, Entry}
use Rattle.iso_store.specs.Rounds.{rounds, rounds_for, Settles, then_rounds}
use Rattle.iso_store.specs.HeapTerms.{target, word_term, cell_terms, made_term, optional_term, heap_bindings, heap_substitution, bound_count}
use Rattle.iso_store.specs.HeapStores.{number_of, is_variable_cell, is_functor, is_wide, is_argument, has_cell_number, is_word, IsHeap}
use Rattle.iso_store.specs.Slices.{slice_get-set, slice_get-here}
use Rattle.iso_store.specs.HeapLemmas.{cell_terms-bound}
use Rattle.iso_store.specs.HeapNumbers.{target_from}
use Rattle.iso_store.specs.HeapUntouched.{not_bound}
use Rattle.iso_store.proofs.RoundBound.{bound_also, settled_also, rounds_also}

target-bound : (cs : List Cell) (e n : ℕ) (w : HeapWord) → slice_get cs e ≡ Some (Unbound n) → target cs n ≡ None → target (set cs e (Bound n w)) n ≡ Some w
target-bound [] e n w h none = absurd (cc)
target-bound (c ∷ cs) zero n w h none = rw (eq-eqb n n refl) refl
target-bound (Unbound m ∷ cs) (suc e) n w h none = target-bound cs e n w h none
target-bound (Bound m v ∷ cs) (suc e) n w h none =
    elim (cases_eq m n) [
      | inl same ↦
          let is : (if m == n then Some v else target cs n) ≡ Some v = rw (eq-eqb m n same) refl in
          let both : Some v ≡ None = sym is ∙ none in
          absurd (cc)
      | inr other ↦
          let was : (if m == n then Some v else target cs n) ≡ target cs n = rw (ne_eqb m n other) refl in
          let is : (if m == n then Some v else target (set cs e (Bound n w)) n) ≡ target (set cs e (Bound n w)) n = rw (ne_eqb m n other) refl in
          is ∙ target-bound cs e n w h (sym was ∙ none)
    ]
target-bound (Argument v ∷ cs) (suc e) n w h none = target-bound cs e n w h none
target-bound (Functor f k ∷ cs) (suc e) n w h none = target-bound cs e n w h none
target-bound (Wide z ∷ cs) (suc e) n w h none = target-bound cs e n w h none
target-bound (Entry p ∷ cs) (suc e) n w h none = target-bound cs e n w h none

target-other : (cs : List Cell) (e n m : ℕ) (w : HeapWord) → slice_get cs e ≡ Some (Unbound n) → m ≢ n → target (set cs e (Bound n w)) m ≡ target cs m
target-other [] e n m w h other = refl
target-other (c ∷ cs) zero n m w h other =
    let is : c ≡ Unbound n = cc in
    let now : (if n == m then Some w else target cs m) ≡ target cs m = rw (ne_eqb n m (λ q. other (sym q))) refl in
    now ∙ ap (λ x. target (x ∷ cs) m) (sym is)
target-other (Unbound k ∷ cs) (suc e) n m w h other = target-other cs e n m w h other
target-other (Bound k v ∷ cs) (suc e) n m w h other = ap (λ o. if k == m then Some v else o) (target-other cs e n m w h other)
target-other (Argument v ∷ cs) (suc e) n m w h other = target-other cs e n m w h other
target-other (Functor f k ∷ cs) (suc e) n m w h other = target-other cs e n m w h other
target-other (Wide z ∷ cs) (suc e) n m w h other = target-other cs e n m w h other
target-other (Entry p ∷ cs) (suc e) n m w h other = target-other cs e n m w h other

pub bound_count-bound : (cs : List Cell) (e n : ℕ) (w : HeapWord) → slice_get cs e ≡ Some (Unbound n) → bound_count (set cs e (Bound n w)) ≡ suc (bound_count cs)
bound_count-bound [] e n w h = absurd (cc)
bound_count-bound (c ∷ cs) zero n w h = let is : c ≡ Unbound n = cc in ap (λ x. suc (bound_count (x ∷ cs))) (sym is)
bound_count-bound (Unbound m ∷ cs) (suc e) n w h = bound_count-bound cs e n w h
bound_count-bound (Bound m v ∷ cs) (suc e) n w h = ap suc (bound_count-bound cs e n w h)
bound_count-bound (Argument v ∷ cs) (suc e) n w h = bound_count-bound cs e n w h
bound_count-bound (Functor f k ∷ cs) (suc e) n w h = bound_count-bound cs e n w h
bound_count-bound (Wide z ∷ cs) (suc e) n w h = bound_count-bound cs e n w h
bound_count-bound (Entry p ∷ cs) (suc e) n w h = bound_count-bound cs e n w h

-- the same numbers
numbers-bound : (cs : List Cell) (e n m : ℕ) (w : HeapWord) → slice_get cs e ≡ Some (Unbound n) → list_any (has_cell_number m) (set cs e (Bound n w)) ≡ list_any (has_cell_number m) cs
numbers-bound [] e n m w h = refl
numbers-bound (c ∷ cs) zero n m w h = let is : c ≡ Unbound n = cc in ap (λ x. list_any (has_cell_number m) (x ∷ cs)) (sym is)
numbers-bound (c ∷ cs) (suc e) n m w h = ap (λ q. has_cell_number m c || q) (numbers-bound cs e n m w h)

-- what is the same of an unbound and of a bound variable
same-through : {B : Type 0} (g : Option Cell → B) (cs : List Cell) (e n a : ℕ) (w : HeapWord) → g (Some (Bound n w)) ≡ g (Some (Unbound n)) → slice_get cs e ≡ Some (Unbound n) → g (slice_get (set cs e (Bound n w)) a) ≡ g (slice_get cs a)
same-through g cs e n a w same h =
    elim (cases_eq a e) [
      | inl is ↦ ap (λ k. g (slice_get (set cs e (Bound n w)) k)) is ∙ ap g (slice_get-here cs e (Bound n w) (Unbound n) h) ∙ same ∙ ap g (sym h) ∙ ap (λ k. g (slice_get cs k)) (sym is)
      | inr other ↦ ap g (slice_get-set cs e a (Bound n w) other)
    ]

-- where these are the names of the atoms, the variable n at place e, which is not bound, is bound to w
module _ (names : List (List ℕ)) (cs : List Cell) (next : ℕ) (heap : IsHeap names cs next) (e n : ℕ) (w : HeapWord) (free : slice_get cs e ≡ Some (Unbound n)) (holds : is_word names cs w ≡ true)
    (absent : occurs n (apply (heap_substitution names cs) (made_term names cs w)) ≡ false) (younger : (b m : ℕ) → w ≡ Var b → number_of (slice_get cs b) ≡ Some m → m < n) where
  abbrev ds : List Cell
  ds = set cs e (Bound n w)

  pub made-bound : made_term names ds ≡ made_term names cs
  made-bound = ap (λ ts. word_term names ts) (cell_terms-bound names [] cs e n w free)

  word-at : (v : HeapWord) → is_word names ds v ≡ is_word names cs v
  word-at (Var a) = same-through is_variable_cell cs e n a w refl free
  word-at (Structure p) = same-through is_functor cs e n p w refl free
  word-at (Int z) = refl
  word-at (Boxed p) = same-through is_wide cs e n p w refl free
  word-at (Atom a) = refl

  pub words-bound : is_word names ds ≡ is_word names cs
  words-bound = λ i. λ v. word-at v i

  pub taken-bound : (m : ℕ) → list_any (has_cell_number m) ds ≡ list_any (has_cell_number m) cs
  taken-bound m = numbers-bound cs e n m w free

  pub number-bound : (a : ℕ) → number_of (slice_get ds a) ≡ number_of (slice_get cs a)
  number-bound a = same-through number_of cs e n a w refl free

  -- the variable was not bound
  bare : (a : ℕ) (v : HeapWord) → slice_get cs a ≢ Some (Bound n v)
  bare a v h =
      let place = heap.one_cell a e n (ap number_of h) (ap number_of free) in
      let both : Some (Bound n v) ≡ Some (Unbound n) = sym h ∙ ap (slice_get cs) place ∙ free in
      cc

  no_target : (o : Option HeapWord) → target cs n ≡ o → target cs n ≡ None
  no_target None is = is
  no_target (Some v) is = let from = target_from cs n v is in absurd (bare from.0 v from.1)

  bindings-at : (m : ℕ) → heap_bindings names ds m ≡ bound_also (heap_bindings names cs) n (made_term names cs w) m
  bindings-at m =
      elim (cases_eq m n) [
        | inl same ↦
            let now : target ds m ≡ Some w = ap (target ds) same ∙ target-bound cs e n w free (no_target (target cs n) refl) in
            let right : bound_also (heap_bindings names cs) n (made_term names cs w) m ≡ Some (made_term names cs w) = rw (eq-eqb m n same) refl in
            ap (optional_term names (cell_terms names [] ds)) now ∙ ap (λ t. Some (t w)) made-bound ∙ sym right
        | inr other ↦
            let right : bound_also (heap_bindings names cs) n (made_term names cs w) m ≡ heap_bindings names cs m = rw (ne_eqb m n other) refl in
            ap₂ (λ ts o. optional_term names ts o) (cell_terms-bound names [] cs e n w free) (target-other cs e n m w free other) ∙ sym right
      ]

  bindings-bound : heap_bindings names ds ≡ bound_also (heap_bindings names cs) n (made_term names cs w)
  bindings-bound = λ i. λ m. bindings-at m i

  rounds-bound : rounds_for (bound_count ds) ≡ then_rounds (rounds_for (bound_count cs)) (suc (rounds_for (bound_count cs)))
  rounds-bound = ap rounds_for (bound_count-bound cs e n w free)

  pub substitution-bound : heap_substitution names ds ≡ compose (heap_substitution names cs) (single n (apply (heap_substitution names cs) (made_term names cs w)))
  substitution-bound =
      ap₂ (λ b k. rounds b k) bindings-bound rounds-bound
      ∙ rounds_also (heap_bindings names cs) (rounds_for (bound_count cs)) heap.settled n (made_term names cs w) (not_bound names cs next heap n bare) absent

  settled-bound : (m : ℕ) → Settles (heap_bindings names ds) (rounds_for (bound_count ds)) m
  settled-bound m =
      let also = settled_also (heap_bindings names cs) (rounds_for (bound_count cs)) heap.settled n (made_term names cs w) (not_bound names cs next heap n bare) absent m in
      subst (λ b. Settles b (rounds_for (bound_count ds)) m) (sym bindings-bound) (subst (λ k. Settles (bound_also (heap_bindings names cs) n (made_term names cs w)) k m) (sym rounds-bound) also)

  here : slice_get ds e ≡ Some (Bound n w)
  here = slice_get-here cs e (Bound n w) (Unbound n) free

  -- a cell that is no bound variable was there before
  before : (a : ℕ) (c : Cell) → slice_get ds a ≡ Some c → c ≢ Bound n w → slice_get cs a ≡ Some c
  before a c h not =
      elim (cases_eq a e) [
        | inl is ↦ let both : Some (Bound n w) ≡ Some c = sym here ∙ ap (slice_get ds) (sym is) ∙ h in let same : Bound n w ≡ c = cc in absurd (not (sym same))
        | inr other ↦ sym (slice_get-set cs e a (Bound n w) other) ∙ h
      ]

  pub heap-bound : IsHeap names ds next
  heap-bound = record {
    argument = λ a v h. let was = heap.argument a v (before a (Argument v) h (λ q. cc)) in (word-at v ∙ was.0, was.1);
    target = λ a m v h.
        elim (cases_eq a e) [
          | inl is ↦
              let both : Some (Bound n w) ≡ Some (Bound m v) = sym here ∙ ap (slice_get ds) (sym is) ∙ h in
              let same : w ≡ v = cc in
              word-at v ∙ ap (is_word names cs) (sym same) ∙ holds
          | inr other ↦ word-at v ∙ heap.target a m v (sym (slice_get-set cs e a (Bound n w) other) ∙ h)
        ];
    functor = λ p f k h.
        let was = heap.functor p f k (before p (Functor f k) h (λ q. cc)) in
        record {
          name = was.name;
          some = was.some;
          few = was.few;
          room = was.room;
          arguments = λ j below. same-through is_argument cs e n (p - k + j) w refl free ∙ was.arguments j below;
        };
    older = λ a m b k h number.
        let was = sym (number-bound b) ∙ number in
        elim (cases_eq a e) [
          | inl is ↦
              let both : Some (Bound n w) ≡ Some (Bound m (Var b)) = sym here ∙ ap (slice_get ds) (sym is) ∙ h in
              let same : w ≡ Var b = cc in
              let name : n ≡ m = cc in
              let below = younger b k same was in
              omega arith
          | inr other ↦ heap.older a m b k (sym (slice_get-set cs e a (Bound n w) other) ∙ h) was
        ];
    one_cell = λ a b m h k. heap.one_cell a b m (sym (number-bound a) ∙ h) (sym (number-bound b) ∙ k);
    numbered = λ a m h. heap.numbered a m (sym (number-bound a) ∙ h);
    entry = λ a p h. heap.entry a p (before a (Entry p) h (λ q. cc));
    settled = settled-bound;
  }
