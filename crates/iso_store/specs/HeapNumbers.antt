-- The numbers of a heap's variables, and what these are bound to: a number that no variable has is untouched.
use Rattle.std.proofs.Common.{◌≡◌, ◌≢◌, ℕ, zero, suc, ◌<◌, ◌==◌, ◌||◌, List, [], ◌∷◌, length, Bool, true, false, refl, ap, sym, ◌∙◌, arith, Option, Some, None, inl, inr, if◌then◌else◌}
use Rattle.std.specs.List.{slice_get, list_any}
use Rattle.std.proofs.lemmas.Bool.{false≢true, or_left, or_right, or_cases, eq-eqb, eqb-true, ne_eqb, cases_eq, false_from_ne_true}
use Rattle.std.proofs.lemmas.Option.{slice_get_within}
use Rattle.iso_model.specs.Terms.Trees.{Tree}
use Rattle.iso_store.specs.declared.heap_cells.HeapWord.{HeapWord}
use Rattle.iso_store.specs.declared.heap_cells.HeapWord.TheVariants.{Var, Structure, Int, Boxed, Atom}
use Rattle.iso_store.specs.declared.heap_cells.Cell.{Cell}
use Rattle.iso_store.specs.declared.heap_cells.Cell.TheVariants.{Unbound, Bound, Argument, Functor, Wide, Entry}
use Rattle.iso_store.specs.HeapTerms.{target, cell_terms, made_term, optional_term, heap_bindings}
use Rattle.iso_store.specs.HeapStores.{number_of, is_variable_cell, is_functor, is_wide, has_cell_number, is_word, IsBefore}

-- what a variable is bound to stands in a cell of its number
pub target_from : (cs : List Cell) (n : ℕ) (w : HeapWord) → target cs n ≡ Some w → (a : ℕ) × (slice_get cs a ≡ Some (Bound n w))
target_from [] n w h = absurd (cc)
target_from (Unbound m ∷ cs) n w h = let t = target_from cs n w h in (suc t.0, t.1)
target_from (Bound m v ∷ cs) n w h =
    elim (cases_eq m n) [
      | inl same ↦
          let is : (if m == n then Some v else target cs n) ≡ Some v = rw (eq-eqb m n same) refl in
          let both : Some v ≡ Some w = sym is ∙ h in
          let word : v ≡ w = cc in
          (0, ap (λ k. Some (Bound k v)) same ∙ ap (λ u. Some (Bound n u)) word)
      | inr other ↦
          let is : (if m == n then Some v else target cs n) ≡ target cs n = rw (ne_eqb m n other) refl in
          let t = target_from cs n w (sym is ∙ h) in
          (suc t.0, t.1)
    ]
target_from (Argument v ∷ cs) n w h = let t = target_from cs n w h in (suc t.0, t.1)
target_from (Functor f k ∷ cs) n w h = let t = target_from cs n w h in (suc t.0, t.1)
target_from (Wide z ∷ cs) n w h = let t = target_from cs n w h in (suc t.0, t.1)
target_from (Entry p ∷ cs) n w h = let t = target_from cs n w h in (suc t.0, t.1)

pub target_is : (cs : List Cell) (a n : ℕ) (w : HeapWord) → slice_get cs a ≡ Some (Bound n w) → ((b : ℕ) (v : HeapWord) → slice_get cs b ≡ Some (Bound n v) → b ≡ a) → target cs n ≡ Some w
target_is [] a n w h one = absurd (cc)
target_is (c ∷ cs) zero n w h one =
    let is : c ≡ Bound n w = cc in
    let here : target (Bound n w ∷ cs) n ≡ Some w = rw (eq-eqb n n refl) refl in
    ap (λ x. target (x ∷ cs) n) is ∙ here
target_is (Unbound m ∷ cs) (suc a) n w h one = target_is cs a n w h (λ b v k. let q = one (suc b) v k in omega arith)
target_is (Bound m u ∷ cs) (suc a) n w h one =
    let other : m ≢ n = λ same. let q = one 0 u (ap (λ k. Some (Bound k u)) same) in absurd (omega arith) in
    let is : target (Bound m u ∷ cs) n ≡ target cs n = rw (ne_eqb m n other) refl in
    is ∙ target_is cs a n w h (λ b v k. let q = one (suc b) v k in omega arith)
target_is (Argument u ∷ cs) (suc a) n w h one = target_is cs a n w h (λ b v k. let q = one (suc b) v k in omega arith)
target_is (Functor f j ∷ cs) (suc a) n w h one = target_is cs a n w h (λ b v k. let q = one (suc b) v k in omega arith)
target_is (Wide z ∷ cs) (suc a) n w h one = target_is cs a n w h (λ b v k. let q = one (suc b) v k in omega arith)
target_is (Entry p ∷ cs) (suc a) n w h one = target_is cs a n w h (λ b v k. let q = one (suc b) v k in omega arith)

number_has : (n : ℕ) (c : Cell) → number_of (Some c) ≡ Some n → has_cell_number n c ≡ true
number_has n (Unbound m) h = let same : m ≡ n = cc in eq-eqb m n same
number_has n (Bound m w) h = let same : m ≡ n = cc in eq-eqb m n same
number_has n (Argument w) h = absurd (cc)
number_has n (Functor f k) h = absurd (cc)
number_has n (Wide z) h = absurd (cc)
number_has n (Entry p) h = absurd (cc)

-- no cell of the list has the number
pub unnumbered : (cs : List Cell) (n : ℕ) → list_any (has_cell_number n) cs ≡ false → (a : ℕ) → number_of (slice_get cs a) ≢ Some n
unnumbered [] n h a e = cc
unnumbered (c ∷ cs) n h zero e = false≢true (sym h ∙ or_left (has_cell_number n c) (list_any (has_cell_number n) cs) (number_has n c e))
unnumbered (c ∷ cs) n h (suc a) e = unnumbered cs n (or_false_right (has_cell_number n c) (list_any (has_cell_number n) cs) h) a e
  where
    or_false_right : (x y : Bool) → x || y ≡ false → y ≡ false
    or_false_right true y q = absurd (cc)
    or_false_right false y q = q

pub numbered-taken : (cs : List Cell) (a n : ℕ) → number_of (slice_get cs a) ≡ Some n → list_any (has_cell_number n) cs ≡ true
numbered-taken [] a n h = absurd (cc)
numbered-taken (c ∷ cs) zero n h = or_left (has_cell_number n c) (list_any (has_cell_number n) cs) (number_has n c h)
numbered-taken (c ∷ cs) (suc a) n h = or_right (has_cell_number n c) (list_any (has_cell_number n) cs) (numbered-taken cs a n h)

pub has_number-is : (n : ℕ) (c : Cell) → has_cell_number n c ≡ true → number_of (Some c) ≡ Some n
has_number-is n (Unbound m) h = ap Some (eqb-true m n h)
has_number-is n (Bound m w) h = ap Some (eqb-true m n h)
has_number-is n (Argument w) h = absurd (false≢true h)
has_number-is n (Functor f k) h = absurd (false≢true h)
has_number-is n (Wide z) h = absurd (false≢true h)
has_number-is n (Entry p) h = absurd (false≢true h)

pub taken_from : (cs : List Cell) (n : ℕ) → list_any (has_cell_number n) cs ≡ true → (a : ℕ) × (number_of (slice_get cs a) ≡ Some n)
taken_from [] n h = absurd (false≢true h)
taken_from (c ∷ cs) n h =
    elim (or_cases (has_cell_number n c) (list_any (has_cell_number n) cs) h) [
      | inl here ↦ (0, has_number-is n c here)
      | inr there ↦ let t = taken_from cs n there in (suc t.0, t.1)
    ]

-- a number above those of all variables
pub untaken : (cs : List Cell) (n : ℕ) → ((a m : ℕ) → number_of (slice_get cs a) ≡ Some m → m < n) → list_any (has_cell_number n) cs ≡ false
untaken cs n below =
    false_from_ne_true (list_any (has_cell_number n) cs) (λ h. let t = taken_from cs n h in let less = below t.0 n t.1 in absurd (omega arith))

binding_parts : (names : List (List ℕ)) (cs : List Cell) (n : ℕ) (t : Tree) (o : Option HeapWord) → target cs n ≡ o → heap_bindings names cs n ≡ Some t → (a : ℕ) × (w : HeapWord) × (slice_get cs a ≡ Some (Bound n w)) × (made_term names cs w ≡ t)
binding_parts names cs n t None is h = let both : None ≡ Some t = sym (ap (optional_term names (cell_terms names [] cs)) is) ∙ h in absurd (cc)
binding_parts names cs n t (Some w) is h =
    let both : Some (made_term names cs w) ≡ Some t = sym (ap (optional_term names (cell_terms names [] cs)) is) ∙ h in
    let from = target_from cs n w is in
    (from.0, w, from.1, cc)

-- the binding of a variable stands in a cell of its number
pub binding_is : (names : List (List ℕ)) (cs : List Cell) (n : ℕ) (t : Tree) → heap_bindings names cs n ≡ Some t → (a : ℕ) × (w : HeapWord) × (slice_get cs a ≡ Some (Bound n w)) × (made_term names cs w ≡ t)
binding_is names cs n t h = binding_parts names cs n t (target cs n) refl h

-- a word that is there leads to a cell that is there
variable_within : (cs : List Cell) (a : ℕ) (o : Option Cell) → slice_get cs a ≡ o → is_variable_cell o ≡ true → a < length cs
variable_within cs a None is h = absurd (false≢true h)
variable_within cs a (Some c) is h = slice_get_within cs a c is

functor_within : (cs : List Cell) (a : ℕ) (o : Option Cell) → slice_get cs a ≡ o → is_functor o ≡ true → a < length cs
functor_within cs a None is h = absurd (false≢true h)
functor_within cs a (Some c) is h = slice_get_within cs a c is

wide_within : (cs : List Cell) (a : ℕ) (o : Option Cell) → slice_get cs a ≡ o → is_wide o ≡ true → a < length cs
wide_within cs a None is h = absurd (false≢true h)
wide_within cs a (Some c) is h = slice_get_within cs a c is

pub word_before : (names : List (List ℕ)) (cs : List Cell) (w : HeapWord) → is_word names cs w ≡ true → IsBefore (length cs) w
word_before names cs (Var a) h = variable_within cs a (slice_get cs a) refl h
word_before names cs (Structure p) h = functor_within cs p (slice_get cs p) refl h
word_before names cs (Int z) h = tt
word_before names cs (Boxed p) h = wide_within cs p (slice_get cs p) refl h
word_before names cs (Atom a) h = tt
