-- A cell more keeps a heap, and all that stood in it.
use Rattle.std.proofs.Common.{◌≡◌, ℕ, suc, ◌+◌, ◌-◌, ◌<◌, ◌≤◌, List, [], ◌∷◌, ◌++◌, length, true, false, refl, ap, ap₂, sym, ◌∙◌, subst, arith, Option, Some, None, ◌⊎◌, inl, inr, if◌then◌else◌, ◌==◌}
use Rattle.std.specs.List.{slice_get, list_any}
use Rattle.std.proofs.lemmas.Option.{slice_get_within}
use Rattle.iso_store.specs.declared.heap_cells.HeapWord.{HeapWord}
use Rattle.iso_store.specs.declared.heap_cells.HeapWord.TheVariants.{Var, Structure, Int, Boxed, Atom}
use Rattle.iso_store.specs.declared.heap_cells.Cell.{Cell}
use Rattle.iso_store.specs.declared.heap_cells.Cell.TheVariants.{Unbound, Bound, Argument, Functor, Wide, Entry}
use Rattle.iso_store.specs.Rounds.{rounds, rounds_for, Settles}
use Rattle.iso_store.specs.HeapTerms.{target, cell_terms, made_term, optional_term, heap_bindings, heap_substitution, bound_count}
use Rattle.iso_store.specs.HeapStores.{number_of, is_variable_cell, is_functor, is_wide, is_argument, has_cell_number, is_word, IsBefore, IsFunctor, IsHeap, MayCome}
use Rattle.iso_store.specs.Slices.{slice_get-pushed, slice_get-push}
use Rattle.iso_store.specs.HeapLemmas.{made_term-more}
use Rattle.iso_store.specs.HeapNumbers.{target_from, unnumbered, word_before}

target-end : (cs : List Cell) (c : Cell) (n : ℕ) → target (c ∷ []) n ≡ None → target (cs ++ c ∷ []) n ≡ target cs n
target-end [] c n h = h
target-end (Unbound m ∷ cs) c n h = target-end cs c n h
target-end (Bound m w ∷ cs) c n h = ap (λ o. if m == n then Some w else o) (target-end cs c n h)
target-end (Argument w ∷ cs) c n h = target-end cs c n h
target-end (Functor f k ∷ cs) c n h = target-end cs c n h
target-end (Wide z ∷ cs) c n h = target-end cs c n h
target-end (Entry p ∷ cs) c n h = target-end cs c n h

pub bound_count-end : (cs : List Cell) (c : Cell) → bound_count (c ∷ []) ≡ 0 → bound_count (cs ++ c ∷ []) ≡ bound_count cs
bound_count-end [] c h = h
bound_count-end (Unbound m ∷ cs) c h = bound_count-end cs c h
bound_count-end (Bound m w ∷ cs) c h = ap suc (bound_count-end cs c h)
bound_count-end (Argument w ∷ cs) c h = bound_count-end cs c h
bound_count-end (Functor f k ∷ cs) c h = bound_count-end cs c h
bound_count-end (Wide z ∷ cs) c h = bound_count-end cs c h
bound_count-end (Entry p ∷ cs) c h = bound_count-end cs c h

-- where these are the names of the atoms
module _ (names : List (List ℕ)) (cs : List Cell) (next : ℕ) where
  none_more : (c : Cell) (n : ℕ) → MayCome names cs next c → target (c ∷ []) n ≡ None
  none_more (Unbound m) n may = refl
  none_more (Bound m w) n may = absurd may
  none_more (Argument w) n may = refl
  none_more (Functor f k) n may = refl
  none_more (Wide z) n may = refl
  none_more (Entry p) n may = absurd may

  count_more : (c : Cell) → MayCome names cs next c → bound_count (c ∷ []) ≡ 0
  count_more (Unbound m) may = refl
  count_more (Bound m w) may = absurd may
  count_more (Argument w) may = refl
  count_more (Functor f k) may = refl
  count_more (Wide z) may = refl
  count_more (Entry p) may = absurd may

  -- the number of a variable that comes is a new one
  number_more : (c : Cell) (n : ℕ) → MayCome names cs next c → number_of (Some c) ≡ Some n → (n < next) × (list_any (has_cell_number n) cs ≡ false)
  number_more (Unbound m) n may h = let same : m ≡ n = cc in subst (λ k. (k < next) × (list_any (has_cell_number k) cs ≡ false)) same may
  number_more (Bound m w) n may h = absurd may
  number_more (Argument w) n may h = absurd (cc)
  number_more (Functor f k) n may h = absurd (cc)
  number_more (Wide z) n may h = absurd (cc)
  number_more (Entry p) n may h = absurd (cc)

  -- reserving numbers
  pub heap-on : IsHeap names cs next → (high : ℕ) → next ≤ high → IsHeap names cs high
  heap-on heap high above = record {
    argument = heap.argument;
    target = heap.target;
    functor = heap.functor;
    older = heap.older;
    one_cell = heap.one_cell;
    numbered = λ a n h. let below = heap.numbered a n h in omega arith;
    entry = heap.entry;
    settled = heap.settled;
  }

  module _ (heap : IsHeap names cs next) (c : Cell) (may : MayCome names cs next c) where
    pub counted-more : bound_count (cs ++ c ∷ []) ≡ bound_count cs
    counted-more = bound_count-end cs c (count_more c may)

    pub word-more : (w : HeapWord) → is_word names cs w ≡ true → is_word names (cs ++ c ∷ []) w ≡ true
    word-more (Var a) h = ap is_variable_cell (slice_get-push cs c a (word_before names cs (Var a) h)) ∙ h
    word-more (Structure p) h = ap is_functor (slice_get-push cs c p (word_before names cs (Structure p) h)) ∙ h
    word-more (Int z) h = h
    word-more (Boxed p) h = ap is_wide (slice_get-push cs c p (word_before names cs (Boxed p) h)) ∙ h
    word-more (Atom a) h = h

    made-more : (w : HeapWord) → is_word names cs w ≡ true → made_term names (cs ++ c ∷ []) w ≡ made_term names cs w
    made-more w h = made_term-more names cs (c ∷ []) w (word_before names cs w h)

    optional-more : (n : ℕ) (o : Option HeapWord) → target cs n ≡ o → optional_term names (cell_terms names [] (cs ++ c ∷ [])) o ≡ optional_term names (cell_terms names [] cs) o
    optional-more n None is = refl
    optional-more n (Some w) is = let from = target_from cs n w is in ap Some (made-more w (heap.target from.0 n w from.1))

    bindings-at : (n : ℕ) → heap_bindings names (cs ++ c ∷ []) n ≡ heap_bindings names cs n
    bindings-at n =
        ap (optional_term names (cell_terms names [] (cs ++ c ∷ []))) (target-end cs c n (none_more c n may)) ∙ optional-more n (target cs n) refl

    bindings-more : heap_bindings names (cs ++ c ∷ []) ≡ heap_bindings names cs
    bindings-more = λ i. λ n. bindings-at n i

    pub substitution-more : heap_substitution names (cs ++ c ∷ []) ≡ heap_substitution names cs
    substitution-more = ap₂ (λ b k. rounds b (rounds_for k)) bindings-more counted-more

    number-pushed : (a n : ℕ) (o : Option Cell) → slice_get (cs ++ c ∷ []) a ≡ o → number_of o ≡ Some n → (number_of (slice_get cs a) ≡ Some n) ⊎ ((a ≡ length cs) × (number_of (Some c) ≡ Some n))
    number-pushed a n None is h = absurd (cc)
    number-pushed a n (Some x) is h =
        elim (slice_get-pushed cs c x a is) [ inl e ↦ inl (ap number_of e ∙ h) | inr e ↦ inr (e.0, ap (λ y. number_of (Some y)) e.1 ∙ h) ]

    functor-more : (p f n : ℕ) → p ≤ length cs → IsFunctor names cs p f n → IsFunctor names (cs ++ c ∷ []) p f n
    functor-more p f n within is =
        let room = is.room in
        let some = is.some in
        record {
          name = is.name;
          some = is.some;
          few = is.few;
          room = is.room;
          arguments = λ k below. ap is_argument (slice_get-push cs c (p - n + k) (omega arith)) ∙ is.arguments k below;
        }

    may-be : (x : Cell) → c ≡ x → MayCome names cs next x
    may-be x is = subst (MayCome names cs next) is may

    bound-before : (a n : ℕ) (w : HeapWord) → slice_get (cs ++ c ∷ []) a ≡ Some (Bound n w) → slice_get cs a ≡ Some (Bound n w)
    bound-before a n w h = elim (slice_get-pushed cs c (Bound n w) a h) [ inl e ↦ e | inr e ↦ absurd (may-be (Bound n w) e.1) ]

    pub heap-more : IsHeap names (cs ++ c ∷ []) next
    heap-more = record {
      argument = λ a w h.
          elim (slice_get-pushed cs c (Argument w) a h) [
            | inl e ↦ let was = heap.argument a w e in (word-more w was.0, was.1)
            | inr e ↦ let is = may-be (Argument w) e.1 in (word-more w is, subst (λ k. IsBefore k w) (sym e.0) (word_before names cs w is))
          ];
      target = λ a n w h. word-more w (heap.target a n w (bound-before a n w h));
      functor = λ p f n h.
          elim (slice_get-pushed cs c (Functor f n) p h) [
            | inl e ↦ let within = slice_get_within cs p (Functor f n) e in functor-more p f n (omega arith) (heap.functor p f n e)
            | inr e ↦ let here = e.0 in functor-more p f n (omega arith) (subst (λ k. IsFunctor names cs k f n) (sym e.0) (may-be (Functor f n) e.1))
          ];
      older = λ a n b m h k.
          let was = bound-before a n (Var b) h in
          let there = slice_get-push cs c b (word_before names cs (Var b) (heap.target a n (Var b) was)) in
          heap.older a n b m was (sym (ap number_of there) ∙ k);
      one_cell = λ a b n h k.
          elim (number-pushed a n (slice_get (cs ++ c ∷ []) a) refl h) [
            | inl e ↦ elim (number-pushed b n (slice_get (cs ++ c ∷ []) b) refl k) [
              | inl f ↦ heap.one_cell a b n e f
              | inr f ↦ absurd (unnumbered cs n (number_more c n may f.1).1 a e)
            ]
            | inr e ↦ elim (number-pushed b n (slice_get (cs ++ c ∷ []) b) refl k) [
              | inl f ↦ absurd (unnumbered cs n (number_more c n may e.1).1 b f)
              | inr f ↦ e.0 ∙ sym f.0
            ]
          ];
      numbered = λ a n h.
          elim (number-pushed a n (slice_get (cs ++ c ∷ []) a) refl h) [ inl e ↦ heap.numbered a n e | inr e ↦ (number_more c n may e.1).0 ];
      entry = λ a p h.
          elim (slice_get-pushed cs c (Entry p) a h) [ inl e ↦ heap.entry a p e | inr e ↦ may-be (Entry p) e.1 ];
      settled = λ n. subst (λ b. Settles b (rounds_for (bound_count (cs ++ c ∷ []))) n) (sym bindings-more) (subst (λ k. Settles (heap_bindings names cs) (rounds_for k) n) (sym counted-more) (heap.settled n));
    }
