-- How many cells of variables come: no more than there are numbers for them, and one for each number that has a variable.
use Rattle.std.proofs.Common.{◌≡◌, ◌≢◌, ℕ, zero, suc, ◌+◌, ◌<◌, ◌≤◌, ◌==◌, ◌||◌, List, [], ◌∷◌, ◌++◌, length, set, Bool, true, false, refl, ap, sym, ◌∙◌, arith, length-append, Some, inl, inr, OnOk, is_ok, Result, Ok, Err}
use Rattle.std.specs.List.{slice_get, list_any}
use Rattle.std.proofs.lemmas.Bool.{false≢true, false_from_ne_true, or_left, or_right, eq-eqb, ne_eqb, cases_eq}
use Rattle.std.proofs.lemmas.List.{append_assoc}
use Rattle.std.proofs.lemmas.List.Folds.{list_any-append}
use Rattle.iso_model.specs.Terms.Variables.{is_in}
use Rattle.iso_model.specs.Terms.Copies.{numbers_from}
use Rattle.iso_area.specs.Stacks.{Stacks, stacks}
use Rattle.iso_store.specs.declared.heap_cells.HeapWord.{HeapWord}
use Rattle.iso_store.specs.declared.heap_cells.Cell.{Cell}
use Rattle.iso_store.specs.declared.heap_cells.Cell.TheVariants.{Unbound, Bound, Argument, Functor, Wide, Entry}
use Rattle.iso_store.specs.HeapTerms.{variable_cells}
use Rattle.iso_store.specs.HeapStores.{number_of, has_cell_number, IsHeap}
use Rattle.iso_store.specs.HeapNumbers.{numbered-taken, taken_from, has_number-is}
use Rattle.iso_store.specs.Slices.{slice_get-last, slice_get-append}

-- ---- one list behind the other
pub variables-append : (cs ds : List Cell) → variable_cells (cs ++ ds) ≡ variable_cells cs + variable_cells ds
variables-append [] ds = omega arith
variables-append (Unbound n ∷ cs) ds = omega (arith, variables-append cs ds)
variables-append (Bound n w ∷ cs) ds = omega (arith, variables-append cs ds)
variables-append (Argument w ∷ cs) ds = variables-append cs ds
variables-append (Functor f n ∷ cs) ds = variables-append cs ds
variables-append (Wide z ∷ cs) ds = variables-append cs ds
variables-append (Entry p ∷ cs) ds = variables-append cs ds

-- a cell more on the low stack
pub variables-pushed : {T E : Type 0} (area new : Stacks Cell) (c : Cell) (result : Result T E) → is_ok result ≡ true → OnOk result (new ≡ stacks (area.low ++ c ∷ []) area.high area.capacity) → variable_cells new.low ≡ variable_cells area.low + variable_cells (c ∷ [])
variables-pushed area new c (Ok x) ok pushed = ap (λ a. variable_cells a.low) pushed ∙ variables-append area.low (c ∷ [])
variables-pushed area new c (Err e) ok pushed = absurd (false≢true ok)

-- a variable that is bound is one still
pub variables-bound : (cs : List Cell) (e n : ℕ) (w : HeapWord) → slice_get cs e ≡ Some (Unbound n) → variable_cells (set cs e (Bound n w)) ≡ variable_cells cs
variables-bound [] e n w h = refl
variables-bound (c ∷ cs) zero n w h = let is : c ≡ Unbound n = cc in ap (λ x. variable_cells (x ∷ cs)) (sym is)
variables-bound (Unbound m ∷ cs) (suc e) n w h = ap suc (variables-bound cs e n w h)
variables-bound (Bound m v ∷ cs) (suc e) n w h = ap suc (variables-bound cs e n w h)
variables-bound (Argument v ∷ cs) (suc e) n w h = variables-bound cs e n w h
variables-bound (Functor f k ∷ cs) (suc e) n w h = variables-bound cs e n w h
variables-bound (Wide z ∷ cs) (suc e) n w h = variables-bound cs e n w h
variables-bound (Entry p ∷ cs) (suc e) n w h = variables-bound cs e n w h

-- ---- how many of these numbers have a variable
abbrev one : Bool → ℕ
one true = 1
one false = 0

abbrev numbered : List ℕ → List Cell → ℕ
numbered [] cs = 0
numbered (n ∷ ns) cs = one (list_any (has_cell_number n) cs) + numbered ns cs

one-few : (b : Bool) → one b ≤ 1
one-few true = omega arith
one-few false = omega arith

one-or : (a b : Bool) → one b ≤ one (a || b)
one-or true true = omega arith
one-or true false = omega arith
one-or false b = omega arith

numbered-few : (ns : List ℕ) (cs : List Cell) → numbered ns cs ≤ length ns
numbered-few [] cs = omega arith
numbered-few (n ∷ ns) cs = omega (arith, one-few (list_any (has_cell_number n) cs), numbered-few ns cs)

numbered-more : (ns : List ℕ) (c : Cell) (cs : List Cell) → numbered ns cs ≤ numbered ns (c ∷ cs)
numbered-more [] c cs = omega arith
numbered-more (n ∷ ns) c cs = omega (arith, one-or (has_cell_number n c) (list_any (has_cell_number n) cs), numbered-more ns c cs)

-- a variable of a new number
numbered-new : (ns : List ℕ) (m : ℕ) (c : Cell) (cs : List Cell) → is_in m ns ≡ true → has_cell_number m c ≡ true → list_any (has_cell_number m) cs ≡ false → suc (numbered ns cs) ≤ numbered ns (c ∷ cs)
numbered-new [] m c cs inside has none = absurd (false≢true inside)
numbered-new (n ∷ ns) m c cs inside has none =
    elim (cases_eq n m) [
      | inl same ↦
          let before : one (list_any (has_cell_number n) cs) ≡ 0 = ap (λ k. one (list_any (has_cell_number k) cs)) same ∙ ap one none in
          let after : one (list_any (has_cell_number n) (c ∷ cs)) ≡ 1 = ap (λ k. one (list_any (has_cell_number k) (c ∷ cs))) same ∙ ap one (or_left (has_cell_number m c) (list_any (has_cell_number m) cs) has) in
          omega (arith, before, after, numbered-more ns c cs)
      | inr other ↦
          let rest : is_in m ns ≡ true = sym (ap (λ b. b || is_in m ns) (ne_eqb n m other)) ∙ inside in
          omega (arith, one-or (has_cell_number n c) (list_any (has_cell_number n) cs), numbered-new ns m c cs rest has none)
    ]

-- ---- cells that come behind others
module _ (names : List (List ℕ)) (whole : List Cell) (next : ℕ) (heap : IsHeap names whole next) (ns : List ℕ) where
  module _ (cs : List Cell) (c : Cell) (es : List Cell) (is : whole ≡ cs ++ c ∷ es) (among : (a n : ℕ) → length cs ≤ a → number_of (slice_get whole a) ≡ Some n → is_in n ns ≡ true) where
    longer : whole ≡ (cs ++ c ∷ []) ++ es
    longer = is ∙ sym (append_assoc cs (c ∷ []) es)

    here : slice_get whole (length cs) ≡ Some c
    here = ap (λ xs. slice_get xs (length cs)) longer ∙ slice_get-append (cs ++ c ∷ []) es (length cs) (omega (arith, length-append cs (c ∷ []))) ∙ slice_get-last cs c

    slice-behind : (xs ys : List Cell) (k : ℕ) → slice_get (xs ++ ys) (length xs + k) ≡ slice_get ys k
    slice-behind [] ys k = ap (slice_get ys) (omega arith)
    slice-behind (x ∷ xs) ys k = let at : suc (length xs) + k ≡ suc (length xs + k) = omega arith in ap (slice_get (x ∷ (xs ++ ys))) at ∙ slice-behind xs ys k

    behind : (a : ℕ) → slice_get whole (length cs + suc a) ≡ slice_get es a
    behind a = ap (λ xs. slice_get xs (length cs + suc a)) is ∙ slice-behind cs (c ∷ es) (suc a)

    new : (n : ℕ) → number_of (Some c) ≡ Some n → list_any (has_cell_number n) es ≡ false
    new n number =
        false_from_ne_true (list_any (has_cell_number n) es) (λ h.
        let found = taken_from es n h in
        let same = heap.one_cell (length cs) (length cs + suc found.0) n (ap number_of here ∙ number) (ap number_of (behind found.0) ∙ found.1) in
        absurd (omega arith))

    inside : (n : ℕ) → number_of (Some c) ≡ Some n → is_in n ns ≡ true
    inside n number = among (length cs) n (omega arith) (ap number_of here ∙ number)

    come-one : (d : Cell) → c ≡ d → variable_cells es ≤ numbered ns es → variable_cells (d ∷ es) ≤ numbered ns (d ∷ es)
    come-one (Unbound n) same rest = omega (arith, rest, numbered-new ns n (Unbound n) es (inside n (ap (λ x. number_of (Some x)) same)) (eq-eqb n n refl) (new n (ap (λ x. number_of (Some x)) same)))
    come-one (Bound n w) same rest = omega (arith, rest, numbered-new ns n (Bound n w) es (inside n (ap (λ x. number_of (Some x)) same)) (eq-eqb n n refl) (new n (ap (λ x. number_of (Some x)) same)))
    come-one (Argument w) same rest = omega (arith, rest, numbered-more ns (Argument w) es)
    come-one (Functor f n) same rest = omega (arith, rest, numbered-more ns (Functor f n) es)
    come-one (Wide z) same rest = omega (arith, rest, numbered-more ns (Wide z) es)
    come-one (Entry p) same rest = omega (arith, rest, numbered-more ns (Entry p) es)

  -- where the numbers of those that come are among these
  come-few : (cs es : List Cell) → whole ≡ cs ++ es → ((a n : ℕ) → length cs ≤ a → number_of (slice_get whole a) ≡ Some n → is_in n ns ≡ true) → variable_cells es ≤ numbered ns es
  come-few cs [] is among = omega arith
  come-few cs (c ∷ es) is among =
      let rest = come-few (cs ++ c ∷ []) es (longer cs c es is among) (λ a n above. among a n (omega (arith, above, length-append cs (c ∷ [])))) in
      come-one cs c es is among c refl rest

  -- no more variables come than there are numbers that a variable may come of
  pub variables-few : (cs es : List Cell) → whole ≡ cs ++ es → ((n : ℕ) → is_in n ns ≡ false → list_any (has_cell_number n) whole ≡ list_any (has_cell_number n) cs) → variable_cells whole ≤ variable_cells cs + length ns
  variables-few cs es is others =
      let all = ap variable_cells is ∙ variables-append cs es in
      omega (arith, all, come-few cs es is among, numbered-few ns es)
    where
      among : (a n : ℕ) → length cs ≤ a → number_of (slice_get whole a) ≡ Some n → is_in n ns ≡ true
      among a n above number = not_false (is_in n ns) (λ none.
          let taken = sym (others n none) ∙ numbered-taken whole a n number in
          let found = taken_from cs n taken in
          let within = number-within cs found.0 n found.1 in
          let there : number_of (slice_get whole found.0) ≡ Some n = ap (λ xs. number_of (slice_get xs found.0)) is ∙ ap number_of (slice_get-append cs es found.0 within) ∙ found.1 in
          let same = heap.one_cell a found.0 n number there in
          omega arith)
        where
          not_false : (b : Bool) → (b ≡ false → ⊥) → b ≡ true
          not_false true h = refl
          not_false false h = absurd (h refl)

          number-within : (xs : List Cell) (k m : ℕ) → number_of (slice_get xs k) ≡ Some m → k < length xs
          number-within [] k m h = absurd (cc)
          number-within (x ∷ xs) zero m h = omega arith
          number-within (x ∷ xs) (suc k) m h = omega (arith, number-within xs k m h)

-- a number that is none of those from here on
pub outside : (first count n : ℕ) → is_in n (numbers_from first count) ≡ false → (first ≤ n → n < first + count → ⊥)
outside first zero n none low high = omega arith
outside first (suc count) n none low high =
    elim (cases_eq first n) [
      | inl same ↦ false≢true (sym none ∙ or_left (first == n) (is_in n (numbers_from (first + 1) count)) (eq-eqb first n same))
      | inr other ↦
          outside (first + 1) count n (sym (ap (λ b. b || is_in n (numbers_from (first + 1) count)) (ne_eqb first n other)) ∙ none) (below-other first n low other) (omega arith)
    ]
  where
    below-other : (a b : ℕ) → a ≤ b → a ≢ b → a + 1 ≤ b
    below-other zero zero le ne = absurd (ne refl)
    below-other zero (suc b) le ne = omega arith
    below-other (suc a) zero le ne = absurd (omega arith)
    below-other (suc a) (suc b) le ne = omega (arith, below-other a b (omega arith) (λ e. ne (ap suc e)))

pub among-numbers : (first count k : ℕ) → k < count → is_in (first + k) (numbers_from first count) ≡ true
among-numbers first zero k below = absurd (omega arith)
among-numbers first (suc count) zero below = or_left (first == first + 0) (is_in (first + 0) (numbers_from (first + 1) count)) (eq-eqb first (first + 0) (omega arith))
among-numbers first (suc count) (suc k) below =
    let same : first + 1 + k ≡ first + suc k = omega arith in
    or_right (first == first + suc k) (is_in (first + suc k) (numbers_from (first + 1) count)) (ap (λ n. is_in n (numbers_from (first + 1) count)) (sym same) ∙ among-numbers (first + 1) count k (omega arith))

-- ---- one cell for each number that has a variable
other-number : (m n : ℕ) (c : Cell) → has_cell_number m c ≡ true → m ≢ n → has_cell_number n c ≡ false
other-number m n c has other =
    false_from_ne_true (has_cell_number n c) (λ also.
    let both : Some m ≡ Some n = sym (has_number-is m c has) ∙ has_number-is n c also in
    let same : m ≡ n = cc in
    other same)

numbered-past : (m low count : ℕ) (c : Cell) (es : List Cell) → has_cell_number m c ≡ true → m < low → numbered (numbers_from low count) (c ∷ es) ≡ numbered (numbers_from low count) es
numbered-past m low zero c es has below = refl
numbered-past m low (suc count) c es has below =
    let none = other-number m low c has (λ e. omega arith) in
    let here : one (list_any (has_cell_number low) (c ∷ es)) ≡ one (list_any (has_cell_number low) es) = ap (λ b. one (b || list_any (has_cell_number low) es)) none in
    omega (arith, here, numbered-past m (low + 1) count c es has (omega arith))

one-more : (b : Bool) → one (true || b) ≤ 1
one-more b = omega arith

numbered-step : (low count : ℕ) (c : Cell) (es : List Cell) → numbered (numbers_from low count) (c ∷ es) ≤ suc (numbered (numbers_from low count) es)
numbered-step low zero c es = omega arith
numbered-step low (suc count) c es = step (has_cell_number low c) refl (numbered-step (low + 1) count c es)
  where
    step : (b : Bool) → has_cell_number low c ≡ b → numbered (numbers_from (low + 1) count) (c ∷ es) ≤ suc (numbered (numbers_from (low + 1) count) es) → numbered (numbers_from low (suc count)) (c ∷ es) ≤ suc (numbered (numbers_from low (suc count)) es)
    step true has rest =
        let past = numbered-past low (low + 1) count c es has (omega arith) in
        omega (arith, past, one-few (list_any (has_cell_number low) (c ∷ es)))
    step false has rest =
        let here : one (list_any (has_cell_number low) (c ∷ es)) ≡ one (list_any (has_cell_number low) es) = ap (λ b. one (b || list_any (has_cell_number low) es)) has in
        omega (arith, here, rest)

numbered-none : (low count : ℕ) → numbered (numbers_from low count) [] ≡ 0
numbered-none low zero = refl
numbered-none low (suc count) = omega (arith, numbered-none (low + 1) count)

numbered-length : (low count : ℕ) (es : List Cell) → numbered (numbers_from low count) es ≤ length es
numbered-length low count [] = omega (arith, numbered-none low count)
numbered-length low count (c ∷ es) = omega (arith, numbered-step low count c es, numbered-length low count es)

numbered-all : (low count : ℕ) (es : List Cell) → ((k : ℕ) → k < count → list_any (has_cell_number (low + k)) es ≡ true) → count ≤ numbered (numbers_from low count) es
numbered-all low zero es all = omega arith
numbered-all low (suc count) es all =
    let first : list_any (has_cell_number low) es ≡ true = ap (λ n. list_any (has_cell_number n) es) (omega arith) ∙ all 0 (omega arith) in
    let here : one (list_any (has_cell_number low) es) ≡ 1 = ap one first in
    let rest = numbered-all (low + 1) count es (λ k below. ap (λ n. list_any (has_cell_number n) es) (omega arith) ∙ all (suc k) (omega arith)) in
    omega (arith, here, rest)

-- where each of these numbers has a variable and none had one before
pub variables-many : (low count : ℕ) (cs es : List Cell) → ((k : ℕ) → k < count → list_any (has_cell_number (low + k)) (cs ++ es) ≡ true) → ((n : ℕ) → low ≤ n → list_any (has_cell_number n) cs ≡ false) → count ≤ length es
variables-many low count cs es all none =
    let come : (k : ℕ) → k < count → list_any (has_cell_number (low + k)) es ≡ true = λ k below.
    ap (λ b. b || list_any (has_cell_number (low + k)) es) (sym (none (low + k) (omega arith))) ∙ sym (list_any-append (has_cell_number (low + k)) cs es) ∙ all k below in
    omega (arith, numbered-all low count es come, numbered-length low count es)
