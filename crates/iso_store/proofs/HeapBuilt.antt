-- What building a term in a heap comes to.
use Rattle.std.proofs.Common.{◌≡◌, ◌≢◌, ℕ, zero, suc, ◌+◌, ◌<◌, ◌≤◌, ◌&&◌, nat_le, List, [], ◌∷◌, ◌++◌, length, map, take, get_or, replicate, true, false, refl, ap, ap₂, sym, ◌∙◌, arith, length-append, Some, None, ◌==◌, ◌⊎◌, inl, inr}
use Rattle.std.specs.List.{slice_get, list_any, All}
use Rattle.std.proofs.lemmas.Bool.{and_parts, eq-eqb, false≢true}
use Rattle.std.proofs.lemmas.Simd.{map-map}
use Rattle.std.proofs.lemmas.List.{length-map, nil_from_length, append-nil}
use Rattle.iso_atoms.specs.Texts.{text_at}
use Rattle.std.proofs.lemmas.List.Sums.{position_or_len_is}
use Rattle.iso_model.specs.Terms.Trees.{Tree, Variable, Integer, Name, Apply, End, More, count, row}
use Rattle.iso_model.specs.Terms.Sorts.{is_term, is_row}
use Rattle.iso_model.specs.Terms.Sizes.{size}
use Rattle.iso_model.specs.Terms.Variables.{is_in, distinct_from, variables, variable_count}
use Rattle.iso_model.specs.Terms.Substitutions.{Subst, apply}
use Rattle.iso_model.specs.Terms.Copies.{place_of, copy_from, numbers_from}
use Rattle.iso_model.specs.Terms.Unification.Applied.{apply_apply}
use Rattle.iso_store_core.specs.Presents.{Present, Holds, KeepsWords, Makes, Grows}
use Rattle.iso_store_core.specs.Copying.{cells_of}
use Rattle.iso_store.specs.declared.heap.Heap.{Heap}
use Rattle.iso_store.specs.declared.heap_cells.HeapWord.{HeapWord}
use Rattle.iso_store.specs.declared.heap_cells.HeapWord.TheVariants.{Structure}
use Rattle.iso_store.specs.declared.heap_cells.HeapMark.{HeapMark}
use Rattle.iso_store.specs.declared.heap_cells.Piece.TheVariants.{Word}
use Rattle.iso_store.specs.declared.heap_cells.Cell.{Cell}
use Rattle.iso_store.specs.declared.heap_cells.Cell.TheVariants.{Argument, Functor}
use Rattle.iso_store.specs.HeapTerms.{variable_cells}
use Rattle.iso_store.specs.HeapNumbers.{untaken}
use Rattle.iso_store.specs.HeapStores.{has_cell_number, HeapStandsFor, IsFunctor, present_of_heap}
use Rattle.iso_store_core.proofs.RetainLemmas.{wide-within}
use Rattle.iso_store.specs.HeapBuilds.{ArePushed, GoesOn, HaveCells, built, numbered}
use Rattle.iso_store.proofs.Gathering.{keeps-then, terms-kept, length-numbers_from}
use Rattle.iso_store.proofs.VariableCells.{variables-append, variables-few, outside}
use Rattle.iso_store.proofs.CellCounts.{added}
use Rattle.iso_store.proofs.HeapMarked.{more-keeps}
use Rattle.iso_store.proofs.HeapCompounds.{words-pushed}
use Rattle.iso_store.proofs.HeapBuilding.{compound-comes, functor-next}

-- ---- how many cells a term takes
mutual
  term-within : (t : Tree) → is_term t ≡ true → cells_of 0 (λ n. n + 1) t + 1 ≤ size t
  term-within (Variable n) h = omega arith
  term-within (Integer z) h = let some = wide-within z in omega arith
  term-within (Name a) h = omega arith
  term-within (Apply f ts) h =
      let some = and_parts (nat_le 1 (count ts)) (nat_le (count ts) 255 && is_row ts) h in
      let row = and_parts (nat_le (count ts) 255) (is_row ts) some.1 in
      omega (arith, row-within ts row.1)
  term-within End h = absurd (false≢true h)
  term-within (More t ts) h = absurd (false≢true h)

  row-within : (ts : Tree) → is_row ts ≡ true → count ts + cells_of 0 (λ n. n + 1) ts ≤ size ts
  row-within (Variable n) h = absurd (false≢true h)
  row-within (Integer z) h = absurd (false≢true h)
  row-within (Name a) h = absurd (false≢true h)
  row-within (Apply f ts) h = absurd (false≢true h)
  row-within End h = omega arith
  row-within (More t ts) h = let parts = and_parts (is_term t) (is_row ts) h in omega (arith, term-within t parts.0, row-within ts parts.1)

-- no more than its size
pub cells-within : (t : Tree) → is_term t ≡ true → cells_of 0 (λ n. n + 1) t ≤ size t
cells-within t h = let less = term-within t h in omega arith

mutual
  term-counted : (seen : List ℕ) (t : Tree) → is_term t ≡ true → length (distinct_from seen t) ≤ length seen + cells_of 0 (λ n. n + 1) t + 1
  term-counted seen (Variable n) h = let one = added seen n (is_in n seen) in omega arith
  term-counted seen (Integer z) h = omega arith
  term-counted seen (Name a) h = omega arith
  term-counted seen (Apply f ts) h =
      let some = and_parts (nat_le 1 (count ts)) (nat_le (count ts) 255 && is_row ts) h in
      let row = and_parts (nat_le (count ts) 255) (is_row ts) some.1 in
      omega (arith, row-counted seen ts row.1)
  term-counted seen End h = absurd (false≢true h)
  term-counted seen (More t ts) h = absurd (false≢true h)

  row-counted : (seen : List ℕ) (ts : Tree) → is_row ts ≡ true → length (distinct_from seen ts) ≤ length seen + count ts + cells_of 0 (λ n. n + 1) ts
  row-counted seen (Variable n) h = absurd (false≢true h)
  row-counted seen (Integer z) h = absurd (false≢true h)
  row-counted seen (Name a) h = absurd (false≢true h)
  row-counted seen (Apply f ts) h = absurd (false≢true h)
  row-counted seen End h = omega arith
  row-counted seen (More t ts) h =
      let parts = and_parts (is_term t) (is_row ts) h in
      omega (arith, term-counted seen t parts.0, row-counted (distinct_from seen t) ts parts.1)

-- no fewer than its variables, unless it is one
pub each-counted : (t : Tree) → is_term t ≡ true → ((n : ℕ) → t ≢ Variable n) → variable_count t ≤ cells_of 0 (λ n. n + 1) t
each-counted (Variable n) h other = absurd (other n refl)
each-counted (Integer z) h other = omega arith
each-counted (Name a) h other = omega arith
each-counted (Apply f ts) h other =
    let some = and_parts (nat_le 1 (count ts)) (nat_le (count ts) 255 && is_row ts) h in
    let row = and_parts (nat_le (count ts) 255) (is_row ts) some.1 in
    omega (arith, row-counted [] ts row.1)
each-counted End h other = absurd (false≢true h)
each-counted (More t ts) h other = absurd (false≢true h)

-- ---- the term
pub no-variable : (s : Subst) (t : Tree) (n : ℕ) → ((m : ℕ) → t ≢ Variable m) → apply s t ≢ Variable n
no-variable s (Variable m) n other = absurd (other m refl)
no-variable s (Integer z) n other = λ e. cc
no-variable s (Name a) n other = λ e. cc
no-variable s (Apply f ts) n other = λ e. cc
no-variable s End n other = λ e. cc
no-variable s (More t ts) n other = λ e. cc

pub copied-numbers : (t : Tree) (first n : ℕ) (vs : List ℕ) → first ≡ n → vs ≡ variables t → apply (numbered first) (apply (λ x. Variable (place_of x vs)) t) ≡ copy_from t n
copied-numbers t first n vs same list = apply_apply (λ x. Variable (place_of x vs)) (numbered first) t ∙ ap₂ (λ m us. apply (λ x. Variable (m + place_of x us)) t) same list

-- ---- no variable has its cell yet
nowhere : (n k a : ℕ) → slice_get (replicate n None) k ≢ Some (Some a)
nowhere zero k a = λ e. cc
nowhere (suc n) zero a = λ e. cc
nowhere (suc n) (suc k) a = nowhere n k a

pub have-none : (cs : List Cell) (first n : ℕ) → ((m : ℕ) → first ≤ m → list_any (has_cell_number m) cs ≡ false) → HaveCells cs first (replicate n None)
have-none cs first n free = record {
  there = λ k a e. absurd (nowhere n k a e);
  free = λ k e. free (first + k) (omega arith);
}

-- ---- what goes on, said of the heap
abbrev pub as_present : Heap → Present HeapWord
as_present h = present_of_heap (take h.named h.atoms) h.area.low h.next h.area.capacity

module _ {first : ℕ} {old new : Heap} (goes : GoesOn first old new) where
  pub goes-marks : (m : HeapMark) (p : Present HeapWord) → HeapStandsFor old.atoms old.area.capacity old.newest old.area.low old.area.high m p → HeapStandsFor new.atoms new.area.capacity new.newest new.area.low new.area.high m p
  goes-marks m p h = rw (goes.atoms, goes.capacity, goes.newest, goes.high, goes.cells.1) (more-keeps old.atoms old.area.capacity old.newest old.area.low goes.cells.0 old.area.high m p h)

  pub goes-keeps : length old.area.low ≤ length new.area.low
  goes-keeps = let more = ap length goes.cells.1 ∙ length-append old.area.low goes.cells.0 in omega arith

  pub goes-grows : (p q : Present HeapWord) (j k v : ℕ) → Grows p q 0 0 → q.cells ≡ length old.area.low → q.variables ≡ variable_cells old.area.low → q.limit ≡ old.area.capacity
      → length new.area.low ≤ length old.area.low + j → j ≤ k → variable_cells new.area.low ≤ variable_cells old.area.low + v → Grows p (as_present new) k v
  goes-grows p q j k v before size variables room few within fewer = record {
    cells = let a = before.cells in omega arith;
    variables = let a = before.variables in omega arith;
    keeps = let a = before.keeps in let b = goes-keeps in omega arith;
    keeps_variables = let a = before.keeps_variables in let more = ap variable_cells goes.cells.1 ∙ variables-append old.area.low goes.cells.0 in omega arith;
    limit = goes.capacity ∙ sym room ∙ before.limit;
    within = λ h. goes.within (let a = before.within h in omega arith);
  }

  -- of the numbers that are left come no more variables than there are
  pub goes-variables : (count : ℕ) → old.next ≡ first + count → variable_cells new.area.low ≤ variable_cells old.area.low + count
  goes-variables count next =
      let few = variables-few (take new.named new.atoms) new.area.low new.next new.is_heap (numbers_from first count) old.area.low goes.cells.0 goes.cells.1 (λ n none.
      elim (lt-cases n first) [
        | inl below ↦ goes.numbers n below
        | inr above ↦ (
            let high : first + count ≤ n = not-below n (λ less. outside first count n none above less) in
            let there : list_any (has_cell_number n) new.area.low ≡ false = untaken new.area.low n (λ a m h. let under = new.is_heap.numbered a m h in let same = goes.next in omega arith) in
            let before : list_any (has_cell_number n) old.area.low ≡ false = untaken old.area.low n (λ a m h. let under = old.is_heap.numbered a m h in omega arith) in
            there ∙ sym before)
      ]) in
      omega (arith, few, length-numbers_from first count)
    where
      lt-cases : (n m : ℕ) → (n < m) ⊎ (m ≤ n)
      lt-cases n zero = inr (omega arith)
      lt-cases zero (suc m) = inl (omega arith)
      lt-cases (suc n) (suc m) = elim (lt-cases n m) [ inl h ↦ inl (omega arith) | inr h ↦ inr (omega arith) ]

      not-below : (n : ℕ) → (n < first + count → ⊥) → first + count ≤ n
      not-below n h = elim (lt-cases n (first + count)) [ inl less ↦ absurd (h less) | inr above ↦ above ]

  -- no cell comes
  pub goes-nowhere : length new.area.low ≤ length old.area.low → new.area.low ≡ old.area.low
  goes-nowhere few =
      let size = ap length goes.cells.1 ∙ length-append old.area.low goes.cells.0 in
      let none : goes.cells.0 ≡ [] = nil_from_length goes.cells.0 (omega arith) in
      goes.cells.1 ∙ ap (λ es. old.area.low ++ es) none ∙ append-nil old.area.low

  pub goes-stays : (p q : Present HeapWord) → Grows p q 0 0 → q.cells ≡ length old.area.low → q.variables ≡ variable_cells old.area.low → q.limit ≡ old.area.capacity → length new.area.low ≤ length old.area.low → Grows p (as_present new) 0 0
  goes-stays p q before size variables room few =
      let same = ap variable_cells (goes-nowhere few) in
      goes-grows p q 0 0 0 before size variables room (omega arith) (omega arith) (omega arith)

  pub goes-makes : (p : Present HeapWord) (n : ℕ) (w : HeapWord) (t u : Tree) → KeepsWords p (as_present old) → (as_present old).substitution ≡ p.substitution → t ≡ u → Makes (built old first n) (built new first n) (Word w) t → Makes p (as_present new) w u
  goes-makes p n w t u words same is made = record {
    words = keeps-then words (record { stand = λ v h. made.words.stand (Word v) h; terms = λ v h. made.words.terms (Word v) h });
    substitution = made.substitution ∙ same;
    holds = made.holds;
    term = made.term ∙ is;
  }

-- a compound whose arguments are words comes with its functor, where all names were made known
module _ (old known mid : Heap) (words : KeepsWords (as_present old) (as_present known)) (every : take known.named known.atoms ≡ old.atoms) (ws : List HeapWord) (holds : All (Holds (as_present old)) ws)
    (pushed : mid.area.low ≡ known.area.low ++ map Argument ws) (goes : GoesOn 0 known mid) (f count : ℕ) (many : length ws ≡ count) (name : f < length old.atoms) (some : 0 < count) (few : count < 256) where
  all : length (map Word ws) ≡ count
  all = length-map ws Word ∙ many

  named-here : f < length (take known.named known.atoms)
  named-here = rw every name

  arguments : ArePushed (take known.named known.atoms) 0 known.area.low mid.area.low (map Word ws)
  arguments =
      let heap = rw (goes.named, goes.atoms, pushed) at mid.is_heap in
      rw pushed (words-pushed (take known.named known.atoms) 0 mid.next known.area.low ws heap (λ k d below. words.stand (get_or ws k d) (holds k d below)))

  pub words-functor : IsFunctor (take mid.named mid.atoms) mid.area.low (length mid.area.low) f count
  words-functor = rw all at (functor-next 0 known mid (map Word ws) f arguments goes named-here (rw all some) (rw all few))

  pub words-made : (new : Heap) → new.area.high ≡ mid.area.high → new.area.capacity ≡ mid.area.capacity → new.atoms ≡ mid.atoms → new.named ≡ mid.named → new.next ≡ mid.next → new.newest ≡ mid.newest
      → new.area.low ≡ mid.area.low ++ Functor f count ∷ [] → length mid.area.low < mid.area.capacity → (as_present known).substitution ≡ (as_present old).substitution
      → Makes (as_present old) (as_present new) (Structure (length mid.area.low)) (Apply (text_at old.atoms f) (row (map (as_present old).term ws)))
  words-made new high capacity atoms named next newest low room same =
      let terms = ap₂ (λ xs us. Apply (text_at xs f) (row us)) every (map-map (built known 0 0).term Word ws ∙ terms-kept words ws holds) in
      let comes = compound-comes 0 known mid (map Word ws) f arguments goes named-here (rw all some) (rw all few) new high capacity atoms named next newest (rw all low) room in
      goes-makes comes.0 (as_present old) 0 (Structure (length mid.area.low)) (Apply (text_at (take known.named known.atoms) f) (row (map (built known 0 0).term (map Word ws)))) (Apply (text_at old.atoms f) (row (map (as_present old).term ws))) words same terms (comes.1 0)

-- the copy of a variable
pub copied-one : (n next : ℕ) → copy_from (Variable n) next ≡ Variable next
copied-one n next = ap (λ k. Variable (next + k)) (place-first n) ∙ ap Variable (omega arith)
  where
    place-first : (n : ℕ) → place_of n (n ∷ []) ≡ 0
    place-first n = position_or_len_is (λ m. m == n) (n ∷ []) 0 n (omega arith) (λ j below. absurd (omega arith)) (λ _. eq-eqb n n refl)
