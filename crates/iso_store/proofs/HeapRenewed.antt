-- Terms of patterns that are made in a heap with new variables.
use Rattle.std.proofs.Common.{◌≡◌, ◌≢◌, ℕ, zero, suc, ◌+◌, ◌<◌, ◌≤◌, ◌==◌, List, [], ◌∷◌, length, map, take, get_or, true, false, refl, ap, sym, ◌∙◌, arith, ◌-◌, Option, Some, None, slice_get, replicate, OnOk, Result, Ok, Err, ◌⊎◌, inl, inr}
use Rattle.std.specs.List.{list_any}
use Rattle.std.proofs.lemmas.Bool.{false≢true, false_from_ne_true, or_left, or_right, eq-eqb, eqb-true, or_cases}
use Rattle.std.proofs.lemmas.List.{length-map}
use Rattle.iso_model.specs.Terms.Trees.{Tree, Variable, Integer, Name, Apply, End, More, row}
use Rattle.iso_model.specs.Terms.Variables.{occurs, is_in, variables, variable_count}
use Rattle.iso_model.specs.Terms.Sizes.{size}
use Rattle.iso_model.specs.Terms.Substitutions.{apply}
use Rattle.iso_model.proofs.OnTerms.VariableLemmas.{listed_occurring}
use Rattle.iso_store_core.specs.Copying.{cells_of}
use Rattle.iso_store_core.specs.Presents.{Present, MovesOn, TakesNumber}
use Rattle.iso_store.specs.declared.heap.Heap.{Heap}
use Rattle.iso_store.specs.declared.heap_cells.Cell.{Cell}
use Rattle.iso_store.specs.declared.heap_cells.Piece.{Piece}
use Rattle.iso_store.specs.declared.heap_cells.Piece.TheVariants.{Variable as Place}
use Rattle.iso_store.specs.HeapTerms.{variable_cells}
use Rattle.iso_store.specs.HeapStores.{has_cell_number}
use Rattle.iso_store.specs.HeapNumbers.{untaken}
use Rattle.iso_store.specs.HeapBuilds.{GoesOn, HaveCells, numbered, piece_term}
use Rattle.iso_store.proofs.VariableCells.{variables-few}

-- a variable that is in none of the terms is none of the pieces
renewed-variable : (first k : ℕ) (t : Tree) → Variable (first + k) ≡ apply (numbered first) t → occurs k t ≡ true
renewed-variable first k (Variable m) is = (let same : first + k ≡ first + m = cc in eq-eqb m k (omega arith))
renewed-variable first k (Integer z) is = absurd (cc)
renewed-variable first k (Name a) is = absurd (cc)
renewed-variable first k (Apply f ts) is = absurd (cc)
renewed-variable first k End is = absurd (cc)
renewed-variable first k (More t ts) is = absurd (cc)

pub no-piece : (names : List (List ℕ)) (first : ℕ) (cs : List Cell) (ps : List Piece) (ts : List Tree) (k : ℕ) → map (piece_term names first cs) ps ≡ map (apply (numbered first)) ts → occurs k (row ts) ≡ false → (i : ℕ) (d : Piece) → i < length ps → get_or ps i d ≢ Place k
no-piece names first cs [] ts k same none i d below = absurd (omega arith)
no-piece names first cs (p ∷ ps) [] k same none i d below = absurd (omega (arith, ap length same))
no-piece names first cs (p ∷ ps) (t ∷ ts) k same none zero d below = λ is.
    let all : piece_term names first cs p ∷ map (piece_term names first cs) ps ≡ apply (numbered first) t ∷ map (apply (numbered first)) ts = same in
    let head : piece_term names first cs p ≡ apply (numbered first) t = cc in
    let here = renewed-variable first k t (sym (ap (piece_term names first cs) is) ∙ head) in
    false≢true (sym none ∙ or_left (occurs k t) (occurs k (row ts)) here)
no-piece names first cs (p ∷ ps) (t ∷ ts) k same none (suc i) d below =
    let all : piece_term names first cs p ∷ map (piece_term names first cs) ps ≡ apply (numbered first) t ∷ map (apply (numbered first)) ts = same in
    let tail : map (piece_term names first cs) ps ≡ map (apply (numbered first)) ts = cc in
    let rest = false_from_ne_true (occurs k (row ts)) (λ o. false≢true (sym none ∙ or_right (occurs k t) (occurs k (row ts)) o)) in
    no-piece names first cs ps ts k tail rest i d (omega arith)

-- no more variables come than occur, where only these have cells
module _ {first : ℕ} {old new : Heap} (goes : GoesOn first old new) (t : Tree) (count : ℕ) (places : List (Option ℕ)) (next : old.next ≡ first + count) (free : (m : ℕ) → first ≤ m → list_any (has_cell_number m) old.area.low ≡ false)
    (cells : HaveCells new.area.low first places) (others : (k : ℕ) → k < count → occurs k t ≡ false → slice_get places k ≡ Some None) where
  abbrev listed : List ℕ
  listed = map (λ k. first + k) (variables t)

  in-listed : (vs : List ℕ) (k : ℕ) → is_in k vs ≡ true → is_in (first + k) (map (λ j. first + j) vs) ≡ true
  in-listed [] k h = absurd (false≢true h)
  in-listed (v ∷ vs) k h =
      elim (or_cases (v == k) (is_in k vs) h) [
        | inl here ↦ or_left (first + v == first + k) (is_in (first + k) (map (λ j. first + j) vs)) (eq-eqb (first + v) (first + k) (ap (λ n. first + n) (eqb-true v k here)))
        | inr there ↦ or_right (first + v == first + k) (is_in (first + k) (map (λ j. first + j) vs)) (in-listed vs k there)
      ]

  absent : (n : ℕ) → first ≤ n → n < first + count → is_in n listed ≡ false → occurs (n - first) t ≡ false
  absent n low high none =
      false_from_ne_true (occurs (n - first) t) (λ o.
      let same : first + (n - first) ≡ n = omega arith in
      false≢true (sym none ∙ ap (λ m. is_in m listed) (sym same) ∙ in-listed (variables t) (n - first) (listed_occurring t (n - first) ∙ o)))

  lt-cases : (n m : ℕ) → (n < m) ⊎ (m ≤ n)
  lt-cases n zero = inr (omega arith)
  lt-cases zero (suc m) = inl (omega arith)
  lt-cases (suc n) (suc m) = elim (lt-cases n m) [ inl h ↦ inl (omega arith) | inr h ↦ inr (omega arith) ]

  unchanged : (n : ℕ) → is_in n listed ≡ false → list_any (has_cell_number n) new.area.low ≡ list_any (has_cell_number n) old.area.low
  unchanged n none =
      elim (lt-cases n first) [
        | inl below ↦ goes.numbers n below
        | inr above ↦
            elim (lt-cases n (first + count)) [
              | inl within ↦ (
                  let same : first + (n - first) ≡ n = omega arith in
                  let there = cells.free (n - first) (others (n - first) (omega arith) (absent n above within none)) in
                  ap (λ m. list_any (has_cell_number m) new.area.low) (sym same) ∙ there ∙ sym (free n above))
              | inr high ↦ untaken new.area.low n (λ a m h. let under = new.is_heap.numbered a m h in let same = goes.next in omega arith) ∙ sym (free n above)
            ]
      ]

  pub goes-occurring : variable_cells new.area.low ≤ variable_cells old.area.low + variable_count t
  goes-occurring =
      let few = variables-few (take new.named new.atoms) new.area.low new.next new.is_heap listed old.area.low goes.cells.0 goes.cells.1 unchanged in
      omega (arith, few, length-map (variables t) (λ k. first + k))

-- a term that is a variable with a new number
pub renewed-alone : (first k : ℕ) (t : Tree) → Variable (first + k) ≡ apply (numbered first) t → (variable_count t ≡ 1) × (size t ≡ 1) × (cells_of 0 (λ n. n + 1) t ≡ 0)
renewed-alone first k (Variable m) is = (refl, refl, refl)
renewed-alone first k (Integer z) is = absurd (cc)
renewed-alone first k (Name a) is = absurd (cc)
renewed-alone first k (Apply f ts) is = absurd (cc)
renewed-alone first k End is = absurd (cc)
renewed-alone first k (More t ts) is = absurd (cc)

pub none-at : {X : Type 0} (x : X) (n k : ℕ) → k < n → slice_get (replicate n x) k ≡ Some x
none-at x zero k below = absurd (omega arith)
none-at x (suc n) zero below = refl
none-at x (suc n) (suc k) below = none-at x n k (omega arith)

-- a variable more, of one of the numbers that were reserved
pub moved-then : {W E : Type 0} {p q : Present W} {count : ℕ} (r : Present W) (number : ℕ) (result : Result W E) → p.next ≤ number → MovesOn p q count → OnOk result (TakesNumber q r number) → OnOk result (MovesOn p r count)
moved-then r number (Ok w) above moved taken = record {
  next = taken.next ∙ moved.next;
  taken = λ n below. taken.others n (λ e. omega arith) ∙ moved.taken n below;
}
moved-then r number (Err e) above moved taken = taken
