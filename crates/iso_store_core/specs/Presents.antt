-- What is true of a store at one time, and what its calls make of it. Words are of type W.
use Rattle.std.specs.Prelude.{◌≡◌, ◌≢◌, ℕ, ◌+◌, ◌<◌, ◌≤◌, List, length, map, slice_index_or, Bool, true, false, MatchBool}
use Rattle.iso_model.specs.Terms.Trees.{Tree, Variable}
use Rattle.iso_model.specs.Terms.Variables.{occurs}
use Rattle.iso_model.specs.Terms.Substitutions.{Subst, apply, compose}
use Rattle.iso_model.specs.Terms.Unifiers.{Unifier, NeverEqual}

-- A store as it is at one time.
pub record Present (W : Type 0) : Type 0 where
  -- what its variables stand for
  pub substitution : Subst
  -- the next variable number
  pub next : ℕ
  -- how many cells (or nodes) were made, how many of them are variables, and how many cells there may be
  pub cells : ℕ
  pub variables : ℕ
  pub limit : ℕ
  -- whether the word stands for a term, and the term that it was made with
  pub holds : W → Bool
  pub term : W → Tree
  -- whether there is a variable of this number
  pub taken : ℕ → Bool

-- the word stands for a term
abbrev pub Holds : {W : Type 0} → Present W → W → Type 0
Holds p w = p.holds w ≡ true

-- the term that the word stands for, through bindings
abbrev pub meaning : {W : Type 0} → Present W → W → Tree
meaning p w = apply p.substitution (p.term w)

-- The variable of this number stands for itself, and is in no term that a word stands for.
pub record Untouched {W : Type 0} (p : Present W) (n : ℕ) : Type 0 where
  pub substitution : p.substitution n ≡ Variable n
  pub meanings : (w : W) → p.holds w ≡ true → occurs n (meaning p w) ≡ false

-- Words that stood stand on, for the terms that they were made with.
pub record KeepsWords {W : Type 0} (p q : Present W) : Type 0 where
  pub stand : (w : W) → p.holds w ≡ true → q.holds w ≡ true
  pub terms : (w : W) → p.holds w ≡ true → q.term w ≡ p.term w

-- The word w comes for the term t, and no binding changes.
pub record Makes {W : Type 0} (p q : Present W) (w : W) (t : Tree) : Type 0 where
  pub words : KeepsWords p q
  pub substitution : q.substitution ≡ p.substitution
  pub holds : q.holds w ≡ true
  pub term : q.term w ≡ t

-- From p to q the words came for the terms, and no binding changed.
pub record Gathers {W : Type 0} (p q : Present W) (ws : List W) (ts : List Tree) : Type 0 where
  pub words : KeepsWords p q
  pub substitution : q.substitution ≡ p.substitution
  pub hold : (k : ℕ) (d : W) → k < length ws → q.holds (slice_index_or ws k d) ≡ true
  pub terms : map q.term ws ≡ ts

-- No number is used.
pub record KeepsNumbers {W : Type 0} (p q : Present W) : Type 0 where
  pub next : q.next ≡ p.next
  pub taken : (n : ℕ) → q.taken n ≡ p.taken n

-- A variable of the number comes.
pub record TakesNumber {W : Type 0} (p q : Present W) (number : ℕ) : Type 0 where
  pub next : q.next ≡ p.next
  pub here : q.taken number ≡ true
  pub others : (n : ℕ) → n ≢ number → q.taken n ≡ p.taken n

-- Variables come of numbers from low on alone.
pub record TakesFrom {W : Type 0} (p q : Present W) (low : ℕ) : Type 0 where
  pub next : q.next ≡ p.next
  pub others : (n : ℕ) → n < low → q.taken n ≡ p.taken n

-- The next number moves on by count, and of those before it no other is used.
pub record MovesOn {W : Type 0} (p q : Present W) (count : ℕ) : Type 0 where
  pub next : q.next ≡ p.next + count
  pub taken : (n : ℕ) → n < p.next → q.taken n ≡ p.taken n

-- At most so many cells are made, at most so many of them variables, and none goes; and there are never more than
-- there may be.
pub record Grows {W : Type 0} (p q : Present W) (most new : ℕ) : Type 0 where
  pub cells : q.cells ≤ p.cells + most
  pub variables : q.variables ≤ p.variables + new
  pub keeps : p.cells ≤ q.cells
  pub keeps_variables : p.variables ≤ q.variables
  pub limit : q.limit ≡ p.limit
  pub within : p.cells ≤ p.limit → q.cells ≤ q.limit

-- A cell was made for each number that was used: the next number moved on by no more than the cells grew.
abbrev pub NumbersHaveCells : {W : Type 0} → Present W → Present W → Type 0
NumbersHaveCells p q = q.next + p.cells ≤ p.next + q.cells

-- The bindings s come to those that there are.
pub record Binds {W : Type 0} (p q : Present W) (s : Subst) : Type 0 where
  pub words : KeepsWords p q
  pub numbers : KeepsNumbers p q
  pub substitution : q.substitution ≡ compose p.substitution s

-- What the answer to a unification of a and b says (ISO/IEC 13211-1:1995, 7.3.3): true with their unifier composed,
-- false only where there is none.
abbrev pub IsUnification : {W : Type 0} → Present W → Present W → Tree → Tree → Bool → Type 0
IsUnification p q a b answer = MatchBool answer ((s : Subst) × Unifier a b s × Binds p q s) (NeverEqual a b)

-- marks that stood stand on, for what they stood for
abbrev pub KeepsMarks : {W M : Type 0} → (M → Present W → Type 0) → (M → Present W → Type 0) → Type 0
KeepsMarks {W} {M} old new = (m : M) (p : Present W) → old m p → new m p
