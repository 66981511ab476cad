-- Laws of copies.
use Rattle.std.specs.Prelude.{◌≡◌, ℕ, ◌+◌, ◌<◌, ◌≤◌, IsTrue, map}
use Rattle.iso_model.specs.Terms.Trees.{Tree, Variable}
use Rattle.iso_model.specs.Terms.Sizes.{size}
use Rattle.iso_model.specs.Terms.Variables.{occurs, variables, variable_count}
use Rattle.iso_model.specs.Terms.Substitutions.{apply}
use Rattle.iso_model.specs.Terms.Copies.{copy_from, renamed, numbers_from, IsNumbered}

-- the variables of a copy are n, n + 1, .. by first occurrence, as many as the term has
abbrev pub VariablesOfCopy : Type 0
VariablesOfCopy = (t : Tree) (n : ℕ) → variables (copy_from t n) ≡ numbers_from n (variable_count t)

-- so each of them is at least n and below n plus their number
abbrev pub RangeOfCopy : Type 0
RangeOfCopy = (t : Tree) (n x : ℕ) → IsTrue (occurs x (copy_from t n)) → (n ≤ x) × (x < n + variable_count t)

-- a copy is a variant: it can be renamed back
abbrev pub CopyIsVariant : Type 0
CopyIsVariant = (t : Tree) (n : ℕ) → (back : ℕ → ℕ) × (apply (λ x. Variable (back x)) (copy_from t n) ≡ t)

-- a copy of a term whose variables are numbered 0, 1, .. by first occurrence adds n to each of them
abbrev pub CopyOfNumbered : Type 0
CopyOfNumbered = (t : Tree) (n : ℕ) → IsNumbered t → copy_from t n ≡ renamed n t

-- a copy from 0 has its variables numbered 0, 1, .. by first occurrence
abbrev pub CopyFromZero : Type 0
CopyFromZero = (t : Tree) → IsNumbered (copy_from t 0)

-- a copy of a copy is a copy of the term
abbrev pub CopyOfCopy : Type 0
CopyOfCopy = (t : Tree) (m n : ℕ) → copy_from (copy_from t m) n ≡ copy_from t n

-- new numbers change neither a term's size nor how many variables it has
abbrev pub SizeOfCopy : Type 0
SizeOfCopy = (t : Tree) (n : ℕ) → (size (copy_from t n) ≡ size t) × (variable_count (copy_from t n) ≡ variable_count t)

abbrev pub SizeOfRenamed : Type 0
SizeOfRenamed = (t : Tree) (n : ℕ) → (size (renamed n t) ≡ size t) × (variable_count (renamed n t) ≡ variable_count t)

-- renaming adds n to each variable in the list of variables
abbrev pub VariablesOfRenamed : Type 0
VariablesOfRenamed = (t : Tree) (n : ℕ) → variables (renamed n t) ≡ map (λ x. n + x) (variables t)
