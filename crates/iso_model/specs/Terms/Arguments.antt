-- The arguments of a compound, by their places.
use Rattle.std.specs.Prelude.{ℕ, zero, suc, List, [], ◌∷◌}
use Rattle.iso_model.specs.Terms.Trees.{Tree, Variable, Integer, Name, Apply, End, More, count}

-- the arguments of a compound, as a list of terms; of another term none
abbrev pub arguments : Tree → Tree
arguments (Variable n) = End
arguments (Integer z) = End
arguments (Name a) = End
arguments (Apply f ts) = ts
arguments End = End
arguments (More t ts) = End

-- how many arguments the term has
abbrev pub arity : Tree → ℕ
arity t = count (arguments t)

-- the member at this place of a list of terms
abbrev pub member : ℕ → Tree → Tree
member zero (More t ts) = t
member (suc i) (More t ts) = member i ts
member i t = End

-- the argument at this place, from 0 on
abbrev pub argument : ℕ → Tree → Tree
argument i t = member i (arguments t)

-- the members of a list of terms
abbrev pub listed : Tree → List Tree
listed (More t ts) = t ∷ listed ts
listed t = []

-- the members of a list of terms behind its first
abbrev pub others : Tree → Tree
others (More t ts) = ts
others t = End

-- two lists of terms, one behind the other
abbrev pub joined : Tree → Tree → Tree
joined (More t ts) us = More t (joined ts us)
joined t us = us

-- An atom or a compound with further arguments behind its own. A variable or an integer has none, and stays as it is
-- (own).
abbrev pub with_arguments : Tree → Tree → Tree
with_arguments t End = t
with_arguments (Name a) us = Apply a us
with_arguments (Apply f ts) us = Apply f (joined ts us)
with_arguments t us = t

-- so many variables, from this number on, as a list of terms
abbrev pub variables_from : ℕ → ℕ → Tree
variables_from n zero = End
variables_from n (suc count) = More (Variable n) (variables_from (suc n) count)
