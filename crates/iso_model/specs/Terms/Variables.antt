-- The variables of a term (ISO/IEC 13211-1:1995, 7.1.1).
use Rattle.std.specs.Prelude.{ℕ, List, [], ◌∷◌, ◌++◌, Bool, false, ◌||◌, ◌==◌, length, if◌then◌else◌}
use Rattle.std.specs.List.{list_any}
use Rattle.iso_model.specs.Terms.Trees.{Tree, Variable, Integer, Name, Apply, End, More}

-- whether variable x occurs in the term
abbrev pub occurs : ℕ → Tree → Bool
occurs x (Variable n) = n == x
occurs x (Integer z) = false
occurs x (Name a) = false
occurs x (Apply f ts) = occurs x ts
occurs x End = false
occurs x (More t ts) = occurs x t || occurs x ts

-- whether the number is in the list
abbrev pub is_in : ℕ → List ℕ → Bool
is_in n seen = list_any (λ m. m == n) seen

-- those seen so far, and then the other variables of the term, each once, by first occurrence
abbrev pub distinct_from : List ℕ → Tree → List ℕ
distinct_from seen (Variable n) = if is_in n seen then seen else seen ++ n ∷ []
distinct_from seen (Integer z) = seen
distinct_from seen (Name a) = seen
distinct_from seen (Apply f ts) = distinct_from seen ts
distinct_from seen End = seen
distinct_from seen (More t ts) = distinct_from (distinct_from seen t) ts

-- the variables of the term, each once, by first occurrence from the left
abbrev pub variables : Tree → List ℕ
variables t = distinct_from [] t

-- how many distinct variables the term has
abbrev pub variable_count : Tree → ℕ
variable_count t = length (variables t)
