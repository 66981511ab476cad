-- Copies of a term with other variables (ISO/IEC 13211-1:1995, 7.1.6.2; which numbers the variables get is own).
use Rattle.std.specs.Prelude.{◌≡◌, ℕ, zero, suc, ◌+◌, List, [], ◌∷◌, ◌==◌}
use Rattle.std.specs.List.{position_or_len}
use Rattle.iso_model.specs.Terms.Trees.{Tree, Variable}
use Rattle.iso_model.specs.Terms.Variables.{variables, variable_count}
use Rattle.iso_model.specs.Terms.Substitutions.{apply}

-- the place of a variable in a list of them: the first is 0
abbrev pub place_of : ℕ → List ℕ → ℕ
place_of x vs = position_or_len (λ m. m == x) vs

-- the term with its variables renumbered n, n + 1, .. by first occurrence
abbrev pub copy_from : Tree → ℕ → Tree
copy_from t n = apply (λ x. Variable (n + place_of x (variables t))) t

-- the term with n added to the number of each variable
abbrev pub renamed : ℕ → Tree → Tree
renamed n t = apply (λ x. Variable (n + x)) t

-- n, n + 1, .., so many numbers
abbrev pub numbers_from : ℕ → ℕ → List ℕ
numbers_from n zero = []
numbers_from n (suc k) = n ∷ numbers_from (n + 1) k

-- the variables of the term are numbered 0, 1, .. by first occurrence
abbrev pub IsNumbered : Tree → Type 0
IsNumbered t = variables t ≡ numbers_from 0 (variable_count t)
