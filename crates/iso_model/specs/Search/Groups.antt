-- Solutions in groups (ISO/IEC 13211-1:1995, 8.10.2, 8.10.3). A solution is a pair `W-T` of a witness and an item.
use Rattle.std.specs.Prelude.{ℕ, List, [], ◌∷◌, map, Bool, true, false, ◌||◌, not, codes, if◌then◌else◌}
use Rattle.std.specs.List.{filter}
use Rattle.std.specs.Ordering.{is_eq}
use Rattle.std.specs.Str.{bytes_eq}
use Rattle.iso_model.specs.Terms.Trees.{Tree, Variable, Apply, End, More}
use Rattle.iso_model.specs.Terms.Variables.{occurs, variables}
use Rattle.iso_model.specs.Terms.Copies.{copy_from}
use Rattle.iso_model.specs.Terms.Order.{term_cmp}
use Rattle.iso_model.specs.Terms.Sorting.{sorted}
use Rattle.iso_model.specs.Terms.Arguments.{argument}
use Rattle.iso_model.specs.Terms.Lists.{list_of, elements}
use Rattle.iso_model.specs.Search.Bodies.{two}

-- ---- the goal, and its free variables (7.1.1.4)

-- the goal behind each `V^` that it begins with (7.1.6.3)
abbrev pub stripped : Tree → Tree
stripped (Apply f (More v (More g End))) = if bytes_eq f (codes "^") then stripped g else Apply f (More v (More g End))
stripped goal = goal

-- the left side of each of these, as a list of terms
abbrev pub bound_terms : Tree → Tree
bound_terms (Apply f (More v (More g End))) = if bytes_eq f (codes "^") then More v (bound_terms g) else End
bound_terms goal = End

-- whether the variable stands in the template or in one of the left sides
abbrev pub is_bound : Tree → Tree → ℕ → Bool
is_bound template goal x = occurs x template || occurs x (bound_terms goal)

-- the other variables of the stripped goal, by first occurrence
abbrev pub free_variables : Tree → Tree → List ℕ
free_variables template goal = filter (λ x. not (is_bound template goal x)) (variables (stripped goal))

-- the list of these, which is the witness of the goal
abbrev pub witness_of : Tree → Tree → Tree
witness_of template goal = list_of (map Variable (free_variables template goal))

-- ---- the groups

-- a witness and an item, as one term
abbrev pub pair : Tree → Tree → Tree
pair w t = two (codes "-") w t

-- whether a term is one
abbrev pub is_solution : Tree → Bool
is_solution (Apply f (More w (More t End))) = bytes_eq f (codes "-")
is_solution t = false

-- the two parts of such a term
abbrev pub witness : Tree → Tree
witness p = argument 0 p

abbrev pub item : Tree → Tree
item p = argument 1 p

-- whether two terms are equal up to a renaming of their variables (7.1.6.1)
abbrev pub are_variants : Tree → Tree → Bool
are_variants t u = is_eq (term_cmp (copy_from t 0) (copy_from u 0))

-- whether two solutions are of one group
abbrev pub is_with : Tree → Tree → Bool
is_with p q = are_variants (witness p) (witness q)

-- the first solution of each group
abbrev pub firsts : List Tree → List Tree
firsts [] = []
firsts (p ∷ ps) = p ∷ filter (λ q. not (is_with p q)) (firsts ps)

-- The groups of these solutions, in the order of their first ones. Each has its solutions in their order.
abbrev pub groups_of : List Tree → List (List Tree)
groups_of ps = map (λ p. filter (is_with p) ps) (firsts ps)

-- ---- what is made of a group

-- the witnesses and the items of a list of solutions
abbrev pub witnesses : Tree → List Tree
witnesses l = map witness (elements l)

abbrev pub items : Tree → List Tree
items l = map item (elements l)

-- the items as they are, or in the standard order and each once
abbrev pub collection : Bool → List Tree → List Tree
collection false ts = ts
collection true ts = sorted ts
