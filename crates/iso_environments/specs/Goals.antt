-- Goals by their names and arguments.
use Rattle.std.specs.Prelude.{ℕ, List, [], ◌∷◌}
use Rattle.iso_model.specs.Terms.Trees.{Tree, Name, Apply, row}

-- the goal of this name with these arguments
abbrev pub goal_of : List ℕ → List Tree → Tree
goal_of f [] = Name f
goal_of f (t ∷ ts) = Apply f (row (t ∷ ts))
