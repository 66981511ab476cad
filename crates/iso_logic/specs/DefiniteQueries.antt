-- Queries over definite clauses.
use Rattle.std.specs.Prelude.{◌≡◌, true}
use Rattle.iso_model.specs.Terms.Trees.{Tree}
use Rattle.iso_model.specs.Terms.Sorts.{is_term}
use Rattle.iso_model.specs.Terms.Copies.{IsNumbered}
use Rattle.iso_logic.specs.DefinitePrograms.{are_goals}

-- A definite query is a conjunction of goals of user procedures. Like every query it is a term, and its variables are
-- 0, 1, .. by first occurrence.
pub record IsDefiniteQuery (goal : Tree) : Type 0 where
  pub goals : are_goals goal ≡ true
  pub term : is_term goal ≡ true
  pub numbered : IsNumbered goal
