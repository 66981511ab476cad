-- The bodies of clauses as the plain engine keeps them.
use Rattle.std.specs.Prelude.{◌≡◌, ℕ, List, [], if◌then◌else◌}
use Rattle.iso_model.specs.Terms.Trees.{Tree}
use Rattle.iso_model.specs.Search.Bodies.{Body, is_true}
use Rattle.iso_model.specs.Search.Databases as databases
use Rattle.iso_prep.specs.Trees as trees
use Rattle.iso_prep.specs.Classes.{goals_of}
use Rattle.iso_prep.specs.declared.bodies.Node.{Node}
use Rattle.iso_store_core.specs.declared.patterns.Pattern.{Pattern}
use Rattle.iso_program.specs.Kept.{IsTemplate}
use Rattle.iso_program.specs.Written.{IsPatternOf, IsWritten, term_in}
use Rattle.iso_plain_core.specs.declared.bodies.ClauseBody.{ClauseBody}
use Rattle.iso_plain_core.specs.Nodes.{ArePartsOf, EachGoal}

-- The pattern is written for one, where these are the names of the atoms.
pub record IsKeptGoal (names : List (List ℕ)) (n : ℕ) (g : Pattern) : Type 0 where
  pub written : IsWritten names g
  pub template : IsTemplate n (term_in names g)

-- the terms of the goals among the parts, in their order
abbrev pub goals_in : List (List ℕ) → List (Node Pattern) → List Tree
goals_in names = trees.goals_in (term_in names)

-- the goals that are kept of a clause's body: none of one that is `true` alone
abbrev pub kept_goals : Body → List Tree
kept_goals b = if is_true b then [] else goals_of b

-- The engine keeps the body of the database's clause so, where these are the names of the atoms.
pub record KeepsBody (names : List (List ℕ)) (kept : ClauseBody) (c : databases.Clause) : Type 0 where
  pub parts : ArePartsOf (IsPatternOf names) kept.parts.items c.body
  pub goals : goals_in names kept.parts.items ≡ kept_goals c.body
  pub goal_templates : EachGoal (IsKeptGoal names c.variables) kept.parts.items
