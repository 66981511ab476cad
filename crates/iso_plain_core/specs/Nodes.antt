-- Converted bodies as lists of parts, each part before what it is a part of.
use Rattle.std.specs.Prelude.{◌≡◌, List, [], ◌∷◌, MatchBool}
use Rattle.iso_model.specs.Terms.Trees.{Tree}
use Rattle.iso_model.specs.Search.Bodies.{Body, is_true}
use Rattle.iso_prep.specs.declared.bodies.Node.{Node}
use Rattle.iso_prep.specs.declared.bodies.Node.TheVariants as node
pub use Rattle.iso_prep.specs.Trees.{At, IsTree, runs, cuts, joins, branches, commits, chooses, EndsWith, IsAlike}

-- These are the parts of the body; one that is `true` alone has none.
abbrev pub ArePartsOf : {G : Type 0} → (G → Tree → Type 0) → List (Node G) → Body → Type 0
ArePartsOf Stands parts b = MatchBool (is_true b) (parts ≡ []) (EndsWith Stands parts b)

-- The parts are alike, one by one.
abbrev pub AreAlike : {G H : Type 0} → (G → H → Type 0) → List (Node G) → List (Node H) → Type 0
AreAlike R [] [] = Unit {0}
AreAlike R (part ∷ parts) (other ∷ others) = IsAlike R part other × AreAlike R parts others
AreAlike R parts others = ⊥

-- what holds of the part where it is a goal
abbrev pub IfGoal : {G : Type 0} → (G → Type 0) → Node G → Type 0
IfGoal P (node.Run g) = P g
IfGoal P part = Unit {0}

-- it holds of each goal among the parts
abbrev pub EachGoal : {G : Type 0} → (G → Type 0) → List (Node G) → Type 0
EachGoal P [] = Unit {0}
EachGoal P (part ∷ parts) = IfGoal P part × EachGoal P parts
