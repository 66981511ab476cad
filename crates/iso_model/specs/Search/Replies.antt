-- What goals of built-ins come to (ISO/IEC 13211-1:1995, 7.8 and 8).
use Rattle.std.specs.Prelude.{ℕ, List, Bool}
use Rattle.iso_ops.specs.Operators.{Operator}
use Rattle.iso_model.specs.Terms.Trees.{Tree}
use Rattle.iso_model.specs.Search.Bodies.{Body}
use Rattle.iso_model.specs.Search.Worlds.{World}
use Rattle.iso_model.specs.Search.Settlements.{Settled}

-- How the solutions of a bagof/3 or setof/3 come: for each group, the witness is unified with those of the group, and
-- then the result with the list of its items, which setof/3 sorts first (8.10.2, 8.10.3).
pub record Grouping : Type 0 where
  pub witness : Tree
  pub result : Tree
  pub sorts : Bool

-- What the copies of solutions are gathered for: the result is unified with their list (8.10.1), or they come in
-- groups.
pub data Collecting : Type 0 where
  AsList : (result : Tree) → Collecting
  InGroups : (by : Grouping) → Collecting

-- what a goal of a built-in comes to
pub data Reply : Type 0 where
  Fails : Reply
  Succeeds : Reply
  -- the two terms are unified, and so much is made for it (own)
  Equates : (made : ℕ) → (left : Tree) → (right : Tree) → Reply
  -- the left term is unified with a copy of the right one, which has new variables
  EquatesCopy : (left : Tree) → (right : Tree) → Reply
  -- this error is thrown
  Raises : (error : Tree) → Reply
  -- this goal is run, and a cut in it is local to it
  Calls : (goal : Body) → Reply
  -- the same, for its first solution
  CallsOnce : (goal : Body) → Reply
  -- the same, and it succeeds where the goal has no solution
  Refutes : (goal : Body) → Reply
  -- it succeeds each time that it is tried
  Repeats : Reply
  -- a goal is run, or an error thrown, inside a catch with this catcher and this recovery
  Catches : (inside : Reply) → (catcher : Tree) → (recovery : Tree) → Reply
  -- this goal is run for all of its solutions, and copies of the template are gathered, one for each
  Gathers : (template : Tree) → (goal : Body) → (collecting : Collecting) → Reply
  -- the search ends with this status
  Halts : (status : ℕ) → Reply
  -- what it comes to rests on the next variable number and on the world
  AsksWorld : (settles : ℕ → World → Settled) → Reply
  -- these bytes are written, which the operators decide
  Writes : (bytes : List Operator → List ℕ) → Reply

-- what a goal of a built-in comes to that runs no goal
pub data Answer : Type 0 where
  Fail : Answer
  Succeed : Answer
  Equate : (made : ℕ) → (left : Tree) → (right : Tree) → Answer
  EquateCopy : (left : Tree) → (right : Tree) → Answer
  Raise : (error : Tree) → Answer

abbrev pub answered : Answer → Reply
answered Fail = Fails
answered Succeed = Succeeds
answered (Equate made a b) = Equates made a b
answered (EquateCopy a b) = EquatesCopy a b
answered (Raise error) = Raises error
