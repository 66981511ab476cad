-- What is left to do of an expression that is evaluated.
use Rattle.std.specs.Prelude.{◌≡◌, ◌<◌, ◌+◌, ◌*◌, ℕ, List, [], ◌∷◌, length, true, Result, Ok, MatchResult}
use Rattle.iso_atoms.specs.Texts.{EachOnce, text_at}
use Rattle.iso_model.specs.Terms.Trees.{Tree, Apply, count}
use Rattle.iso_model.specs.Terms.Sorts.{is_row}
use Rattle.iso_model.specs.Terms.Sizes.{size}
use Rattle.iso_model.specs.Search.Arithmetic.{Value, value, with_value}
use Rattle.iso_store_core.specs.Presents.{Present, Holds, meaning}
use Rattle.iso_arith.specs.declared.faults.EvalFault.{EvalFault}
use Rattle.iso_arith.specs.declared.evaluation.Task.{Task}
use Rattle.iso_arith.specs.declared.evaluation.Task.TheVariants.{Apply as Apply_task, Right, Combine}
use Rattle.iso_arith.specs.declared.evaluation.Next.{Next}
use Rattle.iso_arith.specs.declared.evaluation.Next.TheVariants as next
use Rattle.iso_arith.specs.Faults.{IsFault}
use Rattle.iso_arith.specs.Operations.{does_unary, does_binary}

-- The term is a compound of this name and so many arguments, where these are the names of the atoms.
pub record IsCall (names : List (List ℕ)) (name n : ℕ) (t : Tree) : Type 0 where
  pub once : EachOnce names
  pub named : name < length names
  pub arguments : Tree
  pub is : t ≡ Apply (text_at names name) arguments
  pub row : is_row arguments ≡ true
  pub counted : count arguments ≡ n
  pub few : n < 256

-- how much there is to do at most
abbrev pub term_load : Tree → ℕ
term_load t = 2 * size t

-- in a store that is so
module _ {W : Type 0} (p : Present W) where
  -- what the task speaks of is there
  abbrev pub IsTask : Task W → Type 0
  IsTask (Apply_task f) = Unit {0}
  IsTask (Right f w) = Holds p w
  IsTask (Combine f x) = Unit {0}

  abbrev pub IsNext : Next W → Type 0
  IsNext (next.Term w) = Holds p w
  IsNext (next.Value z) = Unit {0}

  -- what the task makes of a value
  abbrev pub task_value : Task W → Value → Value
  task_value (Apply_task f) v = with_value v (does_unary f)
  task_value (Right f w) v = with_value v (λ x. with_value (value (meaning p w)) (does_binary f x))
  task_value (Combine f x) v = with_value v (does_binary f x)

  -- what the tasks make of it, the last one first
  abbrev pub tasks_value : List (Task W) → Value → Value
  tasks_value [] v = v
  tasks_value (x ∷ xs) v = task_value x (tasks_value xs v)

  -- the value of what comes next
  abbrev pub next_value : Next W → Value
  next_value (next.Term w) = value (meaning p w)
  next_value (next.Value z) = Ok z

  -- The tasks make of what comes next what they made of this value, or the fault is why there is none.
  abbrev pub IsStep : List (List ℕ) → List (Task W) → List (Task W) → Result (Next W) EvalFault → Value → Type 0
  IsStep names old new r v = MatchResult r (λ n. tasks_value new (next_value n) ≡ tasks_value old v) (λ e. IsFault names e v)

  abbrev pub task_load : Task W → ℕ
  task_load (Apply_task f) = 1
  task_load (Right f w) = 2 + term_load (meaning p w)
  task_load (Combine f x) = 1

  abbrev pub tasks_load : List (Task W) → ℕ
  tasks_load [] = 0
  tasks_load (x ∷ xs) = task_load x + tasks_load xs

  abbrev pub next_load : Next W → ℕ
  next_load (next.Term w) = term_load (meaning p w)
  next_load (next.Value z) = 0
