-- The code of expressions: steps that leave values on a stack (ISO/IEC 13211-1:1995, 7.9, 9.1, 9.3, 9.4).
use Rattle.std.specs.Prelude.{◌≡◌, ◌<◌, ◌+◌, ◌*◌, ◌&&◌, map, ℕ, ℤ, List, [], ◌∷◌, ◌++◌, Bool, true, false, is_some, Result, Ok, Err}
use Rattle.std.specs.String.{string_bytes}
use Rattle.iso_model.specs.Terms.Trees.{Tree, Variable, Integer, Apply, End, More}
use Rattle.iso_model.specs.Terms.TermOf.{term_of}
use Rattle.iso_model.specs.Terms.Sizes.{size}
use Rattle.iso_model.specs.Terms.Substitutions.{Subst, apply}
use Rattle.iso_model.specs.Terms.Copies.{renamed}
use Rattle.iso_model.specs.Search.Errors.{key}
use Rattle.iso_model.specs.Search.Arithmetic.{Value, value, among, operations_of_one, operations_of_two, applied_one, applied_two, unbound}
use Rattle.iso_compile.specs.Table as table
use Rattle.iso_compile.specs.Emitted.{part_of, Marking}
use Rattle.iso_compile.specs.Emitting.{all_placed}
use Rattle.iso_alloc.specs.declared.places.Place.{Place}
use Rattle.iso_compile.specs.declared.instructions.Part.{Part}
use Rattle.iso_compile.specs.declared.expressions.Step as written
use Rattle.iso_compile.specs.declared.expressions.Step.TheVariants as step
use Rattle.iso_compile.specs.declared.expressions.Task as left
use Rattle.iso_compile.specs.declared.expressions.Task.TheVariants as task

-- a step: the value of a part, or an operation on the last value, or on the last two
pub data Step : Type 0 where
  Take : (p : table.Part) → Step
  One : (f : List ℕ) → Step
  Two : (f : List ℕ) → Step

-- goes on with a value; an error stays
abbrev pub on_value : Value → (ℤ → Result (List ℤ) Tree) → Result (List ℤ) Tree
on_value (Ok z) go = go z
on_value (Err e) go = Err e

-- The values that the steps leave, the last one first, or the first error. The clause's variables are numbered from
-- `next` on, under this substitution.
abbrev pub done : ℕ → Subst → List Step → List ℤ → Result (List ℤ) Tree
done next s [] zs = Ok zs
done next s (Take p ∷ ks) zs = on_value (value (apply s (table.part_term next (λ r. End) p))) (λ z. done next s ks (z ∷ zs))
done next s (One f ∷ ks) (z ∷ zs) = on_value (applied_one (among operations_of_one f) (Ok z) (key f 1)) (λ v. done next s ks (v ∷ zs))
done next s (Two f ∷ ks) (y ∷ x ∷ zs) = on_value (applied_two (among operations_of_two f) (Ok x) (Ok y) (key f 2)) (λ v. done next s ks (v ∷ zs))
done next s (k ∷ ks) zs = Err unbound

-- whether each functor in the expression is one of an operation
abbrev pub is_known : Tree → Bool
is_known (Variable n) = true
is_known (Integer z) = true
is_known (Apply f (More x End)) = is_some (among operations_of_one f) && is_known x
is_known (Apply f (More x (More y End))) = is_some (among operations_of_two f) && (is_known x && is_known y)
is_known t = false

-- the steps of an expression
abbrev pub steps_of : Tree → List Step
steps_of (Variable x) = Take (table.Place x) ∷ []
steps_of (Integer z) = Take (table.Number z) ∷ []
steps_of (Apply f (More x End)) = steps_of x ++ One f ∷ []
steps_of (Apply f (More x (More y End))) = steps_of x ++ (steps_of y ++ Two f ∷ [])
steps_of t = []

-- The steps of a known expression leave its value behind the others, or end with its error.
abbrev pub ExpressionsAreEvaluated : Type 0
ExpressionsAreEvaluated =
    (t : Tree) → is_known t ≡ true → (next : ℕ) (s : Subst) (ks : List Step) (zs : List ℤ)
    → done next s (steps_of t ++ ks) zs ≡ on_value (value (apply s (renamed next t))) (λ z. done next s ks (z ∷ zs))

-- ---- what was emitted

abbrev pub step_of : written.Step → Step
step_of (step.Value p) = Take (part_of p)
step_of (step.One f) = One (string_bytes f)
step_of (step.Two f) = Two (string_bytes f)

-- the steps of the tasks that are left, of which the last is done first
abbrev pub task_steps : left.Task → List Step
task_steps (task.Expression t) = steps_of (term_of t.now)
task_steps (task.One f) = One (string_bytes f.now) ∷ []
task_steps (task.Two f) = Two (string_bytes f.now) ∷ []

abbrev pub tasks_steps : List left.Task → List Step
tasks_steps [] = []
tasks_steps (t ∷ ts) = tasks_steps ts ++ task_steps t

abbrev pub task_known : left.Task → Bool
task_known (task.Expression t) = is_known (term_of t.now)
task_known t = true

abbrev pub tasks_known : List left.Task → Bool
tasks_known [] = true
tasks_known (t ∷ ts) = tasks_known ts && task_known t

-- how much there is to do at most
abbrev pub term_load : Tree → ℕ
term_load t = 1 + 2 * size t

abbrev pub task_load : left.Task → ℕ
task_load (task.Expression t) = term_load (term_of t.now)
task_load t = 1

abbrev pub tasks_load : List left.Task → ℕ
tasks_load [] = 0
tasks_load (t ∷ ts) = task_load t + tasks_load ts

-- The tasks become those of this expression, and then the former ones.
pub record Leaves (t : Tree) (old new : List left.Task) : Type 0 where
  pub steps : tasks_steps new ≡ steps_of t ++ tasks_steps old
  pub known : tasks_known new ≡ (tasks_known old && is_known t)
  pub load : tasks_load new < term_load t + tasks_load old

-- These steps are emitted next, or left to be: they are known where this says so, and so much is to do at most.
pub record Emits (js : List Step) (is : Bool) (many : ℕ) (old : List written.Step) (ts : List left.Task) (new : List written.Step) (us : List left.Task) : Type 0 where
  pub steps : map step_of new ++ tasks_steps us ≡ map step_of old ++ (js ++ tasks_steps ts)
  pub known : tasks_known us ≡ (tasks_known ts && is)
  pub load : tasks_load us < many + tasks_load ts

-- the parts whose values steps take
abbrev pub step_parts : List written.Step → List Part
step_parts [] = []
step_parts (step.Value p ∷ ks) = p ∷ step_parts ks
step_parts (k ∷ ks) = step_parts ks

-- The marks of these parts are right, where each variable that has a place has its value.
abbrev pub StepMarks : List Place → List written.Step → List Bool → Type 0
StepMarks places steps list = Marking places (all_placed places) (step_parts steps) list
