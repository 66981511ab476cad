-- A converted body is read from its term, part by part.
use Rattle.std.specs.Prelude.{◌≡◌, ℕ, ◌+◌, ◌*◌, List, [], ◌∷◌, ◌++◌, Bool, true, false, Option, Some, None}
use Rattle.std.specs.Borrow.{Bor}
use Rattle.iso_model.specs.declared.terms.Term.{Term}
use Rattle.iso_model.specs.Terms.Trees.{Tree, Name, Apply, End, More}
use Rattle.iso_model.specs.Terms.TermOf.{term_of}
use Rattle.iso_model.specs.Terms.Sizes.{size}
use Rattle.iso_model.specs.Search.Bodies as bodies
use Rattle.iso_model.specs.Search.Bodies.{Body, Run, two, converted_name}
use Rattle.iso_prep.specs.declared.connectives.Connective.{Connective}
use Rattle.iso_prep.specs.declared.connectives.Connective.TheVariants as connective
use Rattle.iso_prep.specs.Connectives.{connective_of, join_of, control_of}
use Rattle.iso_prep.specs.declared.bodies.Node.{Node}
use Rattle.iso_prep.specs.declared.bodies.Node.TheVariants as node
use Rattle.iso_prep.specs.declared.constructs.Task.{Task}
use Rattle.iso_prep.specs.declared.constructs.Task.TheVariants.{Second, Join, Next, Other, Choose}
use Rattle.iso_prep.specs.Trees.{IsTree, EndsWith, IsBorrowed, borrowed, goals_in}
use Rattle.iso_prep.specs.Classes.{goals_of}

-- two parts joined by a connective, and else the whole as a goal
abbrev pub read_joined : Option Connective → Body → Body → Tree → Body
read_joined (Some k) a b whole = join_of k a b
read_joined None a b whole = Run whole

-- the body that a term is, where no part of it needs to be converted
abbrev pub read : Tree → Body
read (Name a) = converted_name a
read (Apply f (More a (More b End))) = read_joined (connective_of f) (read a) (read b) (two f a b)
read t = Run t

-- two parts joined where the first is no if-then
abbrev pub plain_join : Connective → Body → Body → Body
plain_join connective.And = bodies.And
plain_join connective.Or = bodies.Or
plain_join connective.If = bodies.If

abbrev pub is_if : Option Connective → Bool
is_if (Some connective.If) = true
is_if k = false

-- The connective and its first part are no if-then-else's.
abbrev pub NoChoice : Connective → Tree → Type 0
NoChoice connective.Or a = is_if (control_of a) ≡ false
NoChoice k a = Unit {0}

-- The part without parts is this body.
abbrev pub IsLeaf : Node (Bor Term) → Body → Type 0
IsLeaf node.Cut b = b ≡ bodies.Cut
IsLeaf (node.Run g) b = b ≡ Run (term_of g.now)
IsLeaf c b = ⊥

-- What the task makes of the body that the last part is.
abbrev pub Does : List (Node (Bor Term)) → Task → Body → Body → Type 0
Does parts (Second k t) b r = r ≡ plain_join k b (read (term_of t.now))
Does parts (Join k i) b r = (a : Body) × IsTree IsBorrowed parts i a × (r ≡ plain_join k a b)
Does parts (Next t e) b r = r ≡ bodies.Choose b (read (term_of t.now)) (read (term_of e.now))
Does parts (Other i e) b r = (a : Body) × IsTree IsBorrowed parts i a × (r ≡ bodies.Choose a b (read (term_of e.now)))
Does parts (Choose i j) b r = (a : Body) × (c : Body) × IsTree IsBorrowed parts i a × IsTree IsBorrowed parts j c × (r ≡ bodies.Choose a c b)

-- What the tasks make of it, the last one first.
abbrev pub Leads : List (Node (Bor Term)) → List Task → Body → Body → Type 0
Leads parts [] b whole = b ≡ whole
Leads parts (x ∷ xs) b whole = (m : Body) × Leads parts xs b m × Does parts x m whole

-- With a term that is read next, or else with the last part, they make this body.
abbrev pub Works : List (Node (Bor Term)) → List Task → Option (Bor Term) → Body → Type 0
Works parts tasks (Some t) whole = Leads parts tasks (read (term_of t.now)) whole
Works parts tasks None whole = (b : Body) × EndsWith IsBorrowed parts b × Leads parts tasks b whole

-- how much there is to do at most
abbrev pub task_load : Task → ℕ
task_load (Second k t) = 3 + 4 * size (term_of t.now)
task_load (Join k i) = 1
task_load (Next t e) = 7 + 4 * size (term_of t.now) + 4 * size (term_of e.now)
task_load (Other i e) = 5 + 4 * size (term_of e.now)
task_load (Choose i j) = 1

abbrev pub tasks_load : List Task → ℕ
tasks_load [] = 0
tasks_load (x ∷ xs) = task_load x + tasks_load xs

abbrev pub next_load : Option (Bor Term) → ℕ
next_load (Some t) = 1 + 4 * size (term_of t.now)
next_load None = 0

-- the goals of what is still to be read for the task
abbrev pub task_goals : Task → List Tree
task_goals (Second k t) = goals_of (read (term_of t.now))
task_goals (Join k i) = []
task_goals (Next t e) = goals_of (read (term_of t.now)) ++ goals_of (read (term_of e.now))
task_goals (Other i e) = goals_of (read (term_of e.now))
task_goals (Choose i j) = []

-- the last task is done first
abbrev pub tasks_goals : List Task → List Tree
tasks_goals [] = []
tasks_goals (x ∷ xs) = tasks_goals xs ++ task_goals x

abbrev pub next_goals : Option (Bor Term) → List Tree
next_goals (Some t) = goals_of (read (term_of t.now))
next_goals None = []

-- the goals that were read, and then those that are still to be read
abbrev pub all_goals : List (Node (Bor Term)) → List Task → Option (Bor Term) → List Tree
all_goals parts tasks next = goals_in borrowed parts ++ (next_goals next ++ tasks_goals tasks)
