-- The code of a body is emitted from its end on, part by part.
use Rattle.std.specs.Prelude.{◌≡◌, ◌≤◌, ◌+◌, ◌*◌, ◌++◌, ℕ, zero, suc, List, [], ◌∷◌, length, Option, Some, None}
use Rattle.std.specs.Borrow.{Bor}
use Rattle.iso_model.specs.declared.terms.Term.{Term}
use Rattle.iso_model.specs.Search.Bodies.{Body}
use Rattle.iso_model.specs.Search.Bodies as bodies
use Rattle.iso_prep.specs.declared.bodies.Node.{Node}
use Rattle.iso_prep.specs.Trees.{At, IsTree, IsBorrowed}
use Rattle.iso_alloc.specs.Plans.{Layout}
use Rattle.iso_compile.specs.declared.control.Mark.{Mark}
use Rattle.iso_compile.specs.declared.control.Mark.TheVariants.{Level, AboveLevel}
use Rattle.iso_compile.specs.declared.control.Instruction.{Instruction}
use Rattle.iso_compile.specs.declared.control.Instruction.TheVariants.{Proceed}
use Rattle.iso_compile.specs.declared.bodies.Next.{Next}
use Rattle.iso_compile.specs.declared.bodies.Task.{Task}
use Rattle.iso_compile.specs.declared.bodies.Task.TheVariants.{And, Or, Try, Condition, Commit, Then, Choose}
use Rattle.iso_compile.specs.Control.{Member, Goal, CutTo, AreOlder, Continues, Does}

-- the slots from this level on are free behind these members
pub record IsFree (plan : Layout) (level : ℕ) (ms : List Member) : Type 0 where
  pub above : plan.slots ≤ level
  pub older : AreOlder level ms

-- where code does the former members, it does the latter
abbrev pub Becomes : Layout → List Member → List Member → Type 0
Becomes plan ms ns = (code : List Instruction) (a : ℕ) → Continues plan code a ms → Continues plan code a ns

module _ (plan : Layout) (parts : List (Node (Bor Term))) (code : List Instruction) where
  -- Where the code so far does the former members, and the task is done, it does the latter.
  abbrev pub Turns : Task → List Member → List Member → Type 0
  Turns (And p m level) ms ns =
      (x : Body) × (y : Body) × (rest : List Member) × IsTree IsBorrowed parts p x × IsFree plan level (Goal y m ∷ rest) × (ms ≡ Goal y m ∷ rest) × Becomes plan (Goal (bodies.And x y) m ∷ rest) ns
  Turns (Or n) ms ns =
      (x : Body) × (y : Body) × (rest : List Member) × IsTree IsBorrowed parts n.part x × IsFree plan n.level (Goal y n.mark ∷ rest) × Continues plan code n.behind rest
      × (ms ≡ Goal y n.mark ∷ rest) × Becomes plan (Goal (bodies.Or x y) n.mark ∷ rest) ns
  Turns (Try l) ms ns =
      (x : Body) × (y : Body) × (m : Mark) × (rest : List Member) × Continues plan code l (Goal y m ∷ rest) × (ms ≡ Goal x m ∷ rest) × Becomes plan (Goal (bodies.Or x y) m ∷ rest) ns
  Turns (Condition p mark k) ms ns =
      (x : Body) × (rest : List Member) × IsTree IsBorrowed parts p x × IsFree plan (k + 1) (Goal x mark ∷ CutTo (Level k) ∷ rest) × (ms ≡ rest) × Becomes plan (Goal x mark ∷ CutTo (Level k) ∷ rest) ns
  Turns (Commit k) ms ns =
      (x : Body) × (y : Body) × (m : Mark) × (rest : List Member) × IsFree plan k (Goal y m ∷ rest)
      × (ms ≡ Goal x (Level k) ∷ CutTo (Level k) ∷ Goal y m ∷ rest) × Becomes plan (Goal (bodies.If x y) m ∷ rest) ns
  Turns (Then p n) ms ns =
      (x : Body) × (y : Body) × (z : Body) × (rest : List Member) × IsTree IsBorrowed parts p x × IsTree IsBorrowed parts n.part y × IsFree plan n.level (Goal z n.mark ∷ rest)
      × Continues plan code n.behind rest × (ms ≡ Goal z n.mark ∷ rest) × Becomes plan (Goal (bodies.Choose x y z) n.mark ∷ rest) ns
  Turns (Choose l k) ms ns =
      (x : Body) × (y : Body) × (z : Body) × (m : Mark) × (rest : List Member) × IsFree plan k (Goal y m ∷ rest) × Continues plan code l (Goal z m ∷ rest)
      × (ms ≡ Goal x (AboveLevel k) ∷ CutTo (Level k) ∷ Goal y m ∷ rest) × Becomes plan (Goal (bodies.Choose x y z) m ∷ rest) ns

  -- so where the tasks are done, the last one first
  abbrev pub Leads : List Task → List Member → List Member → Type 0
  Leads [] ms whole = ms ≡ whole
  Leads (t ∷ ts) ms whole = (ns : List Member) × Leads ts ms ns × Turns t ns whole

  -- with the part that is emitted next, or with the code so far, they come to this
  abbrev pub Works : List Task → Option Next → List Member → Type 0
  Works ts (Some n) whole =
      (b : Body) × (rest : List Member) × (ns : List Member) × IsTree IsBorrowed parts n.part b × IsFree plan n.level (Goal b n.mark ∷ rest) × Continues plan code n.behind rest
      × Becomes plan (Goal b n.mark ∷ rest) ns × Leads ts ns whole
  Works ts None whole = (ms : List Member) × Does plan code ms × Leads ts ms whole

-- Code was added behind the old one.
pub record Grown (old new : List Instruction) : Type 0 where
  pub more : List Instruction
  pub is : new ≡ old ++ more

-- An instruction was added that goes on at this address: behind it the code does what it did there.
pub record Adds (plan : Layout) (old new : List Instruction) (i : Instruction) (behind : ℕ) : Type 0 where
  pub top : ℕ
  pub long : length new ≡ suc (suc top)
  pub at : At new (suc top) i
  pub goes : (ms : List Member) → Continues plan old behind ms → Continues plan new top ms

-- the code ends with `proceed`, which is its first instruction
abbrev pub Ends : List Instruction → Type 0
Ends code = At code 0 Proceed

-- how much there is to do at most, for a part at this place
abbrev pub load : ℕ → ℕ
load zero = 8
load (suc k) = 8 * load k

abbrev pub task_load : Task → ℕ
task_load (And p m level) = 1 + load p
task_load (Or n) = 2 + load n.part
task_load (Try l) = 1
task_load (Condition p m k) = 1 + load p
task_load (Commit k) = 1
task_load (Then p n) = 3 + (load p + load n.part)
task_load (Choose l k) = 1

abbrev pub tasks_load : List Task → ℕ
tasks_load [] = 0
tasks_load (t ∷ ts) = task_load t + tasks_load ts

abbrev pub next_load : Option Next → ℕ
next_load (Some n) = load n.part
next_load None = 0
