-- Laws of the code of bodies: what the search does with a goal, and what code does there; and how many cells it takes.
use Rattle.std.specs.Prelude.{◌≡◌, ℕ, ◌==◌, List, ◌∷◌, ◌++◌, length, if◌then◌else◌, ◌+◌, ◌≤◌, max, [], true, is_some}
use Rattle.iso_model.specs.Terms.Trees.{Tree}
use Rattle.iso_model.specs.Terms.Substitutions.{apply}
use Rattle.iso_model.specs.Terms.Copies.{renamed}
use Rattle.iso_model.specs.Search.Bodies.{Body, Cut, Run, And, Or, If, Choose}
use Rattle.iso_model.specs.Search.Walker as walker
use Rattle.iso_model.specs.Search.Walker.{State, AsIs, Goes, paid, run_value, pushed, cut_back, step_list, body_size}
use Rattle.iso_model.specs.Search.Databases.{key_of}
use Rattle.iso_alloc.specs.Plans.{Layout}
use Rattle.iso_compile.specs.declared.control.Mark.{Mark}
use Rattle.iso_compile.specs.declared.control.Mark.TheVariants.{Level, AboveLevel}
use Rattle.iso_compile.specs.Control.{Member, Goal, CutTo, height, members, AreOlder, goal_size, Continues, proceeds, executes, calls, answers, cuts, cuts_back, joins, tries, commits, chooses, jumps}
use Rattle.iso_compile.specs.declared.control.Instruction.{Instruction}
use Rattle.iso_compile.specs.Emitting.{arguments_cells}

-- the heights that slots keep, where this slot keeps this height
abbrev pub with_level : ℕ → ℕ → (ℕ → ℕ) → ℕ → ℕ
with_level k h kept j = if j == k then h else kept j

module _ (next called : ℕ) (kept : ℕ → ℕ) (others : List walker.Member) (s : State) where
  -- the search's list: members of this clause, and then the others
  abbrev list : List Member → List walker.Member
  list ms = members next called kept ms ++ others

  -- the same where this slot keeps the present height of the stack
  abbrev list_with : ℕ → List Member → List walker.Member
  list_with k ms = members next called (with_level k (length s.stack) kept) ms ++ others

  -- What the search does with the first member of the list is what code does with it: with a goal (`call`, `execute`
  -- and arithmetic), a cut (`cut`), a conjunction, a disjunction (`try_me_else`), an if-then (`get_level`), and an
  -- if-then-else (`get_level`, `try_me_else`). A slot may take a level where no member that follows needs its former one.
  pub record IsTaken (m : Mark) (ms : List Member) : Type 0 where
    pub goal : (t : Tree) → step_list (list (Goal (Run t) m ∷ ms)) s ≡ paid s.steps s (run_value (apply s.subst (renamed next t)) (list ms) s)
    pub cut : step_list (list (Goal Cut m ∷ ms)) s ≡ Goes (cut_back (height called kept m) (list ms) s)
    pub cut_to : step_list (list (CutTo m ∷ ms)) s ≡ Goes (cut_back (height called kept m) (list ms) s)
    pub conjunction : (x y : Body) → step_list (list (Goal (And x y) m ∷ ms)) s ≡ Goes (record s { list = list (Goal x m ∷ Goal y m ∷ ms) })
    pub disjunction : (x y : Body) → step_list (list (Goal (Or x y) m ∷ ms)) s ≡ Goes (record (pushed (list (Goal y m ∷ ms)) AsIs s) { list = list (Goal x m ∷ ms) })
    pub if_then : (k : ℕ) (x y : Body) → AreOlder k (Goal y m ∷ ms)
        → step_list (list (Goal (If x y) m ∷ ms)) s ≡ Goes (record s { list = list_with k (Goal x (Level k) ∷ CutTo (Level k) ∷ Goal y m ∷ ms) })
    pub if_then_else : (k : ℕ) (x y z : Body) → AreOlder k (Goal y m ∷ ms)
        → step_list (list (Goal (Choose x y z) m ∷ ms)) s
        ≡ Goes (record (pushed (list_with k (Goal z m ∷ ms)) AsIs s) { list = list_with k (Goal x (AboveLevel k) ∷ CutTo (Level k) ∷ Goal y m ∷ ms) })

abbrev pub MembersAreTaken : Type 0
MembersAreTaken = (next called : ℕ) (kept : ℕ → ℕ) (others : List walker.Member) (s : State) (m : Mark) (ms : List Member) → IsTaken next called kept others s m ms

-- ---- cells

-- how much the arguments of a body's goals count
abbrev pub goals_size : Body → ℕ
goals_size Cut = 0
goals_size (Run t) = goal_size t
goals_size (And x y) = goals_size x + goals_size y
goals_size (Or x y) = goals_size x + goals_size y
goals_size (If x y) = goals_size x + goals_size y
goals_size (Choose x y z) = goals_size x + (goals_size y + goals_size z)

abbrev pub members_size : List Member → ℕ
members_size [] = 0
members_size (Goal b m ∷ ms) = goals_size b + members_size ms
members_size (CutTo m ∷ ms) = members_size ms

-- how many cells the calls of code take, variables aside, on the way from here on that takes the most
abbrev pub cells_from : {plan : Layout} {code : List Instruction} {a : ℕ} {ms : List Member} → Continues plan code a ms → ℕ
cells_from (proceeds at) = 0
cells_from (executes {c = c} at is) = arguments_cells c.arguments
cells_from (calls {c = c} at is rest) = arguments_cells c.arguments + cells_from rest
cells_from (answers at comes rest) = cells_from rest
cells_from (cuts at rest) = cells_from rest
cells_from (cuts_back at rest) = cells_from rest
cells_from (joins inner) = cells_from inner
cells_from (tries at low here there) = max (cells_from here) (cells_from there)
cells_from (commits at above older here) = cells_from here
cells_from (chooses at next low above older here there) = max (cells_from here) (cells_from there)
cells_from (jumps at low there) = cells_from there

-- each goal has a name, as those of a converted body have
abbrev pub HaveNames : Body → Type 0
HaveNames Cut = Unit {0}
HaveNames (Run t) = is_some (key_of t) ≡ true
HaveNames (And x y) = HaveNames x × HaveNames y
HaveNames (Or x y) = HaveNames x × HaveNames y
HaveNames (If x y) = HaveNames x × HaveNames y
HaveNames (Choose x y z) = HaveNames x × HaveNames y × HaveNames z

-- On each way the calls of code take at most the cells that the goals count; and this is what a clause counts for them.
pub record CellsAreCounted : Type 0 where
  pub calls : (plan : Layout) (code : List Instruction) (a : ℕ) (ms : List Member) (h : Continues plan code a ms) → cells_from h ≤ members_size ms
  pub goals : (b : Body) → HaveNames b → goals_size b ≡ body_size b
