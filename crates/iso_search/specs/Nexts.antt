-- What the member that is next comes to: a goal of a procedure is called at once, any other member is left to the
-- moves.
use Rattle.std.specs.Prelude.{◌≡◌, ◌≢◌, ℕ, ◌<◌, ◌≤◌, true, Option, Some, None}
use Rattle.iso_model.specs.Terms.Trees.{Tree}
use Rattle.iso_model.specs.Terms.Substitutions.{apply}
use Rattle.iso_model.specs.Search.Bodies.{Run}
use Rattle.iso_model.specs.Search.Walker.{State, World, Goal}
use Rattle.iso_model.specs.Search.Engines.{IsAwake}
use Rattle.iso_model.specs.declared.pauses.Pause.TheVariants as pause
use Rattle.iso_db.specs.declared.keyed.KeyedView.{KeyedView}
use Rattle.iso_store_core.specs.Presents.{meaning}
use Rattle.iso_store_core.specs.declared.stores.Store.{Ghosts}
use Rattle.iso_search_core.specs.declared.lists.Lists as lists
use Rattle.iso_search_core.specs.declared.nows.Now.TheVariants as now
use Rattle.iso_program.specs.Leaving.{AreLeft}
use Rattle.iso_search_core.specs.Own.{own_of}
use Rattle.iso_search.specs.declared.calls.Called.TheVariants as call
use Rattle.iso_search.specs.declared.calls.NextGoal.{NextGoal}
use Rattle.iso_search.specs.declared.calls.Next.{Next}
use Rattle.iso_search.specs.declared.calls.Next.TheVariants as next
use Rattle.iso_search.specs.declared.search.Move.TheVariants as move
use Rattle.iso_search.specs.declared.search.Search.{Search}
use Rattle.iso_search.specs.Worlds.{IsWorld}
use Rattle.iso_search.specs.Called.{IsCalled}
use Rattle.iso_search.specs.EngineStates.{IsEngine, IsAtMember, StandsFor, Moves, phase_of}

module _ {S L W M K P C N B O : Type 0} (g : Ghosts S W M) (l : lists.Ghosts L S K P C N B O W M) where
  -- The engine, in this state, has this goal first, and the list from the place on behind it.
  pub record IsAtGoal (e : Search S L W M K P C N B O) (goal : W) (rest : P) (s : State) : Type 0 where
    pub term : Tree
    pub mark : ℕ
    pub at : IsAtMember g l e s (Goal (Run term) mark) rest
    pub holds : (g.present e.store).holds goal ≡ true
    pub value : apply s.subst term ≡ meaning (g.present e.store) goal

  -- It is the goal that comes first, and less is to be done behind it.
  pub record IsGoalFirst (e : Search S L W M K P C N B O) (goal : W) (rest : P) : Type 0 where
    pub first : N
    pub running : e.now ≡ now.Running first
    pub at : (s : State) → IsEngine g l e s → IsAtGoal e goal rest s
    pub less : l.cost e.lists rest < l.first_cost e.lists first

  -- The engine's next member is this goal, which calls this; it is no call of a procedure with clauses, unless no
  -- step is left. Where it calls a procedure, the view gives the clauses behind the first.
  pub record IsGoalNext (e : Search S L W M K P C N B O) (n : NextGoal W P) : Type 0 where
    pub is : IsGoalFirst e n.goal n.rest
    pub later : KeyedView
    pub called : (w : World) → IsWorld g l e w → IsCalled (AreLeft (own_of l) (g.names e.store) e.db) later w (meaning (g.present e.store) n.goal) n.called
    pub other : e.steps ≢ 0 → (clause : ℕ) → n.called ≢ call.User clause

  -- this goal is next; or what comes first is of those that the lists do by a step of their own
  abbrev pub IsNext : (L → N → Type 0) → Search S L W M K P C N B O → Option (NextGoal W P) → Type 0
  IsNext ByStep e (Some n) = IsGoalNext e n
  IsNext ByStep e None = (first : N) → e.now ≡ now.Running first → ByStep e.lists first

module _ {S L W M K P C N B O : Type 0} (g : Ghosts S W M) (l : lists.Ghosts L S K P C N B O W M) where
  -- the engine is this one then, of a state that was s, and this goal is next where it is left; its frames are full only
  -- where the first says so of the state and of how many there may be; the second says what the lists do by a step of
  -- their own
  abbrev pub ComesNext : (ℕ → State → Type 0) → (L → N → Type 0) → Next → Option (NextGoal W P) → State
      → Search S L W M K P C N B O → Type 0
  ComesNext Over ByStep next.Went asked s e = Moves g l move.Goes s e
  ComesNext Over ByStep next.Full asked s e = Moves g l (move.Pauses pause.FramesFull) s e × Over e.limit s
  ComesNext Over ByStep next.Other asked s e = StandsFor g l e s × IsAwake (phase_of e.now) × IsNext g l ByStep e asked

-- the engine went on, or its frames are full
abbrev pub WentOrFull : Next → Type 0
WentOrFull next.Other = ⊥
WentOrFull n = Unit {0}

-- what is left falls, where a procedure was called
abbrev pub FallsNext : Next → ℕ → ℕ → Type 0
FallsNext next.Went old new = new < old
FallsNext next.Full old new = Unit {0}
FallsNext next.Other old new = new ≤ old
