-- Catches and thrown balls, as the engine comes to them.
use Rattle.std.specs.Prelude.{◌≡◌, ℕ, suc, ◌+◌, ◌*◌, ◌<◌, ◌≤◌, List, ◌∷◌, length, true, Bool, Some, codes, ◌⊎◌}
use Rattle.std.specs.List.{slice_get}
use Rattle.iso_model.specs.Terms.Trees.{Tree, arities_fit}
use Rattle.iso_model.specs.Terms.TermOf.{term_of}
use Rattle.iso_model.specs.Terms.Arguments.{arity, argument}
use Rattle.iso_model.specs.Terms.Variables.{variable_count}
use Rattle.iso_model.specs.Terms.Substitutions.{Subst, apply, compose}
use Rattle.iso_model.specs.Terms.Unifiers.{Unifier, NeverEqual}
use Rattle.iso_model.specs.Terms.Copies.{copy_from}
use Rattle.iso_model.specs.Terms.Sizes.{size}
use Rattle.iso_model.specs.Search.Bodies.{Body, Run, one, body_term, map_body}
use Rattle.iso_model.specs.Search.Walker.{State, Member, Alternative, Goes, Ends, Goal, Leave, Raise, Meet, Catching, Uncaught, pushed, thrown, shortened}
use Rattle.iso_model.specs.declared.pauses.Ball.{Ball}
use Rattle.iso_lib_core.specs.Replies.{UnifiesCopy, MeetsCopy}
use Rattle.iso_store_core.specs.Presents.{Present, meaning}
use Rattle.iso_store_core.specs.declared.stores.Store.{Ghosts}
use Rattle.iso_search_core.specs.declared.lists.Lists as lists
use Rattle.iso_search_core.specs.declared.choices.Left.{Left}
use Rattle.iso_search_core.specs.declared.choices.Left.TheVariants as left
use Rattle.iso_search_core.specs.declared.choices.Choice as kept
use Rattle.iso_search.specs.declared.search.Move.{Move}
use Rattle.iso_search.specs.declared.search.Move.TheVariants as move
use Rattle.iso_search.specs.declared.search.Search.{Search}
use Rattle.iso_search_core.specs.Fitting.{FitsState}
use Rattle.iso_search_core.specs.Standing.{most_numbers, numbers_a_step}
use Rattle.iso_search.specs.EngineStates.{IsEngine, IsAhead, HasChoices, WasCalled, went_back}

-- The word is a goal of `catch/3`.
pub record IsCatchGoal {W : Type 0} (p : Present W) (goal : W) : Type 0 where
  pub holds : p.holds goal ≡ true
  pub three : arity (meaning p goal) ≡ 3

-- the goal that is run inside the catch, its catcher and its recovery
abbrev pub inside_of : {W : Type 0} → Present W → W → Tree
inside_of p goal = argument 0 (meaning p goal)

abbrev pub catcher_of : {W : Type 0} → Present W → W → Tree
catcher_of p goal = argument 1 (meaning p goal)

abbrev pub recovery_of : {W : Type 0} → Present W → W → Tree
recovery_of p goal = argument 2 (meaning p goal)

-- the ball is thrown, past the list
abbrev pub throwing : Tree → State → State
throwing ball s = record s { list = Raise ball ∷ s.list }

-- inside a catch with this catcher and this recovery, before the list
abbrev pub catching : Tree → Tree → State → State
catching catcher recovery s = record (pushed s.list (Catching catcher recovery) s) { list = Leave (length s.stack) ∷ s.list }

-- this body is run inside it
abbrev pub calling_inside : Body → Tree → Tree → State → State
calling_inside b catcher recovery s = record (catching catcher recovery s) { list = Goal b (suc (length s.stack)) ∷ Leave (length s.stack) ∷ s.list }

-- the newest of these alternatives is the entry of a catch, to which a ball thrown in this state goes
abbrev pub caught_by : Tree → Tree → Tree → Alternative → List Alternative → State → State
caught_by ball catcher recovery a below s = record (went_back a below s) { list = Meet ball catcher recovery ∷ a.list }

-- The ball, past these members, goes to the catch whose alternative stands at this height.
pub record GoesTo (ball : Tree) (behind : List Member) (s : State) (height : ℕ) : Type 0 where
  pub alternative : Alternative
  pub below : List Alternative
  pub catcher : Tree
  pub recovery : Tree
  pub stack : shortened (suc height) s.stack ≡ alternative ∷ below
  pub height_is : length below ≡ height
  pub within : height < length s.stack
  pub left : alternative.left ≡ Catching catcher recovery
  pub goes : thrown ball behind s ≡ Goes (caught_by ball catcher recovery alternative below s)

-- or nothing catches it
abbrev pub IsUncaught : Tree → List Member → State → Type 0
IsUncaught ball behind s = thrown ball behind s ≡ Ends (Uncaught ball) s.world

-- this goal is run, before the list
abbrev pub calling : Tree → State → State
calling t s = record s { list = Goal (Run t) (length s.stack) ∷ s.list }

-- what is left at a choice is the entry of a catch
abbrev pub IsEntry : {W C : Type 0} → Left W C → Type 0
IsEntry (left.Catching goal) = Unit {0}
IsEntry l = ⊥

-- A catch is entered at the choice of this height.
pub record IsCatchAt {W M K P C : Type 0} (choices : List (kept.Choice W M K P C)) (height : ℕ) : Type 0 where
  pub choice : kept.Choice W M K P C
  pub stands : slice_get choices height ≡ Some choice
  pub entry : IsEntry choice.left

-- A copy of the ball was unified with the catcher of this goal.
abbrev pub Unified : {W : Type 0} → Present W → Present W → W → Tree → Type 0
Unified p q goal ball = UnifiesCopy p q (catcher_of p goal) ball

-- the ball met the catcher of this goal: they were unified, or can't be
abbrev pub HasMet : {W : Type 0} → Present W → Present W → W → Tree → Bool → Type 0
HasMet p q goal ball answer = MeetsCopy p q (catcher_of p goal) ball answer

module _ {S L W M K P C N B O : Type 0} (g : Ghosts S W M) (l : lists.Ghosts L S K P C N B O W M) where
  -- The engine, in this state, is about to enter the catch that this goal calls, with its members from this place of
  -- the members on behind it.
  pub record EntersCatch (e : Search S L W M K P C N B O) (goal : W) (s : State) (place : P) : Type 0 where
    pub ahead : IsAhead g l e s place
    pub space : s.next + numbers_a_step * (e.steps + 1) ≤ most_numbers
    pub catches : IsCatchGoal (g.present e.store) goal

  -- The goal with this body is run inside the catch: the engine has a body of the same values. Or no choice may be made
  -- any more.
  abbrev pub RunsInside : Move → Search S L W M K P C N B O → Body → Tree → Tree → State → Type 0
  RunsInside move.Goes e b catcher recovery s =
      (own : Body) × (map_body s.subst own ≡ b) × WasCalled g l move.Goes e s (record (calling_inside own catcher recovery s) { built = s.built + size (body_term b) })
  RunsInside (move.Pauses p) e b catcher recovery s = WasCalled g l (move.Pauses p) e s s

  -- The engine, in this state, is about to have the ball that it keeps met by the catcher of this goal.
  pub record MeetsBall (e : Search S L W M K P C N B O) (goal : W) (ball : Tree) (s : State) (place : P) : Type 0 where
    pub ahead : IsAhead g l e s place
    pub space : s.next + numbers_a_step * (e.steps + 1) ≤ most_numbers
    pub catches : IsCatchGoal (g.present e.store) goal
    pub fits : arities_fit ball ≡ true
    pub kept : (b : Ball) × (e.raised ≡ Some b) × (term_of b.term.value ≡ ball)

  -- The engine, in this state, went back to the entry of the catch that this goal calls, whose catcher and recovery
  -- these are.
  pub record IsCaught (e : Search S L W M K P C N B O) (goal : W) (ball catcher recovery : Tree) (s : State) (place : P) : Type 0 where
    pub meets : MeetsBall e goal ball s place
    pub catcher_is : catcher ≡ catcher_of (g.present e.store) goal
    pub recovery_is : recovery ≡ recovery_of (g.present e.store) goal

  -- The engine, in this state, is about to call this recovery: its store fits with the two cells of that call.
  pub record Recovers (e : Search S L W M K P C N B O) (recovery : W) (s : State) (place : P) : Type 0 where
    pub ahead : IsAhead g l e s place
    pub fits : FitsState g (g.present e.store) (2 + l.pending e.lists place) s
    pub holds : (g.present e.store).holds recovery ≡ true

  -- The engine, in this state, is to run this goal first, which it has as a term of this value.
  pub record Calling (e : Search S L W M K P C N B O) (goal : Tree) (s : State) : Type 0 where
    pub term : Tree
    pub value : apply s.subst term ≡ goal
    pub engine : IsEngine g l e (calling term s)

  -- The engine's choices are this state's alternatives.
  abbrev pub HasStack : Search S L W M K P C N B O → State → Type 0
  HasStack e s = (query : Tree) × HasChoices g l e query s.stack

  -- The ball met the catcher of this goal, and is counted: its recovery is to be called, or the ball was thrown on.
  abbrev pub HasThrown : Search S L W M K P C N B O → Present W → W → Tree → State → Type 0
  HasThrown e p goal ball s =
      ((u : Subst) × Unifier (catcher_of p goal) (apply p.substitution (copy_from ball p.next)) u
      × Calling e (one (codes "call") (apply u (recovery_of p goal))) (record s { subst = compose s.subst u; next = s.next + variable_count ball; built = s.built + size ball }))
      ⊎ (NeverEqual (catcher_of p goal) (apply p.substitution (copy_from ball p.next)) × IsEngine g l e (throwing ball (record s { built = s.built + size ball })))
