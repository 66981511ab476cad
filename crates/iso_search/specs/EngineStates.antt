-- Which states of the search the engine stands for, what its moves come to, and by what they fall.
use Rattle.std.specs.Prelude.{◌≡◌, ℕ, Bool, suc, ◌+◌, ◌*◌, ◌-◌, ◌<◌, ◌≤◌, List, [], ◌∷◌, length, map, take, Some, option_map, ◌⊎◌}
use Rattle.std.specs.List.{slice_get}
use Rattle.iso_model.specs.Terms.Trees.{Tree, Variable}
use Rattle.iso_model.specs.Terms.Variables.{variables}
use Rattle.iso_model.specs.Terms.Substitutions.{Subst}
use Rattle.iso_model.specs.Search.RunLaws.Sameness.{Same, SameList, SameStack, IsTwice}
use Rattle.iso_model.specs.Search.RunLaws.Thinness.{ThinStack}
use Rattle.iso_model.proofs.Search.RunLaws.Likeness.{Alike}
use Rattle.iso_model.specs.Terms.TermOf.{term_of}
use Rattle.iso_model.specs.Search.Clashes.{EachEnters}
use Rattle.iso_model.specs.Search.Databases.{Clause}
use Rattle.iso_model.specs.Search.Walker.{query_size, State, World, Alternative, Member, Goal, CutTo, Fail, AsIs, Clauses, pushed, with_others}
use Rattle.iso_model.specs.Search.Bodies.{Body}
use Rattle.iso_model.specs.Search.Runs.{Quiet}
use Rattle.iso_model.specs.Search.Engines as engines
use Rattle.iso_model.specs.Search.Engines.{Phase, Ready, Midway, IsAwake}
use Rattle.iso_model.specs.declared.pauses.Pause.TheVariants as pause
use Rattle.iso_model.specs.declared.limit.Limit.TheVariants as limit
use Rattle.iso_store_core.specs.Presents.{Present}
use Rattle.iso_store_core.specs.declared.stores.Store.{Ghosts}
use Rattle.iso_program.specs.Leaving.{Leaving, AreLeft}
use Rattle.iso_search_core.specs.Own.{own_of}
use Rattle.iso_search_core.specs.declared.lists.Lists as lists
use Rattle.iso_search_core.specs.declared.choices.Attempt.{Attempt}
use Rattle.iso_search_core.specs.declared.choices.Choice as kept
use Rattle.iso_search_core.specs.declared.nows.Now.{Now}
use Rattle.iso_search_core.specs.declared.nows.Now.TheVariants as now
use Rattle.iso_search_core.specs.Bodies.{whole_cost}
use Rattle.iso_search_core.specs.Costs.{choices_cost, now_cost, now_pending}
use Rattle.iso_search_core.specs.Fitting.{FitsAhead, FitsLeft, FitsState}
use Rattle.iso_search_core.specs.Standing.{Among, HasLeft, OnList, IsBelow, StandsForChoices, HaveRoom, GoesOn, DoesNext, most_numbers, numbers_a_step}
use Rattle.iso_search.specs.Worlds.{IsWorld}
use Rattle.iso_search.specs.declared.search.Move.{Move}
use Rattle.iso_search.specs.declared.search.Move.TheVariants as move
use Rattle.iso_search.specs.declared.search.Search.{Search}

-- The mark of this store brings back an empty one.
pub record IsBase {S W M : Type 0} (g : Ghosts S W M) (store : S) (base : M) : Type 0 where
  pub present : Present W
  pub stands_for : g.stands store base present
  pub substitution : present.substitution ≡ Variable
  pub next : present.next ≡ 0
  pub cells : present.cells ≡ 0
  pub variables : present.variables ≡ 0

-- the state behind failure, at which this alternative is tried
abbrev pub went_back : Alternative → List Alternative → State → State
went_back a below s = record s { list = a.list; subst = a.subst; next = a.next; built = a.built; stack = below }

-- this body is run before the list
abbrev pub calling_body : Body → State → State
calling_body b s = record s { list = Goal b (length s.stack) ∷ s.list }

-- this body is run before the list, for its first solution; or so that the list is gone on with where it has none
abbrev pub calling_once : Body → State → State
calling_once b s = record s { list = Goal b (length s.stack) ∷ CutTo (length s.stack) ∷ s.list }

abbrev pub refuting : Body → State → State
refuting b s = record (pushed s.list AsIs s) { list = Goal b (suc (length s.stack)) ∷ CutTo (length s.stack) ∷ Fail ∷ s.list }

-- the phase of an engine
abbrev pub phase_of : {N P : Type 0} → Now N P → Phase
phase_of now.Idle = Ready
phase_of now.Failing = Ready
phase_of now.Answering = Midway
phase_of (now.Running first) = Midway
phase_of (now.Raising place) = Midway
phase_of (now.Spent limit) = engines.Spent limit

-- Under the two substitutions the goals of the state and the variables of its query have the same values, and so have
-- the numbers that aren't used.
pub record SameUnder (own u : Subst) (s : State) : Type 0 where
  pub goals : SameList own u s.list s.list
  pub shown : map own (variables s.query) ≡ map u (variables s.query)
  pub beyond : (n : ℕ) → s.next ≤ n → own n ≡ u n
  pub twice : IsTwice own

-- The first alternatives are the same as some that are thin beside the second, which are for a query with these
-- variables.
pub record AlikeStack (stack : List Alternative) (shown : List ℕ) (others : List Alternative) : Type 0 where
  pub named : List ℕ
  pub middle : List Alternative
  pub keeps : List Bool
  pub same : SameStack named shown stack middle
  pub thin : ThinStack keeps middle others

-- what comes next, where these are the members that are left from this place on; goals are to take no more cells than
-- from there on
abbrev pub IsBehind : {S L W M K P C N B O : Type 0} → lists.Ghosts L S K P C N B O W M → Present W → L → P → Now N P → List Member → Type 0
IsBehind l p held place now.Answering ms = ms ≡ []
IsBehind l p held place (now.Running first) ms = l.first p held first ms × (l.first_pending held first ≤ l.pending held place)
IsBehind l p held place other ms = ⊥

module _ {S L W M K P C N B O : Type 0} (g : Ghosts S W M) (l : lists.Ghosts L S K P C N B O W M) where
  -- the clauses that are left by a number and a view
  abbrev pub leaves_of : Search S L W M K P C N B O → Leaving
  leaves_of e = AreLeft (own_of l) (g.names e.store) e.db

  -- The engine's choices are these alternatives, for this query.
  abbrev pub HasChoices : Search S L W M K P C N B O → Tree → List Alternative → Type 0
  HasChoices e query ks =
      StandsForChoices l (g.stands e.store) g.older e.base (leaves_of e) e.query.items (variables query) (FitsLeft g (query_size query)) e.lists e.choices.items ks

  -- The engine's parts are this state of the search, and its store fits what was built there.
  pub record IsEngine (e : Search S L W M K P C N B O) (s : State) : Type 0 where
    pub world : IsWorld g l e s.world
    pub steps : s.steps ≡ e.steps
    pub base : IsBase g e.store e.base
    pub choices : HasChoices e s.query s.stack
    pub room : HaveRoom e.steps s.stack
    pub fits : FitsState g (g.present e.store) (now_pending (l.first_pending e.lists) e.now) s
    pub next : DoesNext l (g.present e.store) e.lists e.query.items e.now (option_map (λ b. term_of b.term.value) e.raised) s

  -- The engine is awake and is a state that is alike this one: the same as one that is thin beside it. So the engine
  -- may lack alternatives that the search has.
  pub record Represents (e : Search S L W M K P C N B O) (s : State) : Type 0 where
    pub own : State
    pub engine : IsEngine e own
    pub same : Alike own s

  -- The engine is a state that is the same as this one, where this one is the same as itself.
  pub record StandsAs (e : Search S L W M K P C N B O) (s : State) : Type 0 where
    pub own : State
    pub engine : IsEngine e own
    pub same : Same s s → Same own s

  -- Of an engine that was stopped within a move its world and its choices are left, each with what it brings back.
  abbrev pub Keeps : Search S L W M K P C N B O → World → List Alternative → Type 0
  Keeps e w ks = IsWorld g l e w × IsBase g e.store e.base × ((query : Tree) × HasChoices e query ks)

  -- So the world and the alternatives of this state, and its store fits what was built there.
  abbrev pub Remains : Search S L W M K P C N B O → State → Type 0
  Remains e s = Keeps e s.world s.stack × FitsState g (g.present e.store) 0 s

  -- A spent engine stands for a state from which the search came, without an event, to one that has this world and
  -- these alternatives; where a goal was not started, or a clause was not shown whole, none is left.
  pub record Stopped (e : Search S L W M K P C N B O) (s : State) : Type 0 where
    pub at : State
    pub quiet : Quiet s at
    pub stack : List Alternative
    pub keeps : Keeps e at.world stack
    pub alternatives : AlikeStack stack (variables at.query) at.stack ⊎ (stack ≡ [])

  -- A move from this state was refused: the engine is stopped, and its store fits a state that is ahead.
  pub record Refused (e : Search S L W M K P C N B O) (s : State) : Type 0 where
    pub stopped : Stopped e s
    pub fits : FitsAhead g (g.present e.store) s

  abbrev pub StandsBy : Now N P → Search S L W M K P C N B O → State → Type 0
  StandsBy (now.Spent limit) e s = Stopped e s
  StandsBy now.Idle e s = Represents e s
  StandsBy now.Failing e s = Represents e s
  StandsBy now.Answering e s = Represents e s
  StandsBy (now.Running first) e s = Represents e s
  StandsBy (now.Raising place) e s = Represents e s

  -- the states that the engine stands for
  abbrev pub StandsFor : Search S L W M K P C N B O → State → Type 0
  StandsFor e s = StandsBy e.now e s

  -- The engine, in this state, has its members from this place of its lists on.
  pub record IsAhead (e : Search S L W M K P C N B O) (s : State) (place : P) : Type 0 where
    pub world : IsWorld g l e s.world
    pub steps : s.steps ≡ e.steps
    pub base : IsBase g e.store e.base
    pub choices : HasChoices e s.query s.stack
    pub room : HaveRoom e.steps s.stack
    pub fits : FitsState g (g.present e.store) (l.pending e.lists place) s
    pub goes : GoesOn (g.present e.store) e.query.items s
    pub chain : l.list (g.present e.store) e.lists (l.whole e.lists) place s.list

  -- The engine, in this state, has this member first, and those from the place on behind it.
  pub record IsAtMember (e : Search S L W M K P C N B O) (s : State) (member : Member) (place : P) : Type 0 where
    pub behind : List Member
    pub list : s.list ≡ member ∷ behind
    pub ahead : IsAhead e (record s { list = behind }) place

  -- The engine, in this state, is about to try the first of these clauses for a call, before the list from the place on.
  -- The call may enter each of them, as first arguments show.
  pub record Calls (e : Search S L W M K P C N B O) (attempt : Attempt C) (rest : P) (s : State) (call : Tree) (c : Clause) (cs : List Clause) (behind : List Member) : Type 0 where
    pub ahead : IsAhead e (record s { list = behind }) rest
    pub space : s.next + numbers_a_step * (e.steps + 1) ≤ most_numbers
    pub is_for : l.call (g.present e.store) e.lists (l.whole e.lists) attempt.call call
    pub clauses : leaves_of e attempt.clause attempt.later (c ∷ cs)
    pub enter : EachEnters call (c ∷ cs)

  -- The engine, in this state, went back to its newest choice, which is still there, and stands for this alternative.
  pub record WentBack (e : Search S L W M K P C N B O) (c : kept.Choice W M K P C) (s : State) (a : Alternative) (below : List Alternative) : Type 0 where
    pub world : IsWorld g l e s.world
    pub steps : s.steps ≡ e.steps
    pub base : IsBase g e.store e.base
    pub mark : g.stands e.store c.mark (g.present e.store)
    pub newest : slice_get e.choices.items (length e.choices.items - 1) ≡ Some c
    pub all_kept : c.kept ≡ l.whole e.lists
    pub on : OnList l (g.present e.store) e.lists c.kept e.query.items (variables s.query) c.rest a.list a.subst a.next
    pub has : HasLeft (leaves_of e) (l.call (g.present e.store) e.lists c.kept) (g.present e.store) c.left a
    pub newer_base : g.older e.base c.mark
    pub within : l.within e.lists c.kept
    pub newer : (d : kept.Choice W M K P C) → Among d (take (length e.choices.items - 1) e.choices.items) → IsBelow l g.older d c
    pub fits : FitsLeft g (query_size s.query) (g.present e.store) (l.pending e.lists c.rest) a
    pub stands_below : StandsForChoices l (g.stands e.store) g.older e.base (leaves_of e) e.query.items (variables s.query) (FitsLeft g (query_size s.query)) e.lists (take (length e.choices.items - 1) e.choices.items) below
    pub room : HaveRoom e.steps (a ∷ below)

  -- The engine, in this state, is about to try the next clause of its newest alternative.
  pub record Retries (e : Search S L W M K P C N B O) (attempt : Attempt C) (rest : P) (s : State) (a : Alternative) (below : List Alternative) : Type 0 where
    pub call : Tree
    pub clause : Clause
    pub others : List Clause
    pub left : a.left ≡ Clauses call (clause ∷ others)
    pub calls : Calls e attempt rest (with_others call others a.list (went_back a below s)) call clause others a.list

  -- A call was refused: before its later clauses became a choice, or behind that.
  abbrev pub WasRefused : Search S L W M K P C N B O → State → State → Type 0
  WasRefused e s pushed = Remains e s ⊎ Remains e pushed

  -- what a move comes to, from a state of the search
  abbrev pub Moves : Move → State → Search S L W M K P C N B O → Type 0
  Moves move.Goes s e = (t : State) × Quiet s t × Represents e t × IsAwake (phase_of e.now)
  Moves (move.Pauses p) s e = engines.Pauses s p (StandsFor e) (phase_of e.now)

  -- what a call comes to: the clause was tried, or the engine is spent since no choice may be made any more; then it
  -- keeps what it had
  abbrev pub WasCalled : Move → Search S L W M K P C N B O → State → State → Type 0
  WasCalled move.Goes e s t = IsEngine e t × IsAwake (phase_of e.now)
  WasCalled (move.Pauses p) e s t = (p ≡ pause.FramesFull) × (e.now ≡ now.Spent limit.Frames) × Keeps e s.world s.stack

  -- what trying clauses comes to, alike: the engine is a state that is the same
  abbrev pub WasTried : Move → Search S L W M K P C N B O → State → State → Type 0
  WasTried move.Goes e s t = StandsAs e t × IsAwake (phase_of e.now)
  WasTried (move.Pauses p) e s t = WasCalled (move.Pauses p) e s t

-- ---- what falls

module _ {S L W M K P C N B O : Type 0} (l : lists.Ghosts L S K P C N B O W M) where
  -- what is to be done at the choices, and in all before the next step
  abbrev pub kept_cost : Search S L W M K P C N B O → ℕ
  kept_cost e = choices_cost (l.cost e.lists) e.choices.items

  abbrev pub cost : Search S L W M K P C N B O → ℕ
  cost e = kept_cost e + now_cost (l.first_cost e.lists) e.now

  -- at the choices, and from this place of the lists on
  abbrev pub cost_from : Search S L W M K P C N B O → P → ℕ
  cost_from e place = kept_cost e + l.cost e.lists place

  -- A number that falls at each move.
  abbrev pub weight : Search S L W M K P C N B O → ℕ
  weight e = whole_cost e.steps (cost e)

-- a move that goes on, and one that gives an event, make it fall
abbrev pub Falls : Move → ℕ → ℕ → Type 0
Falls move.Goes old new = new < old
Falls (move.Pauses p) old new = engines.FallsAtEvent p old new
