-- A choice for the later clauses of a call that is not pushed yet, and engines that have it.
use Rattle.std.specs.Prelude.{◌≡◌, ◌≤◌, ◌+◌, ℕ, List, [], ◌∷◌, ◌++◌, length, Option, Result, Ok, Err, OnErr, Vec}
use Rattle.std.specs.Global.{Global}
use Rattle.iso_model.specs.Terms.Trees.{Tree}
use Rattle.iso_model.specs.Search.Databases as databases
use Rattle.iso_model.specs.Search.Engines.{IsAwake}
use Rattle.iso_model.specs.Search.Walker.{State, Alternative, Member, tried, tried_clause, with_others}
use Rattle.iso_db.specs.declared.keyed.KeyedView.{KeyedView}
use Rattle.iso_store_core.specs.declared.shapes.StoreFault.{StoreFault}
use Rattle.iso_store_core.specs.declared.shapes.StoreFault.TheVariants as fault
use Rattle.iso_store_core.specs.declared.stores.Store.{Ghosts}
use Rattle.iso_frames.specs.declared.frames.Rest.{Rest}
use Rattle.iso_search_core.specs.Bodies.{body_cost, left_cost, most}
use Rattle.iso_search_core.specs.declared.choices.Attempt.{Attempt}
use Rattle.iso_search_core.specs.declared.choices.Choice.{Choice}
use Rattle.iso_search_core.specs.declared.choices.Left.TheVariants as left
use Rattle.iso_search_core.specs.declared.nows.Now.TheVariants as now
use Rattle.iso_search.specs.declared.calls.Next.TheVariants as calls
use Rattle.iso_search.specs.EngineStates.{Remains, Represents, Retries, StandsAs, WasRefused, cost, kept_cost, phase_of}
use Rattle.iso_search.specs.Stays.{Stays}
use Rattle.iso_machine.specs.declared.framed.Extent.{Extent}
use Rattle.iso_machine.specs.declared.framed.Framed.{Framed}
use Rattle.iso_machine.specs.declared.framed.KeptCall.{KeptCall}
use Rattle.iso_machine.specs.declared.shallow.Unpushed.{Unpushed}
use Rattle.iso_machine.specs.declared.calling.Gone.{Gone}
use Rattle.iso_machine.specs.declared.calling.Gone.TheVariants as gone
use Rattle.iso_machine.specs.Came.{CameTo}
use Rattle.iso_machine.specs.Engines.{Engine, framed}
use Rattle.iso_machine.specs.GoalCalls.{CallsPut}
use Rattle.iso_machine.specs.LastCalls.{GoesLast}
use Rattle.iso_machine.specs.Lists.{arguments_at, cost_at}

-- choices of the machine
abbrev pub Choices : Type 0 → Type 0 → Type 0
Choices W M = Vec (Choice W M Extent (Option Rest) KeptCall) Global

-- the choice, with the clauses that this view gives behind its own
abbrev pub choice_of : {W M : Type 0} → Unpushed M → KeyedView → Option Rest → Choice W M Extent (Option Rest) KeptCall
choice_of u later rest = record {
  mark = u.mark;
  kept = u.kept;
  rest = rest;
  left = left.Clauses (record { clause = u.clause; later = later; call = u.call });
}

-- the engine with these choices
abbrev pub with_choices : {S W M : Type 0} → Engine S W M → Choices W M → Engine S W M
with_choices e choices = record e { choices = choices }

-- these are the engine's choices, and this one
abbrev pub HasPushed : {S W M : Type 0} → Engine S W M → Unpushed M → KeyedView → Option Rest → Choices W M → Type 0
HasPushed e u later rest choices = choices.items ≡ e.choices.items ++ choice_of u later rest ∷ []

-- The arguments that were put are those of the call that is kept, below so much as was kept.
pub record HoldsCall {S W M : Type 0} (l : Framed S W M) (u : Unpushed M) : Type 0 where
  pub within : u.call.start + u.call.count ≤ u.kept.words
  pub stood : u.kept.words ≤ length l.words.items
  pub are : arguments_at l u.call ≡ l.arguments.items

-- the engine with the choice that isn't pushed yet is this
abbrev pub IfPushed : {S W M : Type 0} → Engine S W M → Unpushed M → KeyedView → Option Rest → (Engine S W M → Type 0)
    → Type 0
IfPushed {W = W} {M = M} e u later rest Is =
    (choices : Choices W M) → HasPushed e u later rest choices → Is (with_choices e choices)

-- these are the engine's choices, and one more
abbrev pub HasOneMore : {S W M : Type 0} → Engine S W M → Choices W M → Type 0
HasOneMore {W = W} {M = M} e choices =
    (c : Choice W M Extent (Option Rest) KeptCall) × (choices.items ≡ e.choices.items ++ c ∷ [])

module _ {S W M : Type 0} (g : Ghosts S W M) (atom_word : ℕ → W) where
  -- the engine, in some state, is about to try this clause
  abbrev pub IsToEnter : Engine S W M → ℕ → ℕ → Option Rest → Type 0
  IsToEnter e clause name rest =
      (s : State) × (goal : Tree) × (c : databases.Clause) × (cs : List databases.Clause) × (behind : List Member)
      × (later : KeyedView) × CallsPut g atom_word e clause later name rest s goal c cs behind

  -- What entering the clause for the goal whose arguments were put comes to, with this cut mark.
  pub record Entering (old new : Engine S W M) (clause name : ℕ) (rest : Option Rest) (mark : ℕ)
      (result : Result Gone StoreFault) : Type 0 where
    pub tried : (s : State) (goal : Tree) (c : databases.Clause) (cs : List databases.Clause) (behind : List Member)
        (later : KeyedView) → CallsPut g atom_word old clause later name rest s goal c cs behind
        → result ≡ Ok gone.Went → StandsAs g (framed atom_word) new (tried_clause goal c mark behind s)
    pub kept : (s : State) (goal : Tree) (c : databases.Clause) (cs : List databases.Clause) (behind : List Member)
        (later : KeyedView) → CallsPut g atom_word old clause later name rest s goal c cs behind
        → OnErr result (Remains g (framed atom_word) new (tried_clause goal c mark behind s))
    pub last : (t : State) (call : Tree) (k : databases.Clause) (ks : List databases.Clause) (ms : List Member)
        (view : KeyedView) → CallsPut g atom_word old clause view name rest t call k ks ms
        → result ≡ Ok gone.Last → GoesLast new clause rest (λ (e : Engine S W M). ((s : State) (goal : Tree)
        (c : databases.Clause) (cs : List databases.Clause) (behind : List Member) (later : KeyedView)
        → CallsPut g atom_word old clause later name rest s goal c cs behind
        → StandsAs g (framed atom_word) e (tried_clause goal c mark behind s))
        × (cost (framed atom_word) e
        ≤ kept_cost (framed atom_word) old + body_cost most (cost_at old.lists rest)))
    pub costs : (s : State) (goal : Tree) (c : databases.Clause) (cs : List databases.Clause) (behind : List Member)
        (later : KeyedView) → CallsPut g atom_word old clause later name rest s goal c cs behind
        → result ≡ Ok gone.Went → cost (framed atom_word) new
        ≤ kept_cost (framed atom_word) old + body_cost most (cost_at old.lists rest)

  -- With the choice the engine is about to try the clause for the goal whose arguments were put, and the view's clauses
  -- behind it are the choice's.
  pub record KeepsLater (old new : Engine S W M) (later rests : KeyedView) (name : ℕ) (rest : Option Rest)
      (u : Unpushed M) : Type 0 where
    pub calls : (choices : Choices W M) → HasPushed old u rests rest choices
        → (clause : ℕ) (s : State) (goal : Tree) (c : databases.Clause) (cs : List databases.Clause)
        (behind : List Member) → CallsPut g atom_word old clause later name rest s goal c cs behind
        → CallsPut g atom_word (with_choices new choices) clause later name rest (with_others goal cs behind s) goal c cs
        behind
    pub costs : (choices : Choices W M) → HasPushed old u rests rest choices
        → kept_cost (framed atom_word) (with_choices new choices)
        ≤ kept_cost (framed atom_word) old + left_cost most (cost_at old.lists rest)

  -- The engine tried the clauses for the goal whose arguments were put.
  pub record HasTried (old new : Engine S W M) (clause : ℕ) (later : KeyedView) (name : ℕ) (rest : Option Rest)
      : Type 0 where
    pub tried : (s : State) (goal : Tree) (c : databases.Clause) (cs : List databases.Clause) (behind : List Member)
        → CallsPut g atom_word old clause later name rest s goal c cs behind
        → StandsAs g (framed atom_word) new (tried goal (c ∷ cs) behind s)
    pub awake : IsAwake (phase_of new.now)
    pub steps : new.steps ≡ old.steps
    pub costs : cost (framed atom_word) new ≤ kept_cost (framed atom_word) old
        + left_cost most (cost_at old.lists rest) + body_cost most (cost_at old.lists rest)
    pub stays : Stays g old new

  -- It was refused that, for this reason.
  pub record WasStopped (old new : Engine S W M) (clause : ℕ) (later : KeyedView) (name : ℕ) (rest : Option Rest)
      (reason : StoreFault) : Type 0 where
    pub kept : (s : State) (goal : Tree) (c : databases.Clause) (cs : List databases.Clause) (behind : List Member)
        → CallsPut g atom_word old clause later name rest s goal c cs behind
        → WasRefused g (framed atom_word) new s (tried goal (c ∷ cs) behind s)
    pub heap : reason ≡ fault.Full → g.full new.store
    pub stays : Stays g old new

  -- What trying the clauses comes to, calling the first engine's goal comes to.
  pub record CallsFor (first old : Engine S W M) (clause : ℕ) (later : KeyedView) (name : ℕ) (rest : Option Rest)
      : Type 0 where
    pub went : (new : Engine S W M) → HasTried old new clause later name rest
        → CameTo g atom_word first (Ok calls.Went) new
    pub stopped : (new : Engine S W M) (reason : StoreFault)
        → WasStopped old new clause later name rest reason → CameTo g atom_word first (Err reason) new

  -- An engine with this state is about to try the next clause of its newest choice, above so many.
  pub record Again (mid : Engine S W M) (attempt : Attempt KeptCall) (rest : Option Rest) (count : ℕ) (own : State)
      : Type 0 where
    pub alternative : Alternative
    pub below : List Alternative
    pub stack : own.stack ≡ alternative ∷ below
    pub retries : Retries g (framed atom_word) mid attempt rest own alternative below
    pub height : count ≡ length below

  -- The old engine failed, and went back to its newest choice, to try its next clause.
  pub record IsBack (old mid : Engine S W M) (attempt : Attempt KeptCall) (rest : Option Rest) (count : ℕ)
      : Type 0 where
    pub failing : old.now ≡ now.Failing
    pub again : (s : State) (r : Represents g (framed atom_word) old s) → Again mid attempt rest count r.own
    pub steps : mid.steps ≡ old.steps
    pub less : kept_cost (framed atom_word) mid + (body_cost most (cost_at mid.lists rest) + 1)
        ≤ kept_cost (framed atom_word) old
    pub stays : Stays g old mid

  -- With the choice that isn't pushed yet the engine came from the old one with its own: what goes on to that one, goes
  -- on to this one.
  pub record IsOpen (old e : Engine S W M) (before u : Unpushed M) (first later : KeyedView) (rest : Option Rest)
      : Type 0 where
    pub same : e.choices ≡ old.choices
    pub steps : e.steps ≤ old.steps
    pub behind : (begin : Engine S W M) → IfPushed old before first rest (CameTo g atom_word begin (Ok calls.Went))
        → IfPushed e u later rest (CameTo g atom_word begin (Ok calls.Went))
