-- What calling the goal that comes first came to.
use Rattle.std.specs.Prelude.{◌≡◌, ◌≤◌, ℕ, Bool, true, false, Option, Result, Ok, Err, IfOk, OnErr}
use Rattle.iso_model.specs.Search.RunLaws.Spans.{ComesBeyond}
use Rattle.iso_model.specs.Search.Walker.{State}
use Rattle.iso_store_core.specs.declared.shapes.StoreFault.{StoreFault}
use Rattle.iso_store_core.specs.declared.shapes.StoreFault.TheVariants as fault
use Rattle.iso_store_core.specs.declared.stores.Store.{Ghosts}
use Rattle.iso_frames.specs.declared.frames.Rest.{Rest}
use Rattle.iso_search.specs.declared.calls.Next.{Next}
use Rattle.iso_search.specs.declared.calls.NextGoal.{NextGoal}
use Rattle.iso_search.specs.declared.calls.Next.TheVariants as calls
use Rattle.iso_search.specs.EngineStates.{Represents, Refused, weight}
use Rattle.iso_search.specs.Nexts.{ComesNext, FallsNext}
use Rattle.iso_search.specs.Stays.{Stays}
use Rattle.iso_machine.specs.declared.calling.Gone.{Gone}
use Rattle.iso_machine.specs.declared.calling.Gone.TheVariants as gone
use Rattle.iso_machine.specs.Engines.{Engine, framed}
use Rattle.iso_machine.specs.LastCalls.{GoesLast}
use Rattle.iso_machine.specs.Steps.{IsByStep}

-- The goal that came first was called, or is left, and is this one then. Of each state that the engine represented
-- this is what comes next, or the call was refused and the engine is stopped, and what is left falls. Its frames are
-- full only where the search comes to a state that spans more than there may be, its heap only where its store is full.
pub record Came {S W M : Type 0} (g : Ghosts S W M) (atom_word : ℕ → W) (old : Engine S W M)
    (result : Result Next StoreFault) (asked : Option (NextGoal W (Option Rest))) (new : Engine S W M) : Type 0 where
  pub next : (s : State) → Represents g (framed atom_word) old s
      → IfOk result (λ n. ComesNext g (framed atom_word) ComesBeyond IsByStep n asked s new)
  pub stopped : (s : State) → Represents g (framed atom_word) old s → OnErr result (Refused g (framed atom_word) new s)
  pub falls : IfOk result (λ n. FallsNext n (weight (framed atom_word) old) (weight (framed atom_word) new))
  pub full : result ≡ Err fault.Full → g.full new.store
  pub stays : Stays g old new

-- what a move that always goes on comes to, as a call does
abbrev pub went_on : {T : Type 0} → Result T StoreFault → Result Next StoreFault
went_on (Ok done) = Ok calls.Went
went_on (Err fault) = Err fault

module _ {S W M : Type 0} (g : Ghosts S W M) (atom_word : ℕ → W) where
  -- it was called, and no goal is left
  abbrev pub CameTo : Engine S W M → Result Next StoreFault → Engine S W M → Type 0
  CameTo old result new = (asked : Option (NextGoal W (Option Rest))) → Came g atom_word old result asked new

  -- what calling a goal came to, where the clause that was entered may have no frame: it is said of the engine with it
  abbrev pub CameLast : Engine S W M → Result Gone StoreFault → Engine S W M → ℕ → Option Rest → Type 0
  CameLast old (Ok gone.Went) new clause behind = CameTo old (Ok calls.Went) new
  CameLast old (Ok gone.Full) new clause behind = CameTo old (Ok calls.Full) new
  CameLast old (Ok gone.Last) new clause behind = GoesLast new clause behind (CameTo old (Ok calls.Went))
  CameLast old (Err fault) new clause behind = CameTo old (Err fault) new

  -- the engine is the old one, or calls went on to it from there
  abbrev pub IsBehindCalls : Engine S W M → Engine S W M → Bool → Type 0
  IsBehindCalls old e false = e ≡ old
  IsBehindCalls old e true = CameTo old (Ok calls.Went) e

  -- The engine is the old one, or moves went on to it from there: what went on to the old one, goes on to this one. It
  -- represents a state, and no more steps are left.
  pub record IsBehindMoves (old e : Engine S W M) : Type 0 where
    pub behind : (first : Engine S W M) → CameTo first (Ok calls.Went) old → CameTo first (Ok calls.Went) e
    pub state : State
    pub stands : Represents g (framed atom_word) e state
    pub few : e.steps ≤ old.steps
