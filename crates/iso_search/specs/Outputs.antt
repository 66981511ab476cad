-- Goals that write, as the engine comes to them (ISO/IEC 13211-1:1995, 8.12.3, 8.14.2).
use Rattle.std.specs.Prelude.{◌≡◌, ℕ, true, Vec}
use Rattle.std.specs.Global.{Global}
use Rattle.iso_model.specs.Terms.Arguments.{arity}
use Rattle.iso_model.specs.Search.Outputs.{output_arity}
use Rattle.iso_model.specs.Search.Walker.{State, Outcome, Goes, Gives, Wrote}
use Rattle.iso_model.specs.Search.Engines.{Midway, IsAwake}
use Rattle.iso_model.specs.declared.kinds.Output.{Output}
use Rattle.iso_model.specs.declared.pauses.Pause.TheVariants as pause
use Rattle.iso_store_core.specs.Presents.{meaning}
use Rattle.iso_store_core.specs.declared.stores.Store.{Ghosts}
use Rattle.iso_search_core.specs.declared.lists.Lists as lists
use Rattle.iso_search.specs.declared.search.Move.{Move}
use Rattle.iso_search.specs.declared.search.Move.TheVariants as move
use Rattle.iso_search.specs.declared.search.Search.{Search}
use Rattle.iso_search.specs.EngineStates.{IsEngine, IsAhead, phase_of}

module _ {S L W M K P C N B O : Type 0} (g : Ghosts S W M) (l : lists.Ghosts L S K P C N B O W M) where
  -- The engine, in this state, is about to run this goal of this row, with its members from this place of the members
  -- on behind it.
  pub record WritesAt (e : Search S L W M K P C N B O) (row : Output) (goal : W) (s : State) (place : P) : Type 0 where
    pub ahead : IsAhead g l e s place
    pub holds : (g.present e.store).holds goal ≡ true
    pub arity_is : arity (meaning (g.present e.store) goal) ≡ output_arity row

  -- What the goal came to: the search goes on, or its bytes are an event, behind which it goes on.
  abbrev pub HasWritten : Move → Search S L W M K P C N B O → Outcome → Type 0
  HasWritten move.Goes e o = (t : State) × (o ≡ Goes t) × IsEngine g l e t × IsAwake (phase_of e.now)
  HasWritten (move.Pauses p) e o = (bytes : Vec ℕ Global) × (t : State) × (p ≡ pause.Output bytes) × (o ≡ Gives (Wrote bytes.items) t) × IsEngine g l e t × (phase_of e.now ≡ Midway)
