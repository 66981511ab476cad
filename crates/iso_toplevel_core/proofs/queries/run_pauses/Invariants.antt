-- The script is left where the run is, and the engine stands for its state.
use Rattle.std.proofs.Common.{◌≡◌, ℕ, List, Some}
use Rattle.iso_model.specs.Search.Engines.{IsAwake, MayMeet, KeepsLimits}
use Rattle.iso_model.specs.Syntax.Grammar.{ReadTerm}
use Rattle.iso_model.specs.Session.Sessions.{query_goal}
use Rattle.iso_model.specs.Search.Walker.{State, World, started}
use Rattle.iso_session_core.specs.Named.{names_of}
use Rattle.iso_session_core.specs.Consoles.{place}
use Rattle.iso_toplevel_core.specs.Dialogues.{Behind}
use Rattle.iso_toplevel_core.proofs.QueryLemmas.{RunPlace}
use Rattle.iso_toplevel_core.proofs.queries.run_pauses.Given as goal

abbrev pub invariant-loop-bytes : goal.invariant-loop-bytes
invariant-loop-bytes g l = record {
  awake : IsAwake (g.E.Engine.phase l.engine);
  stands : (t : State) × g.E.Engine.stands_for l.engine t;
  limits : KeepsLimits (MayMeet (g.E.Engine.heap_pieces l.fn.engine) (g.E.Engine.frames_pieces l.fn.engine)) (MayMeet (g.E.Engine.heap_pieces l.engine) (g.E.Engine.frames_pieces l.engine));
  place : (query : ReadTerm) (w : World) (budget : ℕ) → names_of l.names ≡ query.names → g.E.Engine.stands_for l.fn.engine (started (query_goal query.term) budget w)
      → (xs : List ℕ) → g.R.Read.remaining l.fn.input ≡ Some xs → (next : Behind)
      → RunPlace (g.E.Engine.stands_for l.engine) l.waits l.within l.answered query w budget xs (g.R.Read.remaining l.input) (place g.W.Write.contents l.fn.console) (place g.W.Write.contents l.console) next;
  writer : l.console.out.ghost_name ≡ l.fn.console.out.ghost_name;
}

abbrev pub decreases-loop-bytes : goal.decreases-loop-bytes
decreases-loop-bytes g l = g.E.Engine.left l.engine
