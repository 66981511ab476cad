-- The script is left where the queries are, and the engine stands for what they are run over.
use Rattle.std.proofs.Common.{◌≡◌, ℕ, List, length, Some}
use Rattle.iso_model.specs.Search.Engines.{Ready, MayMeet, KeepsLimits}
use Rattle.iso_model.specs.Search.Walker.{State}
use Rattle.iso_session_core.specs.Consoles.{place}
use Rattle.iso_toplevel_core.specs.Dialogues.{Behind, text_shown}
use Rattle.iso_toplevel_core.proofs.QueryLemmas.{QueriesPlace}
use Rattle.iso_toplevel_core.proofs.queries.run_queries.Given as goal

abbrev pub invariant-loop-next : goal.invariant-loop-next
invariant-loop-next g l = record {
  ready : g.E.Engine.phase l.engine ≡ Ready;
  stands : (t : State) × g.E.Engine.stands_for l.engine t;
  limits : KeepsLimits (MayMeet (g.E.Engine.heap_pieces l.fn.engine) (g.E.Engine.frames_pieces l.fn.engine)) (MayMeet (g.E.Engine.heap_pieces l.engine) (g.E.Engine.frames_pieces l.engine));
  place : (s : State) → g.E.Engine.stands_for l.fn.engine s → (xs : List ℕ) → g.R.Read.remaining l.fn.input ≡ Some xs → (next : Behind)
      → QueriesPlace (g.E.Engine.stands_for l.engine) l.manner.waits l.manner.budget l.tokens xs (g.R.Read.remaining l.input) (place g.W.Write.contents l.fn.console) (place g.W.Write.contents l.console)
      (text_shown l.manner.waits l.manner.budget l.queries s.world xs next) next;
  writer : l.console.out.ghost_name ≡ l.fn.console.out.ghost_name;
}

abbrev pub decreases-loop-next : goal.decreases-loop-next
decreases-loop-next g l = length l.tokens
