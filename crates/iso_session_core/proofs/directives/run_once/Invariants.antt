-- The script is left where the run is, and the engine stands for its state.
use Rattle.std.proofs.Common.{◌≡◌, ℕ}
use Rattle.iso_model.specs.Search.Engines.{IsAwake, MayMeet, KeepsLimits}
use Rattle.iso_model.specs.Terms.Trees.{Tree}
use Rattle.iso_model.specs.Session.Sessions.{Script}
use Rattle.iso_model.specs.Search.Walker.{State, World, started}
use Rattle.iso_session_core.specs.Consoles.{place}
use Rattle.iso_session_core.proofs.DirectiveLemmas.{DirectivePlace}
use Rattle.iso_session_core.proofs.directives.run_once.Given as goal

abbrev pub invariant-loop-bytes : goal.invariant-loop-bytes
invariant-loop-bytes g l = record {
  awake : IsAwake (g.E.Engine.phase l.engine);
  stands : (t : State) × g.E.Engine.stands_for l.engine t;
  limits : KeepsLimits (MayMeet (g.E.Engine.heap_pieces l.fn.engine) (g.E.Engine.frames_pieces l.fn.engine)) (MayMeet (g.E.Engine.heap_pieces l.engine) (g.E.Engine.frames_pieces l.engine));
  place : (goal : Tree) (w : World) (budget : ℕ) → g.E.Engine.stands_for l.fn.engine (started goal budget w) → (k : ℕ) (next : World → Script)
      → DirectivePlace (g.E.Engine.stands_for l.engine) k goal w budget (place g.W.Write.contents l.fn.console) (place g.W.Write.contents l.console) next;
  writer : l.console.out.ghost_name ≡ l.fn.console.out.ghost_name;
}

abbrev pub decreases-loop-bytes : goal.decreases-loop-bytes
decreases-loop-bytes g l = g.E.Engine.left l.engine
