-- The script is left where the kept goals are, and the engine stands for what they are run over.
use Rattle.std.proofs.Common.{◌≡◌, ℕ, List, drop}
use Rattle.iso_model.specs.Search.Engines.{Ready, MayMeet, KeepsLimits}
use Rattle.iso_model.specs.Session.Directives.{Kept}
use Rattle.iso_model.specs.Session.Sessions.{Script, kept_script}
use Rattle.iso_model.specs.Search.Walker.{State, World}
use Rattle.iso_session_core.specs.Consoles.{place}
use Rattle.iso_session_core.specs.Directed.{AreKept}
use Rattle.iso_session_core.proofs.DirectiveLemmas.{KeptPlace}
use Rattle.iso_session_core.proofs.directives.run_kept.Given as goal

abbrev pub invariant-loop-entry : goal.invariant-loop-entry
invariant-loop-entry g l = record {
  ready : g.E.Engine.phase l.engine ≡ Ready;
  stands : (t : State) × g.E.Engine.stands_for l.engine t;
  left : (goals : List Kept) × AreKept (drop l.entry-index l.kept) goals;
  limits : KeepsLimits (MayMeet (g.E.Engine.heap_pieces l.fn.engine) (g.E.Engine.frames_pieces l.fn.engine)) (MayMeet (g.E.Engine.heap_pieces l.engine) (g.E.Engine.frames_pieces l.engine));
  place : (s : State) → g.E.Engine.stands_for l.fn.engine s → (goals : List Kept) → AreKept l.kept goals → (next : World → Script)
      → KeptPlace (g.E.Engine.stands_for l.engine) l.budget (drop l.entry-index l.kept) (place g.W.Write.contents l.fn.console) (place g.W.Write.contents l.console)
      (kept_script l.budget goals s.world next) next;
  writer : l.console.out.ghost_name ≡ l.fn.console.out.ghost_name;
}
