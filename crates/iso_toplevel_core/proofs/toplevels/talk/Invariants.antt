-- The script is left where the dialogue is, and the engine stands for what it goes on over.
use Rattle.std.proofs.Common.{◌≡◌, ◌<◌, ℕ, List, length, Some}
use Rattle.iso_model.specs.Search.Engines.{Ready, MayMeet, KeepsLimits}
use Rattle.iso_model.specs.Search.Walker.{State}
use Rattle.iso_session_core.specs.Consoles.{place}
use Rattle.iso_toplevel_core.specs.Dialogues.{dialogue}
use Rattle.iso_toplevel_core.proofs.TalkLemmas.{TalkPlace}
use Rattle.iso_toplevel_core.proofs.toplevels.talk.Given as goal

abbrev pub invariant-loop : goal.invariant-loop
invariant-loop g l = record {
  ready : g.E.Engine.phase l.engine ≡ Ready;
  stands : (t : State) × g.E.Engine.stands_for l.engine t;
  limits : KeepsLimits (MayMeet (g.E.Engine.heap_pieces l.fn.engine) (g.E.Engine.frames_pieces l.fn.engine)) (MayMeet (g.E.Engine.heap_pieces l.engine) (g.E.Engine.frames_pieces l.engine));
  place : (s : State) → g.E.Engine.stands_for l.fn.engine s → (xs : List ℕ) → g.R.Read.remaining l.fn.input ≡ Some xs → (turns : ℕ) → length xs < turns
      → TalkPlace (g.E.Engine.stands_for l.engine) l.manner.waits l.manner.budget xs (g.R.Read.remaining l.input) (place g.W.Write.contents l.fn.console) (place g.W.Write.contents l.console)
      (dialogue l.manner.waits l.manner.budget turns s.world xs);
  writer : l.console.out.ghost_name ≡ l.fn.console.out.ghost_name;
}
