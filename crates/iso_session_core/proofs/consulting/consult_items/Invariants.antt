-- The script is left where the text is, and the engine stands for what was consulted so far.
use Rattle.std.proofs.Common.{◌≡◌, ℕ, [], length}
use Rattle.iso_model.specs.Search.Engines.{Ready, MayMeet, KeepsLimits}
use Rattle.iso_model.specs.Session.Sessions.{text_script}
use Rattle.iso_model.specs.Syntax.Tokens.{tokens}
use Rattle.iso_model.specs.Search.Walker.{State}
use Rattle.iso_session_core.specs.Consoles.{place}
use Rattle.iso_session_core.proofs.ConsultLemmas.{Behind, TextPlace}
use Rattle.iso_session_core.proofs.consulting.consult_items.Given as goal

abbrev pub invariant-loop-next : goal.invariant-loop-next
invariant-loop-next g l = record {
  ready : g.E.Engine.phase l.engine ≡ Ready;
  stands : (t : State) × g.E.Engine.stands_for l.engine t;
  limits : KeepsLimits (MayMeet (g.E.Engine.heap_pieces l.fn.engine) (g.E.Engine.frames_pieces l.fn.engine)) (MayMeet (g.E.Engine.heap_pieces l.engine) (g.E.Engine.frames_pieces l.engine));
  place : (s : State) → g.E.Engine.stands_for l.fn.engine s → (next : Behind)
      → TextPlace (g.E.Engine.stands_for l.engine) l.budget l.kept.items l.number l.tokens (place g.W.Write.contents l.fn.console) (place g.W.Write.contents l.console)
      (text_script l.budget (length (tokens l.text)) 1 (tokens l.text) s.world [] next) next;
  writer : l.console.out.ghost_name ≡ l.fn.console.out.ghost_name;
}

abbrev pub decreases-loop-next : goal.decreases-loop-next
decreases-loop-next g l = length l.tokens
