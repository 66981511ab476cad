-- The script is left where the text is that was read so far.
use Rattle.std.proofs.Common.{◌≡◌, ◌<◌, ℕ, List, [], length, Some, string_bytes}
use Rattle.iso_model.specs.Session.Sessions.{Script}
use Rattle.iso_session_core.specs.Consoles.{place}
use Rattle.iso_toplevel_core.specs.Dialogues.{question}
use Rattle.iso_toplevel_core.proofs.LineLemmas.{AskPlace}
use Rattle.iso_toplevel_core.proofs.questions.ask.Given as goal

abbrev pub invariant-loop : goal.invariant-loop
invariant-loop g l = record {
  place : (xs : List ℕ) → g.R.Read.remaining l.fn.input ≡ Some xs → (turns : ℕ) → length xs < turns → (behind : List ℕ → List ℕ → Script)
      → AskPlace l.waits (string_bytes l.text) xs (g.R.Read.remaining l.input) (place g.W.Write.contents l.fn.console) (place g.W.Write.contents l.console) (question l.waits turns [] xs behind) behind;
  writer : l.console.out.ghost_name ≡ l.fn.console.out.ghost_name;
}
