use Rattle.std.proofs.Common.{[], ◌∷◌}
use Rattle.iso_session_core.proofs.WrittenLemmas.{behind_error, begins_behind, begins_before}
use Rattle.iso_session_core.proofs.console.Console.write_line.Goals.{then-self+in_ok-write_whole, else-self}
use Rattle.iso_session_core.proofs.console.Console.write_line.Goals as goal

pub returns-in_err-write_whole-clause-err : goal.returns-in_err-write_whole-clause-err
returns-in_err-write_whole-clause-err g c =
    rw c.if-self.true (behind_error c.from_residual.result (begins_before _ _ (10 ∷ []) c.args.line.now c.in_err-write_whole.ensures.err))

pub returns-in_err-write_whole-2-clause-err : goal.returns-in_err-write_whole-2-clause-err
returns-in_err-write_whole-2-clause-err g c = behind_error c.from_residual-in_err-write_whole-2.result (elim c.if-self.branch [
  | then-self+in_ok-write_whole w ↦
      let rest = rw w.self-is at c.in_err-write_whole-2.ensures.err in
      rw w.if-self.true (begins_behind _ _ _ (10 ∷ []) c.args.line.now w.in_ok-write_whole.ensures.ok rest)
  | else-self w ↦
      let rest = rw w.self-is at c.in_err-write_whole-2.ensures.err in
      rw w.if-self.false rest
])
