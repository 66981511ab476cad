-- What was seen and what is left make the whole.
use Rattle.std.proofs.Common.{◌≡◌, max, drop}
use Rattle.iso_code.specs.Loading.{behind_operands}
use Rattle.iso_code.proofs.loading.behind_operands.Given as goal

abbrev pub invariant-loop-operand : goal.invariant-loop-operand
invariant-loop-operand l = max l.next (behind_operands (drop l.operand-index l.operands)) ≡ behind_operands l.operands
