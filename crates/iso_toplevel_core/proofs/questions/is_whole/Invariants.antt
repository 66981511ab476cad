-- The tokens that are left decide, behind those that were seen.
use Rattle.std.proofs.Common.{◌≡◌, length}
use Rattle.iso_toplevel_core.specs.Questions.{is_whole, whole_behind}
use Rattle.iso_toplevel_core.proofs.questions.is_whole.Given as goal

abbrev pub invariant-loop-token : goal.invariant-loop-token
invariant-loop-token l = whole_behind l.whole l.tokens ≡ is_whole l.text

abbrev pub decreases-loop-token : goal.decreases-loop-token
decreases-loop-token l = length l.tokens
