-- What is found at the procedures so far is added.
use Rattle.std.proofs.Common.{◌≡◌, ◌++◌, map, take}
use Rattle.iso_lint.specs.Findings as spec
use Rattle.iso_lint.specs.FindingViews.{finding_of}
use Rattle.iso_lint_core.specs.KeyViews.{keys_view}
use Rattle.iso_lint.proofs.unknown.add_unknown.Given as goal

abbrev pub invariant-loop-key : goal.invariant-loop-key
invariant-loop-key l = map finding_of l.found.items ≡ map finding_of l.initial.found.items ++ map (spec.unknown_at l.start) (keys_view (take l.key-index l.key-items))
