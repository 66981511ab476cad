-- Those that aren't known of the procedures so far.
use Rattle.std.proofs.Common.{◌≡◌, List, take}
use Rattle.iso_model.specs.Search.Keys.{Key}
use Rattle.iso_lint.specs.Findings as spec
use Rattle.iso_lint_core.specs.KeyViews.{keys_view}
use Rattle.iso_lint.specs.Tables.{Knows}
use Rattle.iso_lint.proofs.unknown.unknown_of.Given as goal

abbrev pub invariant-loop-key : goal.invariant-loop-key
invariant-loop-key l = (ks : List Key) → Knows l.known.numbers ks
    → keys_view l.found.keys ≡ spec.unknown_of ks (keys_view (take l.key-index l.keys))
