-- The procedures so far are noted.
use Rattle.std.proofs.Common.{List, ◌++◌, take}
use Rattle.iso_model.specs.Search.Keys.{Key}
use Rattle.iso_lint_core.specs.KeyViews.{keys_view}
use Rattle.iso_lint.specs.Tables.{Knows}
use Rattle.iso_lint.proofs.texts.note_all.Given as goal

abbrev pub invariant-loop-key : goal.invariant-loop-key
invariant-loop-key l = (known : List Key) → Knows l.initial.table.numbers known → Knows l.table.numbers (known ++ keys_view (take l.key-index l.keys))
