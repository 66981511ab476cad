-- What is counted, with the layout from there on, is the whole layout.
use Rattle.std.proofs.Common.{◌≡◌, ◌+◌, ◌-◌, ◌≤◌, length, drop}
use Rattle.iso_model.specs.Syntax.Characters.{is_layout, run}
use Rattle.iso_text.proofs.integers.layout_len.Given as goal

abbrev pub invariant-loop-end : goal.invariant-loop-end
invariant-loop-end l = (l.end + run is_layout (drop l.end l.bytes) ≡ run is_layout l.bytes) × (l.end ≤ length l.bytes)

abbrev pub decreases-loop-end : goal.decreases-loop-end
decreases-loop-end l = length l.bytes - l.end
