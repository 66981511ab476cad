-- What is counted, with the run from there on, is the whole run.
use Rattle.std.proofs.Common.{◌≡◌, ◌+◌, ◌-◌, ◌≤◌, length, drop}
use Rattle.iso_model.specs.Syntax.Characters as characters
use Rattle.iso_token.specs.Classes.{is_of}
use Rattle.iso_token.proofs.classes.run.Given as goal

abbrev pub invariant-loop-end : goal.invariant-loop-end
invariant-loop-end l = (l.end + characters.run (is_of l.class) (drop l.end l.bytes) ≡ characters.run (is_of l.class) l.bytes) × (l.end ≤ length l.bytes)

abbrev pub decreases-loop-end : goal.decreases-loop-end
decreases-loop-end l = length l.bytes - l.end
