-- What was found, or else is found in the arguments that are left, is what all of them give.
use Rattle.std.proofs.Common.{◌≡◌, ℕ, ◌<◌, length, None, get_or, drop}
use Rattle.iso_model.specs.Terms.TermOf.{row_of}
use Rattle.iso_alloc.specs.Plans.{argument_from}
use Rattle.iso_alloc.specs.Arguments.{kept_or}
use Rattle.iso_alloc.proofs.arguments.first_arguments.Given as goal

abbrev pub invariant-loop-index : goal.invariant-loop-index
invariant-loop-index l =
    (length l.found.items ≡ l.count)
    × ((x : ℕ) → x < l.count → kept_or (get_or l.found.items x None) (argument_from l.index x (row_of (drop l.index l.arguments))) ≡ argument_from 0 x (row_of l.arguments))
