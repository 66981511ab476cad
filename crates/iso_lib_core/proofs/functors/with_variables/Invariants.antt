-- The arguments so far, and the variables that are left, are all of them.
use Rattle.std.proofs.Common.{◌≡◌, ◌-◌, map}
use Rattle.iso_model.specs.Terms.Trees.{row}
use Rattle.iso_model.specs.Terms.TermOf.{term_of}
use Rattle.iso_model.specs.Terms.Arguments.{joined, variables_from}
use Rattle.iso_lib_core.proofs.functors.with_variables.Given as goal

abbrev pub invariant-loop-number : goal.invariant-loop-number
invariant-loop-number l = joined (row (map term_of l.arguments.items)) (variables_from l.number (l.count - l.number)) ≡ variables_from 0 l.count
