-- All arguments are well formed where those that are left are.
use Rattle.std.proofs.Common.{◌≡◌, drop}
use Rattle.iso_model.specs.Terms.Trees.{arities_fit}
use Rattle.iso_model.specs.Terms.TermOf.{term_of, row_of}
use Rattle.iso_model.proofs.terms.+well_formed.Given as goal

abbrev pub invariant-loop-argument : goal.invariant-loop-argument
invariant-loop-argument l = arities_fit (row_of (drop l.argument-index l.arguments)) ≡ arities_fit (term_of l.term)
