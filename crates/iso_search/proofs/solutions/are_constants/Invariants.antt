-- The terms so far are constants.
use Rattle.std.proofs.Common.{◌≡◌, true, take}
use Rattle.std.specs.List.{All}
use Rattle.iso_model.specs.Terms.TermOf.{term_of}
use Rattle.iso_search.specs.Constants.{is_constant}
use Rattle.iso_search.proofs.solutions.are_constants.Given as goal

abbrev pub invariant-loop-term : goal.invariant-loop-term
invariant-loop-term l = All (λ t. is_constant (term_of t) ≡ true) (take l.term-index l.terms)
