-- The term can be converted exactly where all that is left can.
use Rattle.std.proofs.Common.{◌≡◌}
use Rattle.iso_model.specs.Terms.TermOf.{term_of}
use Rattle.iso_prep.specs.Conversions.{is_callable, are_callable}
use Rattle.iso_prep.specs.Loads.{terms_load}
use Rattle.iso_prep.proofs.callable.can_be_called.Given as goal

abbrev pub invariant-loop-part : goal.invariant-loop-part
invariant-loop-part l = are_callable l.parts.items ≡ is_callable (term_of l.term)

abbrev pub decreases-loop-part : goal.decreases-loop-part
decreases-loop-part l = terms_load l.parts.items
