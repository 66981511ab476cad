-- The goals so far and those that are left are the body's.
use Rattle.std.proofs.Common.{◌≡◌, ◌++◌}
use Rattle.iso_model.specs.Terms.TermOf.{term_of}
use Rattle.iso_prep.specs.Classes.{goals_of}
use Rattle.iso_prep.specs.Loads.{terms_load}
use Rattle.iso_prep.specs.Readings.{read}
use Rattle.iso_prep.specs.Uses.{goals_left, goal_terms}
use Rattle.iso_prep.proofs.goals.collected.Given as goal

abbrev pub invariant-loop-part : goal.invariant-loop-part
invariant-loop-part l = goal_terms l.goals.items ++ goals_left l.rest.items ≡ goals_of (read (term_of l.body))

abbrev pub decreases-loop-part : goal.decreases-loop-part
decreases-loop-part l = terms_load l.rest.items
