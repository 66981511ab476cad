-- What is left to do makes the body that the term is, and has the goals that are missing.
use Rattle.std.proofs.Common.{◌≡◌, ◌+◌}
use Rattle.iso_model.specs.Terms.TermOf.{term_of}
use Rattle.iso_prep.specs.Classes.{goals_of}
use Rattle.iso_prep.specs.Readings.{read, Works, tasks_load, next_load, all_goals}
use Rattle.iso_prep.proofs.constructs.parts_of.Given as goal

abbrev pub invariant-reading : goal.invariant-reading
invariant-reading l = Works l.parts.items l.tasks.items l.next (read (term_of l.body)) × (all_goals l.parts.items l.tasks.items l.next ≡ goals_of (read (term_of l.body)))

abbrev pub decreases-reading : goal.decreases-reading
decreases-reading l = next_load l.next + tasks_load l.tasks.items
