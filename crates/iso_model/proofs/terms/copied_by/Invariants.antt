-- What is left to do makes one term of the copies: the term with its variables named.
use Rattle.std.proofs.Common.{◌≡◌, map, [], ◌∷◌}
use Rattle.iso_model.specs.Terms.TermOf.{term_of}
use Rattle.iso_model.specs.Terms.Building.{with_steps, steps_load}
use Rattle.iso_model.specs.Terms.Copying.{named_by, steps_of}
use Rattle.iso_model.specs.Terms.Substitutions.{apply}
use Rattle.iso_model.proofs.terms.copied_by.Given as goal

abbrev pub invariant-loop-task : goal.invariant-loop-task
invariant-loop-task l = with_steps (steps_of (named_by l.naming) l.tasks.items) (map term_of l.copies.items) ≡ apply (named_by l.naming) (term_of l.term) ∷ []

abbrev pub decreases-loop-task : goal.decreases-loop-task
decreases-loop-task l = steps_load (steps_of (named_by l.naming) l.tasks.items)
