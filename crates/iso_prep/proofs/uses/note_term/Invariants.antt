-- What is left makes the uses that the whole term makes.
use Rattle.std.proofs.Common.{◌≡◌, sum_by}
use Rattle.iso_model.specs.Terms.TermOf.{term_of}
use Rattle.iso_model.specs.Terms.Rows.{row_load}
use Rattle.iso_prep.specs.Uses.{with_term, with_rows}
use Rattle.iso_prep.proofs.uses.note_term.Given as goal

abbrev pub invariant-loop-row : goal.invariant-loop-row
invariant-loop-row l = with_rows l.goal l.rows.items l.uses.items ≡ with_term l.goal (term_of l.term) l.fn.uses.items

abbrev pub decreases-loop-row : goal.decreases-loop-row
decreases-loop-row l = sum_by row_load l.rows.items
