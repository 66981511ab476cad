-- The parts so far, and those of what is left, are the term's.
use Rattle.std.proofs.Common.{◌≡◌, ◌++◌, map, sum_by}
use Rattle.iso_model.specs.Terms.TermOf.{term_of}
use Rattle.iso_model.specs.Terms.Rows.{row_load}
use Rattle.iso_lib_core.specs.Variants.{signs, sign_of, rows_signs}
use Rattle.iso_lib_core.proofs.variants.written_out.Given as goal

abbrev pub invariant-loop-row : goal.invariant-loop-row
invariant-loop-row l = record { written : map sign_of l.pieces.items ++ rows_signs l.rows.items ≡ signs (term_of l.term) }

abbrev pub decreases-loop-row : goal.decreases-loop-row
decreases-loop-row l = sum_by row_load l.rows.items
