-- The variables of what is left come behind those so far; those that were there at first stand in front.
use Rattle.std.proofs.Common.{◌≡◌, sum_by, take, length}
use Rattle.iso_model.specs.Terms.TermOf.{term_of}
use Rattle.iso_model.specs.Terms.Variables.{distinct_from}
use Rattle.iso_model.specs.Terms.Rows.{rows_seen, row_load}
use Rattle.iso_model.proofs.numbering.Numbering.note_all.Given as goal

abbrev pub invariant-loop-row : goal.invariant-loop-row
invariant-loop-row l = record {
  numbers : rows_seen l.self l.rows.items ≡ distinct_from l.fn.self (term_of l.term);
  kept : take (length l.fn.self) l.self ≡ l.fn.self;
}

abbrev pub decreases-loop-row : goal.decreases-loop-row
decreases-loop-row l = sum_by row_load l.rows.items
