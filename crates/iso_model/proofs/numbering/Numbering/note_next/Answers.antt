use Rattle.iso_model.proofs.OnTerms.SeenRows.{rows_seen-arguments, row_load-arguments}
use Rattle.iso_model.proofs.numbering.Numbering.note_next.Goals as goal

pub returns-in_ok-push-in-Compound-clause-numbers :
    goal.returns-in_ok-push-in-Compound-clause-numbers
returns-in_ok-push-in-Compound-clause-numbers c =
    rows_seen-arguments c.args.rows.now.items _ c.as_slice.result c.in_ok-push-in-Compound.ensures.items c.args.term.now c.in-Compound.field-0 c.in-Compound.arguments c.in-Compound.is c.as_slice.ensures.value
    c.args.self.now

pub returns-in_ok-push-in-Compound-clause-load : goal.returns-in_ok-push-in-Compound-clause-load
returns-in_ok-push-in-Compound-clause-load c =
    row_load-arguments c.args.rows.now.items _ c.as_slice.result c.in_ok-push-in-Compound.ensures.items c.args.term.now c.in-Compound.field-0 c.in-Compound.arguments c.in-Compound.is c.as_slice.ensures.value
