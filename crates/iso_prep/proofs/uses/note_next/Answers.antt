use Rattle.iso_model.proofs.OnTerms.SeenRows.{row_load-arguments}
use Rattle.iso_prep.proofs.UseLemmas.{rows_arguments}
use Rattle.iso_prep.proofs.uses.note_next.Goals as goal

pub returns-in_ok-push-in-Compound-clause-uses : goal.returns-in_ok-push-in-Compound-clause-uses
returns-in_ok-push-in-Compound-clause-uses c =
    rows_arguments c.args.goal c.args.rows.now.items _ c.as_slice.result c.in_ok-push-in-Compound.ensures.items c.args.term.now c.in-Compound.field-0 c.in-Compound.arguments c.in-Compound.is c.as_slice.ensures.value _

pub returns-in_ok-push-in-Compound-clause-load : goal.returns-in_ok-push-in-Compound-clause-load
returns-in_ok-push-in-Compound-clause-load c =
    row_load-arguments c.args.rows.now.items _ c.as_slice.result c.in_ok-push-in-Compound.ensures.items c.args.term.now c.in-Compound.field-0 c.in-Compound.arguments c.in-Compound.is c.as_slice.ensures.value
