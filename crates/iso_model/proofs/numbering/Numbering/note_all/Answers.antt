use Rattle.std.proofs.Common.{sym, ◌∙◌}
use Rattle.iso_model.proofs.OnTerms.SeenRows.{rows_seen-more, kept_on}
use Rattle.iso_model.proofs.numbering.Numbering.note_all.Goals as goal

pub loop-row-preserved : goal.loop-row-preserved
loop-row-preserved c =
    let popped = rows_seen-more c.pop.new.self.items c.loop-row.rows.items c.in-Some.row c.in-Some.ensures.items c.loop-row.self in
    record {
      numbers = c.in_ok-note_row.ensures.numbers ∙ sym popped ∙ c.loop-row.invariant.numbers;
      kept = kept_on c.args.self.now c.loop-row.self _ c.loop-row.invariant.kept c.note_row.ensures.kept;
    }
