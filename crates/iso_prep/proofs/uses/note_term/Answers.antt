use Rattle.std.proofs.Common.{sym, ◌∙◌}
use Rattle.iso_prep.proofs.UseLemmas.{rows_more}
use Rattle.iso_prep.proofs.uses.note_term.Goals as goal

pub loop-row-preserved : goal.loop-row-preserved
loop-row-preserved c =
    let popped = rows_more c.args.goal c.pop.new.self.items c.loop-row.rows.items c.in-Some.row c.in-Some.ensures.items c.loop-row.uses.items in
    c.in_ok-note_row.ensures.uses ∙ sym popped ∙ c.loop-row.invariant
