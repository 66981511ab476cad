use Rattle.std.proofs.Common.{◌≤◌, length, arith, refl}
use Rattle.iso_model.proofs.OnTerms.CopyingLemmas.{on_ok_by, row_split}
use Rattle.iso_model.proofs.OnTerms.SeenRows.{row_load-split}
use Rattle.iso_prep.proofs.UseLemmas.{rows_split}
use Rattle.iso_prep.proofs.uses.note_row.Goals as goal

pub returns-in_ok-push-in-len1-up-clause-uses : goal.returns-in_ok-push-in-len1-up-clause-uses
returns-in_ok-push-in-len1-up-clause-uses c =
    let low : 1 ≤ length c.args.row.now = omega (arith, c.in-len1-up.len_at_least) in
    let split = row_split c.args.row.now c.first-item.result _ low c.first-item.is refl in
    on_ok_by c.note_next-in-len1-up.result c.note_next-in-len1-up.ensures.uses
    (rows_split c.args.goal c.args.rows.now.items c.push.new.self.items c.note_next-in-len1-up.new.rows.items c.args.row.now _ c.first-item.result split c.in_ok-push-in-len1-up.ensures.items c.args.uses.now.items _)

pub returns-in_ok-push-in-len1-up-clause-load : goal.returns-in_ok-push-in-len1-up-clause-load
returns-in_ok-push-in-len1-up-clause-load c =
    let low : 1 ≤ length c.args.row.now = omega (arith, c.in-len1-up.len_at_least) in
    let split = row_split c.args.row.now c.first-item.result _ low c.first-item.is refl in
    on_ok_by c.note_next-in-len1-up.result c.note_next-in-len1-up.ensures.load
    (row_load-split c.args.rows.now.items c.push.new.self.items c.note_next-in-len1-up.new.rows.items c.args.row.now _ c.first-item.result split c.in_ok-push-in-len1-up.ensures.items)
