use Rattle.std.proofs.Common.{◌≤◌, length, arith, refl}
use Rattle.iso_model.proofs.OnTerms.CopyingLemmas.{on_ok_by, row_split}
use Rattle.iso_lib_core.proofs.VariantLemmas.{signs_split}
use Rattle.iso_lib_core.proofs.variants.write_row.Goals as goal

pub returns-in_ok-push-in-len1-up-clause-signs : goal.returns-in_ok-push-in-len1-up-clause-signs
returns-in_ok-push-in-len1-up-clause-signs c =
    let low : 1 ≤ length c.args.row.now = omega (arith, c.in-len1-up.len_at_least) in
    let split = row_split c.args.row.now c.first-item.result _ low c.first-item.is refl in
    on_ok_by c.write_first-in-len1-up.result c.write_first-in-len1-up.ensures.signs
    (signs_split c.args.pieces.now.items _ c.args.rows.now.items c.push.new.self.items _ c.args.row.now c.first-item.result split c.in_ok-push-in-len1-up.ensures.items)
