use Rattle.std.proofs.Common.{◌++◌, map, sym, ap, ◌∙◌}
use Rattle.iso_lib_core.specs.Variants.{sign_of}
use Rattle.iso_lib_core.proofs.VariantLemmas.{signs_more}
use Rattle.iso_lib_core.proofs.variants.written_out.Goals as goal

pub loop-row-preserved : goal.loop-row-preserved
loop-row-preserved c =
    let popped = signs_more c.pop.new.self.items c.loop-row.rows.items c.in-Some.row c.in-Some.ensures.items in
    record { written = c.in_ok-write_row.ensures.signs ∙ ap (λ xs. map sign_of c.loop-row.pieces.items ++ xs) (sym popped) ∙ c.loop-row.invariant.written }
