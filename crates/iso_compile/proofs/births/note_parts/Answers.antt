use Rattle.std.proofs.Common.{refl, sym, ap, ◌∙◌}
use Rattle.std.proofs.lemmas.List.{drop_all}
use Rattle.std.proofs.lemmas.Option.{slice_get_read}
use Rattle.iso_compile.specs.Births.{with_parts}
use Rattle.iso_compile.proofs.BirthLemmas.{part_noted}
use Rattle.iso_compile.proofs.births.note_parts.Goals as goal

pub loop-part-preserved : goal.loop-part-preserved
loop-part-preserved c =
    part_noted c.args.address c.loop-part.part-index c.loop-part.spans.items _ c.args.parts.now c.part-item.result (slice_get_read c.args.parts.now _ _ _ refl c.loop-part-test.true c.part-item.is) c.note_part.ensures ∙ c.loop-part.invariant

pub returns : goal.returns
returns c = ap (λ xs. with_parts c.args.address xs c.loop-part.spans.items) (sym (drop_all c.loop-part.part-index c.args.parts.now c.loop-part-test.false)) ∙ c.loop-part.invariant
