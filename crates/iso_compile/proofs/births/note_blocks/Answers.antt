use Rattle.std.proofs.Common.{refl, sym, ap, ◌∙◌}
use Rattle.std.proofs.lemmas.List.{drop_all}
use Rattle.std.proofs.lemmas.Option.{slice_get_read}
use Rattle.iso_compile.specs.Births.{with_parts}
use Rattle.iso_compile.specs.Emitted.{all_parts}
use Rattle.iso_compile.proofs.BirthLemmas.{block_noted}
use Rattle.iso_compile.proofs.births.note_blocks.Goals as goal

pub loop-block-preserved : goal.loop-block-preserved
loop-block-preserved c =
    block_noted c.args.address c.loop-block.block-index c.loop-block.spans.items _ c.args.blocks.now c.block-item.result (slice_get_read c.args.blocks.now _ _ _ refl c.loop-block-test.true c.block-item.is) (c.note_parts.ensures ∙ ap (λ ps. with_parts c.args.address ps c.loop-block.spans.items) c.as_slice.ensures.value) ∙ c.loop-block.invariant

pub returns : goal.returns
returns c = ap (λ xs. with_parts c.args.address (all_parts xs) c.loop-block.spans.items) (sym (drop_all c.loop-block.block-index c.args.blocks.now c.loop-block-test.false)) ∙ c.loop-block.invariant
