use Rattle.std.proofs.Common.{refl, sym, ap, ◌∙◌}
use Rattle.std.proofs.lemmas.List.{drop_all}
use Rattle.std.proofs.lemmas.Option.{slice_get_read}
use Rattle.iso_compile.specs.Emitting.{without_voids}
use Rattle.iso_compile.specs.Emitted.{all_parts}
use Rattle.iso_compile.proofs.VoidLemmas.{block_forgotten}
use Rattle.iso_compile.proofs.goals.forget_blocks.Goals as goal

pub loop-block-preserved : goal.loop-block-preserved
loop-block-preserved c =
    block_forgotten c.args.blocks.now c.loop-block.block-index c.block-item.result c.loop-block.met.items _ (slice_get_read c.args.blocks.now _ _ _ refl c.loop-block-test.true c.block-item.is) (c.forget.ensures ∙ ap (without_voids c.loop-block.met.items) c.as_slice.ensures.value) ∙ c.loop-block.invariant

pub returns : goal.returns
returns c = ap (λ xs. without_voids c.loop-block.met.items (all_parts xs)) (sym (drop_all c.loop-block.block-index c.args.blocks.now c.loop-block-test.false)) ∙ c.loop-block.invariant
