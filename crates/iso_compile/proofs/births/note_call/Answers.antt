use Rattle.std.proofs.Common.{ap, ◌∙◌}
use Rattle.iso_compile.specs.Emitted.{all_parts}
use Rattle.iso_compile.specs.Births.{with_parts}
use Rattle.iso_compile.proofs.BirthLemmas.{twice_noted}
use Rattle.iso_compile.proofs.births.note_call.Goals as goal

pub returns : goal.returns
returns c =
    let a = c.args.address in
    let code = c.args.call.now.arguments in
    twice_noted a code.parts.items (all_parts code.blocks.items) c.args.spans.now.items c.note_parts.new.spans.items c.note_blocks.new.spans.items
    (c.note_parts.ensures ∙ ap (λ ps. with_parts a ps c.args.spans.now.items) c.as_slice.ensures.value)
    (c.note_blocks.ensures ∙ ap (λ bs. with_parts a (all_parts bs) c.note_parts.new.spans.items) c.as_slice-2.ensures.value)
