use Rattle.std.proofs.Common.{[], ◌∷◌, ap, sym, ◌∙◌}
use Rattle.iso_compile.specs.Expressions.{step_parts}
use Rattle.iso_compile.specs.Control.{own_parts}
use Rattle.iso_compile.specs.Births.{with_parts}
use Rattle.iso_compile.proofs.BirthLemmas.{twice_noted}
use Rattle.iso_compile.proofs.births.note_instruction.Goals as goal

pub returns-in-Is : goal.returns-in-Is
returns-in-Is c =
    let a = c.args.address in
    let us = c.args.spans.now.items in
    twice_noted a (step_parts c.in-Is.steps.items) (c.in-Is.part ∷ []) us c.note_steps.new.spans.items c.note_part.new.spans.items
    (c.note_steps.ensures ∙ ap (λ ks. with_parts a (step_parts ks) us) c.as_slice.ensures.value) c.note_part.ensures
    ∙ ap (λ i. with_parts a (own_parts i) us) (sym c.in-Is.is)
