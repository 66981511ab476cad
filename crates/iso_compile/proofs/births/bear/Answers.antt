use Rattle.std.proofs.Common.{◌∙◌, ap, refl, Some, arith}
use Rattle.std.proofs.lemmas.Option.{slice_get_read}
use Rattle.std.specs.List.{slice_set}
use Rattle.iso_compile.specs.declared.control.Instruction.TheVariants.{Is}
use Rattle.iso_compile.specs.declared.instructions.Part.TheVariants.{Old}
use Rattle.iso_compile.proofs.BirthLemmas.{born_more, same_at}
use Rattle.iso_compile.proofs.births.bear.Goals as goal

pub returns-clause-births : goal.returns-clause-births
returns-clause-births c old before =
    let code = c.args.code.now.items in
    let a = c.args.address in
    let x = c.in-Some.variable in
    let place = c.in-Some.place in
    let found = c.in-Some.ensures in
    let was = slice_get_read code _ a c.index.result.now refl c.requires.within c.index.ensures ∙ ap Some found.1 in
    let is = same_at code a c.index_mut.result.now (Is (Old x place) found.0) (slice_get_read code _ a c.index_mut.result.now refl c.requires.within c.index_mut.ensures.value) was in
    born_more c.args.spans.now c.args.barriers.now c.args.met.now old code _ c.args.born.now.items _ a x place found.0 before (let within = found.2.within in omega (arith, within, c.requires.many)) was found.2 (ap (slice_set code a) (c.give.ensures found.0 is)) refl
