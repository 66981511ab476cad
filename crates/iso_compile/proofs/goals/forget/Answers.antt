use Rattle.std.proofs.Common.{refl, sym, ap, ◌∙◌}
use Rattle.std.proofs.lemmas.List.{drop_all}
use Rattle.std.proofs.lemmas.Option.{slice_get_read}
use Rattle.iso_compile.specs.Emitting.{without_voids}
use Rattle.iso_compile.proofs.VoidLemmas.{part_forgotten}
use Rattle.iso_compile.proofs.goals.forget.Goals as goal

pub loop-part-preserved : goal.loop-part-preserved
loop-part-preserved c =
    part_forgotten c.args.parts.now c.loop-part.part-index c.part-item.result c.loop-part.met.items _ (slice_get_read c.args.parts.now _ _ _ refl c.loop-part-test.true c.part-item.is) c.forget_part.ensures ∙ c.loop-part.invariant

pub returns : goal.returns
returns c = ap (without_voids c.loop-part.met.items) (sym (drop_all c.loop-part.part-index c.args.parts.now c.loop-part-test.false)) ∙ c.loop-part.invariant
