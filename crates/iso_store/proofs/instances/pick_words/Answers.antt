use Rattle.std.proofs.Common.{◌<◌, ◌++◌, ◌∷◌, [], length, ap, sym, ◌∙◌, arith}
use Rattle.iso_store.proofs.Picked.{picked-next}
use Rattle.iso_store.proofs.instances.pick_words.Goals as goal

pub loop-part-preserved : goal.loop-part-preserved
loop-part-preserved g c =
    let ks = c.args.places.now in
    let i = c.loop-part.part-index in
    let less : i < length ks = omega (arith, c.loop-part-test.true) in
    c.in_ok-push.ensures.items ∙ ap (λ us. us ++ c.index-variables-place.result ∷ []) c.loop-part.invariant
    ∙ sym (picked-next c.args.variables.now ks i c.in-Variable.place c.part-item.result c.index-variables-place.result c.requires less c.part-item.is c.in-Variable.is c.index-variables-place.is)
