use Rattle.std.proofs.Common.{[], ◌∷◌, ◌∙◌, rules, arith}
use Rattle.std.specs.Prelude.{FitsSigned}
use Rattle.std.specs.Int.{w64}
use Rattle.std.proofs.lemmas.Int.{to_z-of_z}
use Rattle.iso_evaluation.proofs.ShortLemmas.{all_done}
use Rattle.iso_evaluation.proofs.shorts.longer_value_left.Goals as goal

pub returns : goal.returns
returns g c next s ks stand zip =
    let names = g.S.Store.names c.args.store.now in
    let z = c.in_ok-value.value in
    let fits : FitsSigned w64 z = search rules in
    rw (to_z-of_z w64 z fits)
    (c.in_ok-value.ensures.value next s ks [] stand zip
    ∙ all_done names next s ks c.args.steps.now zip c.in_ok-value.end (z ∷ []) (omega arith))
