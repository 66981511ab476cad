use Rattle.std.proofs.Common.{◌≡◌, [], ◌∷◌, ◌∙◌, rules, arith}
use Rattle.iso_model.specs.Search.Library.{compares}
use Rattle.iso_compile.specs.Expressions.{done}
use Rattle.iso_evaluation.proofs.ShortLemmas.{all_done, shorts_hold}
use Rattle.iso_evaluation.proofs.shorts.holds_of_longer.Goals as goal

pub returns : goal.returns
returns g c next s ks stand zip =
    let names = g.S.Store.names c.args.store.now in
    let x = c.in_ok-left.left in
    let y = c.in_ok-right.right in
    let holds : c.holds.result ≡ compares c.args.comparison x y = search rules in
    shorts_hold names c.args.comparison (done next s ks []) x y c.holds.result
    (c.in_ok-left.ensures.value next s ks [] stand zip
    ∙ c.in_ok-right.ensures.value next s ks (x ∷ []) stand zip
    ∙ all_done names next s ks c.args.steps.now zip c.in_ok-right.end (y ∷ x ∷ []) (omega arith))
    holds
