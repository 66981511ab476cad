use Rattle.std.proofs.Common.{rules, arith, refl, ap}
use Rattle.std.specs.Prelude.{FitsSigned}
use Rattle.std.specs.Int.{w64}
use Rattle.std.proofs.lemmas.Int.{to_z-of_z}
use Rattle.iso_model.specs.Terms.Arguments.{argument}
use Rattle.iso_model.specs.Search.Arithmetic.{value}
use Rattle.iso_store_core.specs.Presents.{meaning}
use Rattle.iso_arith.proofs.EvaluationLemmas.{value_of_two}
use Rattle.iso_arith.proofs.shorts.flat_compound.Goals as goal

pub returns : goal.returns
returns g c =
    let names = g.S.Store.names c.args.store.now in
    let t = meaning (g.S.Store.present c.args.store.now) c.args.word in
    let call = c.requires.call in
    let found = c.binary.ensures names call.once c.requires.evaluables call.named in
    let x-fits : FitsSigned w64 c.in_ok-x.x = search rules in
    let y-fits : FitsSigned w64 c.in_ok-y.y = search rules in
    let made = rw (to_z-of_z w64 c.in_ok-y.y y-fits) at (rw (to_z-of_z w64 c.in_ok-x.x x-fits) at c.short_binary.ensures) in
    value_of_two names c.args.name c.args.count t call (omega (arith, c.if-count-ne2.false)) c.binary.result c.in_ok-operation.operation c.in_ok-operation.was found
    (argument 0 t) (argument 1 t) c.in_ok-x.x c.in_ok-y.y refl refl (ap value c.in_ok-x.ensures) (ap value c.in_ok-y.ensures) c.short_binary.result made
