use Rattle.std.proofs.Common.{◌≡◌, ◌+◌, ◌∷◌, ◌||◌, ap, sym, ◌∙◌, arith}
use Rattle.iso_model.specs.Terms.Trees.{row}
use Rattle.iso_model.specs.Terms.Variables.{occurs}
use Rattle.iso_store_core.specs.Arguments.{arguments, arity, arguments_from}
use Rattle.iso_store_core.specs.Presents.{meaning}
use Rattle.iso_store.proofs.ArgumentLemmas.{arguments-more, listed-end}
use Rattle.iso_store.proofs.few.look_on.Goals as goal

pub returns-in-There : goal.returns-in-There
returns-in-There g c =
    let p = g.S.Primitives.present c.args.store.now in
    let m = meaning p c.args.compound in
    let i = c.loop-index.index in
    let x = c.args.number in
    let argument = meaning p c.end_of_arg-argument.result in
    let more = arguments-more i c.args.count m argument c.loop-index-test.true c.requires.arity c.end_of_arg-argument.ensures.value in
    let parts : occurs x (row (arguments_from c.args.index m)) ≡ occurs x (row (argument ∷ arguments_from (i + 1) m)) = c.loop-index.invariant.same ∙ ap (λ us. occurs x (row us)) more in
    parts ∙ ap (λ b. b || occurs x (row (arguments_from (i + 1) m))) c.in-There.ensures

pub returns-in-Compound : goal.returns-in-Compound
returns-in-Compound g c =
    let p = g.S.Primitives.present c.args.store.now in
    let m = meaning p c.args.compound in
    let i = c.loop-index.index in
    let x = c.args.number in
    let argument = meaning p c.end_of_arg-argument.result in
    let more = arguments-more i c.args.count m argument c.loop-index-test.true c.requires.arity c.end_of_arg-argument.ensures.value in
    let parts : occurs x (row (arguments_from c.args.index m)) ≡ occurs x (row (argument ∷ arguments_from (i + 1) m)) = c.loop-index.invariant.same ∙ ap (λ us. occurs x (row us)) more in
    let e = c.in-Compound.ensures in
    let found = c.end_of_arg-argument.ensures in
    (found.holds, e, found.made ∙ ap arity e.2 ∙ e.3, omega (arith, c.loop-index-test.true), parts)

pub loop-index-preserved : goal.loop-index-preserved
loop-index-preserved g c =
    let p = g.S.Primitives.present c.args.store.now in
    let m = meaning p c.args.compound in
    let i = c.loop-index.index in
    let x = c.args.number in
    let argument = meaning p c.end_of_arg-argument.result in
    let more = arguments-more i c.args.count m argument c.loop-index-test.true c.requires.arity c.end_of_arg-argument.ensures.value in
    let parts : occurs x (row (arguments_from c.args.index m)) ≡ occurs x (row (argument ∷ arguments_from (i + 1) m)) = c.loop-index.invariant.same ∙ ap (λ us. occurs x (row us)) more in
    record {
      within = omega (arith, c.loop-index-test.true);
      same = parts ∙ ap (λ b. b || occurs x (row (arguments_from (i + 1) m))) c.in-Absent.ensures;
    }

pub returns : goal.returns
returns g c =
    let p = g.S.Primitives.present c.args.store.now in
    let m = meaning p c.args.compound in
    let i = c.loop-index.index in
    let x = c.args.number in
    let last : i ≡ c.args.count = omega (arith, c.loop-index.invariant.within, c.loop-index-test.false) in
    c.loop-index.invariant.same ∙ ap (λ us. occurs x (row us)) (listed-end i (arguments m) (c.requires.arity ∙ sym last))
