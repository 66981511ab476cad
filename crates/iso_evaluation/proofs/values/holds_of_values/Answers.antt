use Rattle.std.proofs.Common.{◌≡◌, ◌∷◌, [], Ok, length, reverse, sym, subst, arith, rules}
use Rattle.std.specs.List.{AllZip}
use Rattle.std.specs.Prelude.{FitsSigned}
use Rattle.std.specs.Int.{w128}
use Rattle.std.proofs.lemmas.Int.{to_z-of_z}
use Rattle.iso_compile.specs.Expressions.{done}
use Rattle.iso_instructions.specs.Steps.{IsStep}
use Rattle.iso_evaluation.specs.Running.{HoldsOfTwo, Leaves}
use Rattle.iso_evaluation.proofs.GoalLemmas.{both}
use Rattle.iso_evaluation.proofs.ValueLemmas.{not_two_hold, two_done, two_hold}
use Rattle.iso_evaluation.proofs.values.holds_of_values.Goals as goal

pub returns-in-Some-clause-holds : goal.returns-in-Some-clause-holds
returns-in-Some-clause-holds g c next s ks stand zip =
    let names = g.S.Store.names c.args.store.now in
    let alone = subst (λ js. AllZip (IsStep names) ks js) c.in-Some.ensures zip in
    subst (HoldsOfTwo names c.args.comparison c.holds_of_both.result)
    (sym (two_done names next s ks c.in-Some.left.now c.in-Some.right.now alone)) (c.holds_of_both.ensures.holds next s stand)

pub returns-then-len-ne2-clause-holds : goal.returns-then-len-ne2-clause-holds
returns-then-len-ne2-clause-holds g c next s ks stand zip =
    let names = g.S.Store.names c.args.store.now in
    let values = c.run_steps.new.values.items in
    let u = c.in_ok-run_steps.field-0 in
    let left = subst (λ zs. Leaves names (Ok u) values (done next s ks (reverse zs))) c.clear.ensures.items (c.in_ok-run_steps.ensures.values next s ks stand zip) in
    not_two_hold names c.args.comparison (done next s ks []) u values left (λ is. c.if-len-ne2.true (omega (arith, c.len.ensures, is)))

pub returns-clause-holds : goal.returns-clause-holds
returns-clause-holds g c next s ks stand zip =
    let names = g.S.Store.names c.args.store.now in
    let values = c.run_steps.new.values.items in
    let u = c.in_ok-run_steps.field-0 in
    let left = subst (λ zs. Leaves names (Ok u) values (done next s ks (reverse zs))) c.clear.ensures.items (c.in_ok-run_steps.ensures.values next s ks stand zip) in
    let x = c.index.result.now in
    let y = c.index-2.result.now in
    let many : length values ≡ 2 = omega (arith, c.len.ensures, c.if-len-ne2.false) in
    let are : values ≡ x ∷ y ∷ [] = both values x y many c.index.ensures c.index-2.ensures in
    let first : FitsSigned w128 x = search rules in
    let second : FitsSigned w128 y = search rules in
    let holds = rw (to_z-of_z w128 x first, to_z-of_z w128 y second) at c.holds.ensures in
    two_hold names c.args.comparison (done next s ks []) u values x y c.holds.result left are holds
