use Rattle.std.proofs.Common.{◌≡◌, length, map, arith}
use Rattle.std.proofs.lemmas.Bool.Decides.{nat_tests}
use Rattle.iso_model.specs.Terms.TermOf.{term_of}
use Rattle.iso_session_core.proofs.SolutionLemmas.{equation_appended, solution_appended}
use Rattle.iso_session_core.proofs.composed.append_solution.Goals as goal

pub loop-name-preserved : goal.loop-name-preserved
loop-name-preserved c =
    let text = rw c.as_str.ensures.value at c.in_ok-append_equation.ensures.text in
    equation_appended c.args.ops.now c.loop-name.before.now c.loop-name.seen _ c.loop-name.name-index c.args.names.now c.loop-name-item.result (map term_of c.args.values.now) _ _ _ _
    c.loop-name-test.true c.loop-name-item.is c.loop-name.invariant c.in_ok-extend_from_slice.ensures.items text c.in_ok-append_equation.ensures.seen

pub returns : goal.returns
returns c =
    let none : length c.args.names.now ≡ 0 → ⊥ = grind (arith, nat_tests, c.is_empty.ensures, c.if-is_empty.false) in
    solution_appended c.args.ops.now c.loop-name.before.now c.loop-name.seen c.loop-name.name-index c.args.names.now (map term_of c.args.values.now) c.loop-name.line.items c.args.line.now.items
    c.loop-name-test.false none c.loop-name.invariant
