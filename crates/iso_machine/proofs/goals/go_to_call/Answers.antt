use Rattle.std.proofs.Common.{None, subst, arith}
use Rattle.iso_environments.specs.Answering.{IsArithmeticThere}
use Rattle.iso_environments.specs.Putting.{IsCallThere}
use Rattle.iso_instructions.specs.declared.instructions.Instruction.TheVariants as instruction
use Rattle.iso_machine.specs.Instructions.{IsInstructionThere}
use Rattle.iso_machine.proofs.FirstGoals.{code_stops}
use Rattle.iso_machine.proofs.Moves.Went.{behind_more, behind_none, came_moved, refused_behind, went_not}
use Rattle.iso_machine.proofs.goals.go_to_call.Goals as goal

pub loop-rest-init : goal.loop-rest-init
loop-rest-init g c = behind_none g.S.Store g.S.Cells.atom_word c.args.search.now c.requires.0 c.requires.1

pub returns-in_default-next_try-clause-came : goal.returns-in_default-next_try-clause-came
returns-in_default-next_try-clause-came g c = λ old first. c.loop-rest.invariant.behind old first

pub act_there-requires : goal.act_there-requires
act_there-requires g c =
    let h = c.loop-rest.invariant in
    rw c.as_slice.ensures.value (code_stops g.S.Store g.S.Cells.atom_word c.loop-rest.search c.in-Some.rest
    c.in-Some.ensures h.state h.stands)

pub returns-in-Calls-clause-came : goal.returns-in-Calls-clause-came
returns-in-Calls-clause-came g c = λ old first. c.loop-rest.invariant.behind old first

pub returns-in-Calls-clause-there : goal.returns-in-Calls-clause-there
returns-in-Calls-clause-there g c = (
  c.in-Some.ensures,
  subst (λ fs. IsCallThere fs c.in-Some.rest) c.as_slice.ensures.value c.in-Calls.ensures,
)

pub compute-requires-clause-now : goal.compute-requires-clause-now
compute-requires-clause-now g c = c.in-Some.ensures

pub compute-requires-clause-there : goal.compute-requires-clause-there
compute-requires-clause-there g c =
    subst (λ fs. IsArithmeticThere fs c.in-Some.rest) c.as_slice.ensures.value c.in-Computes.ensures

pub compute-requires-clause-more : goal.compute-requires-clause-more
compute-requires-clause-more g c = λ none. absurd (omega (arith, c.if-search-ne0.true, none))

pub compute-requires-clause-stands : goal.compute-requires-clause-stands
compute-requires-clause-stands g c =
    (let h = c.loop-rest.invariant in (c.loop-rest.search.choices, h.state, h.stands))

pub returns-in_err-compute-in-Computes-clause-came : goal.returns-in_err-compute-in-Computes-clause-came
returns-in_err-compute-in-Computes-clause-came g c = λ old first.
    went_not g.S.Store g.S.Cells.atom_word c.from_residual-in_err-compute-in-Computes.result _ c.from_residual-in_err-compute-in-Computes.ensures.0
    c.from_residual-in_err-compute-in-Computes.ensures.1
    (refused_behind g.S.Store g.S.Cells.atom_word _ (c.loop-rest.invariant.behind old first)
    (c.in_err-compute-in-Computes.ensures.came c.loop-rest.invariant.state c.loop-rest.invariant.stands))

pub loop-rest-smaller-then-search-ne0 : goal.loop-rest-smaller-then-search-ne0
loop-rest-smaller-then-search-ne0 g c =
    (let h = c.loop-rest.invariant in (c.in_ok-compute-in-Computes.ensures.came h.state h.stands None).falls)

pub loop-rest-preserved-then-search-ne0 : goal.loop-rest-preserved-then-search-ne0
loop-rest-preserved-then-search-ne0 g c =
    let fewer = c.in_ok-compute-in-Computes.ensures.steps in
    let h = c.loop-rest.invariant in
    behind_more g.S.Store g.S.Cells.atom_word h (c.in_ok-compute-in-Computes.ensures.came h.state h.stands)
    (omega (arith, fewer))

pub cut_back-requires-clause-now : goal.cut_back-requires-clause-now
cut_back-requires-clause-now g c = c.in-Some.ensures

pub cut_back-requires-clause-there : goal.cut_back-requires-clause-there
cut_back-requires-clause-there g c =
    subst (λ fs. IsInstructionThere fs c.in-Some.rest (instruction.Cut c.in-Cuts.mark)) c.as_slice.ensures.value
    c.in-Cuts.ensures

pub cut_back-requires-clause-stands : goal.cut_back-requires-clause-stands
cut_back-requires-clause-stands g c = (let h = c.loop-rest.invariant in (h.state, h.stands))

pub loop-rest-smaller : goal.loop-rest-smaller
loop-rest-smaller g c = c.cut_back.ensures.moved.falls

pub loop-rest-preserved : goal.loop-rest-preserved
loop-rest-preserved g c =
    let same = c.cut_back.ensures.steps in
    behind_more g.S.Store g.S.Cells.atom_word c.loop-rest.invariant
    (came_moved g.S.Store g.S.Cells.atom_word c.cut_back.ensures.moved) (omega (arith, same))

pub returns-in_default-act_there-clause-came : goal.returns-in_default-act_there-clause-came
returns-in_default-act_there-clause-came g c = λ old first. c.loop-rest.invariant.behind old first

pub returns-in_default-act_there-2-clause-came : goal.returns-in_default-act_there-2-clause-came
returns-in_default-act_there-2-clause-came g c = λ old first. c.loop-rest.invariant.behind old first

pub try_next-requires-clause-failing : goal.try_next-requires-clause-failing
try_next-requires-clause-failing g c = c.in-Some-next_try.ensures.0

pub try_next-requires-clause-stands : goal.try_next-requires-clause-stands
try_next-requires-clause-stands g c = (let h = c.loop-rest.invariant in (h.state, h.stands))

pub try_next-requires-clause-tries : goal.try_next-requires-clause-tries
try_next-requires-clause-tries g c = c.in-Some-next_try.ensures.1

pub returns-in_err-try_next-clause-came : goal.returns-in_err-try_next-clause-came
returns-in_err-try_next-clause-came g c = λ old first.
    went_not g.S.Store g.S.Cells.atom_word c.from_residual.result _ c.from_residual.ensures.0
    c.from_residual.ensures.1
    (refused_behind g.S.Store g.S.Cells.atom_word _ (c.loop-rest.invariant.behind old first)
    c.in_err-try_next.ensures.came)

pub loop-rest-smaller-in_default : goal.loop-rest-smaller-in_default
loop-rest-smaller-in_default g c = (c.in_ok-try_next.ensures.came None).falls

pub loop-rest-preserved-in_default : goal.loop-rest-preserved-in_default
loop-rest-preserved-in_default g c =
    let same = c.in_ok-try_next.ensures.steps in
    behind_more g.S.Store g.S.Cells.atom_word c.loop-rest.invariant c.in_ok-try_next.ensures.came
    (omega (arith, same))
