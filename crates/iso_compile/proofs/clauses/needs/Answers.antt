use Rattle.std.proofs.Common.{refl, sym, subst, arith}
use Rattle.iso_compile.specs.Control.{AreSized}
use Rattle.std.proofs.lemmas.List.{drop_all}
use Rattle.std.proofs.lemmas.Option.{slice_get_read}
use Rattle.iso_compile.proofs.ClauseLemmas.{sized_up}
use Rattle.iso_compile.proofs.GoalLemmas.{one_left}
use Rattle.iso_compile.proofs.clauses.needs.Goals as goal

pub loop-instruction-init : goal.loop-instruction-init
loop-instruction-init c = ((λ s r a b h. h), omega arith, omega arith)

pub loop-instruction-preserved : goal.loop-instruction-preserved
loop-instruction-preserved c =
    let before = c.loop-instruction.invariant in
    let slots = c.in_ok-slots.ensures.slots in
    let registers = c.in_ok-slots.ensures.registers in
    let items = c.deref-instruction-items.result.now in
    let here = one_left items c.loop-instruction.instruction-index c.instruction-item.result (slice_get_read items _ _ _ refl c.loop-instruction-test.true c.instruction-item.is) in (
      λ s r a b h. before.0 s r (omega (arith, slots, a)) (omega (arith, registers, b)) (subst (AreSized s r) (sym here) (sized_up _ _ s r c.instruction-item.result a b c.in_ok-slots.ensures.sized, h)),
      (let low = before.1 in omega (arith, low, slots)),
      (let low = before.2 in omega (arith, low, registers)),
    )

pub returns-clause-sized : goal.returns-clause-sized
returns-clause-sized c =
    let s = c.loop-instruction.slots in
    let r = c.loop-instruction.registers in
    let items = c.deref-instruction-items.result.now in
    subst (AreSized s r) c.deref-instruction-items.ensures.value
    (c.loop-instruction.invariant.0 s r (omega arith) (omega arith) (subst (AreSized s r) (sym (drop_all c.loop-instruction.instruction-index items c.loop-instruction-test.false)) tt))

pub returns-clause-slots : goal.returns-clause-slots
returns-clause-slots c = c.loop-instruction.invariant.1

pub returns-clause-registers : goal.returns-clause-registers
returns-clause-registers c = c.loop-instruction.invariant.2
