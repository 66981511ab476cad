-- Each class gives a place that no variable has yet.
use Rattle.std.proofs.Common.{◌<◌, ◌≤◌, refl, sym, subst, ◌∙◌, arith}
use Rattle.iso_prep.specs.declared.classes.Class.TheVariants.{Void, Temporary, Permanent}
use Rattle.iso_alloc.specs.declared.places.Place.TheVariants.{Register, Slot, Nowhere}
use Rattle.iso_alloc.proofs.PlanLemmas.{grown_plan, fresh_slot, fresh_register, fresh_argument, argument_suits, other_suits}
use Rattle.iso_alloc.proofs.plans.Plan.give.Goals as goal

pub returns-in_ok-add-in-Void-default-clause-plan : goal.returns-in_ok-add-in-Void-default-clause-plan
returns-in_ok-add-in-Void-default-clause-plan c p is class last argument =
    let call = c.in_ok-add-in-Void-default.ensures in
    let slots = call.slots in
    let registers = call.registers in
    grown_plan c.args.self.now p is c.add.new.self Nowhere Void (sym c.in-Void-default.is-0 ∙ class) call.places (omega (arith, slots)) (omega (arith, registers)) tt (λ y h. refl)

pub returns-in_ok-add_slot-in-Permanent-default-clause-plan : goal.returns-in_ok-add_slot-in-Permanent-default-clause-plan
returns-in_ok-add_slot-in-Permanent-default-clause-plan c p is class last argument =
    let call = c.in_ok-add_slot-in-Permanent-default.ensures in
    let slots = call.slots in
    let registers = call.registers in
    grown_plan c.args.self.now p is c.add_slot.new.self (Slot c.args.self.now.slots) Permanent (sym c.in-Permanent-default.is-0 ∙ class) call.places (omega (arith, slots)) (omega (arith, registers)) (omega (arith, slots)) (fresh_slot c.args.self.now p is)

pub returns-in_ok-add_slot-in-Temporary-default-clause-plan : goal.returns-in_ok-add_slot-in-Temporary-default-clause-plan
returns-in_ok-add_slot-in-Temporary-default-clause-plan c p is class last argument =
    let call = c.in_ok-add_slot-in-Temporary-default.ensures in
    let slots = call.slots in
    let registers = call.registers in
    grown_plan c.args.self.now p is c.add_slot-in-Temporary-default.new.self (Slot c.args.self.now.slots) Temporary (sym c.in-Temporary-default.is-0 ∙ class) call.places (omega (arith, slots)) (omega (arith, registers)) (subst (λ n. 1 < n) last c.if-last_use-gt1.true, omega (arith, slots)) (fresh_slot c.args.self.now p is)

pub returns-in_ok-add-in-Temporary-Some-clause-plan : goal.returns-in_ok-add-in-Temporary-Some-clause-plan
returns-in_ok-add-in-Temporary-Some-clause-plan c p is class last argument =
    let call = c.in_ok-add-in-Temporary-Some.ensures in
    let slots = call.slots in
    let registers = call.registers in
    let one = sym argument ∙ c.in-Temporary-Some.is-1 in
    grown_plan c.args.self.now p is c.add-in-Temporary-Some.new.self (Register c.in-Temporary-Some.register) Temporary (sym c.in-Temporary-Some.is-0 ∙ class) call.places (omega (arith, slots)) (omega (arith, registers)) (argument_suits c.args.self.now p is c.add-in-Temporary-Some.new.self _ c.in-Temporary-Some.register (subst (λ n. n ≤ 1) last (omega (arith, c.if-last_use-gt1.false))) one (omega (arith, registers))) (fresh_argument c.args.self.now p is c.in-Temporary-Some.register one)

pub returns-in_ok-add_register-in-Temporary-None-clause-plan : goal.returns-in_ok-add_register-in-Temporary-None-clause-plan
returns-in_ok-add_register-in-Temporary-None-clause-plan c p is class last argument =
    let call = c.in_ok-add_register-in-Temporary-None.ensures in
    let slots = call.slots in
    let registers = call.registers in
    grown_plan c.args.self.now p is c.add_register.new.self (Register c.args.self.now.registers) Temporary (sym c.in-Temporary-None.is-0 ∙ class) call.places (omega (arith, slots)) (omega (arith, registers)) (other_suits c.args.self.now p is c.add_register.new.self _ (subst (λ n. n ≤ 1) last (omega (arith, c.if-last_use-gt1.false))) (sym argument ∙ c.in-Temporary-None.is-1) (omega (arith, registers))) (fresh_register c.args.self.now p is)
