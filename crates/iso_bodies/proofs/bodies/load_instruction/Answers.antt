use Rattle.std.proofs.Common.{refl}
use Rattle.iso_code.proofs.LoadLemmas.{body_part_kept}
use Rattle.iso_bodies.proofs.bodies.load_instruction.Goals as goal

pub returns-in_ok-load_goal-in-Call-clause-loaded : goal.returns-in_ok-load_goal-in-Call-clause-loaded
returns-in_ok-load_goal-in-Call-clause-loaded g c =
    rw c.in-Call.is (c.in_ok-load_goal-in-Call.field-0, refl, c.in_ok-load_goal-in-Call.ensures.loaded)

pub returns-in_ok-load_goal-in-Execute-clause-loaded : goal.returns-in_ok-load_goal-in-Execute-clause-loaded
returns-in_ok-load_goal-in-Execute-clause-loaded g c =
    rw c.in-Execute.is (c.in_ok-load_goal-in-Execute.field-0, refl, c.in_ok-load_goal-in-Execute.ensures.loaded)

pub returns-in_ok-steps-in-Is-clause-loaded : goal.returns-in_ok-steps-in-Is-clause-loaded
returns-in_ok-steps-in-Is-clause-loaded g c =
    let old = g.S.Store.names c.load_part.new.store in
    let new = g.S.Store.names c.load_steps.new.store in
    let left = body_part_kept old new c.load_steps.ensures.rest.names 0 c.in-Is.part c.in_ok-left-in-Is.left c.in_ok-left-in-Is.ensures.loaded in
    let steps = rw c.as_slice.ensures.value at c.in_ok-steps-in-Is.ensures.loaded in
    rw c.in-Is.is (c.in_ok-left-in-Is.left, c.in_ok-steps-in-Is.steps, refl, left, steps)

pub returns-in_ok-steps-in-Compare-clause-loaded : goal.returns-in_ok-steps-in-Compare-clause-loaded
returns-in_ok-steps-in-Compare-clause-loaded g c =
    let steps = rw c.as_slice-in-Compare.ensures.value at c.in_ok-steps-in-Compare.ensures.loaded in
    rw c.in-Compare.is (c.in_ok-steps-in-Compare.steps, refl, steps)
