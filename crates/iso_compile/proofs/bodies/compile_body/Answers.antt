use Rattle.std.proofs.Common.{◌∷◌, [], sym, subst, arith}
use Rattle.iso_compile.specs.declared.control.Mark.TheVariants.{Clause}
use Rattle.iso_compile.specs.Control.{Goal, AreRight}
use Rattle.iso_compile.proofs.BodyLemmas.{first_works, popped_works, popped_load, right_more}
use Rattle.iso_compile.proofs.VoidLemmas.{placed_first}
use Rattle.iso_compile.proofs.bodies.compile_body.Goals as goal

pub emitting-init : goal.emitting-init
emitting-init c =
    let before = first_works c.args.plan.now c.args.parts.now c.new-code.result.items c.push.new.self.items c.new-tasks.result.items c.saturating_sub.result c.slots.result c.new-code.ensures.items c.in_ok-push.ensures.items c.new-tasks.ensures.items c.saturating_sub.ensures c.slots.ensures in
    (before.0, before.1, right_more c.args.plan.now _ _ c.in_ok-push.ensures.items (subst (AreRight c.args.plan.now) (sym c.new-code.ensures.items) tt) (record { marked = tt; behind = tt }), placed_first c.args.plan.now.places c.in_ok-met.met.items c.in_ok-met.ensures)

pub emitting-smaller : goal.emitting-smaller
emitting-smaller c =
    let popped = popped_load c.pop.new.self.items c.emitting.tasks.items c.in-Some-pop.task c.emitting.next c.in-None.is c.in-Some-pop.ensures.items in
    let less = c.in_ok-next-in-Some-pop.ensures.load in
    omega arith

pub emitting-preserved : goal.emitting-preserved
emitting-preserved c = (
  c.in_ok-next-in-Some-pop.ensures.ends,
  λ b whole. (let p = popped_works c.args.plan.now c.args.parts.now c.emitting.code.items c.pop.new.self.items c.emitting.tasks.items c.in-Some-pop.task c.emitting.next (Goal b Clause ∷ []) c.in-None.is c.in-Some-pop.ensures.items (c.emitting.invariant.1 b whole) in
      c.in_ok-next-in-Some-pop.ensures.works c.args.plan.now c.args.parts.now p.0 p.1 (Goal b Clause ∷ []) p.2 p.3 p.4),
  c.in_ok-next-in-Some-pop.ensures.right c.args.plan.now c.emitting.invariant.2,
  c.emitting.invariant.3,
)

pub emit_part-requires-clause-met : goal.emit_part-requires-clause-met
emit_part-requires-clause-met c = c.emitting.invariant.3
