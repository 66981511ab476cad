use Rattle.std.proofs.Common.{◌<◌, false, length, get_or, ap, sym, ◌∙◌, arith}
use Rattle.iso_code.specs.Loaded.{met_behind}
use Rattle.iso_bodies.specs.Clauses.{head_operands, none_met}
use Rattle.iso_bodies.proofs.FreshLemmas.{none_begun, met_begun, new_begun, all_begun}
use Rattle.iso_bodies.proofs.fresh.fresh_behind.Goals as goal
use Rattle.iso_bodies.proofs.fresh.fresh_behind.Goals.{then-not-is_met+in_ok-push, else-not-is_met}

pub loop-variable-init : goal.loop-variable-init
loop-variable-init c = rw c.new-fresh.ensures.items (none_begun (met_behind none_met (head_operands c.args.head.now)) c.args.count)

pub loop-variable-preserved : goal.loop-variable-preserved
loop-variable-preserved c =
    let met = met_behind none_met (head_operands c.args.head.now) in
    let count = c.args.count in
    let i = c.loop-variable.variable in
    let list = c.in_ok-met.met.items in
    let value = c.deref-is_met-items.ensures.value in
    let inside : i < length list = rw value at c.loop-variable-test.true in
    let room : i < count = omega (arith, inside, c.in_ok-met.ensures.many) in
    let says = sym (c.in_ok-met.ensures.met.each i inside) ∙ ap (λ l. get_or l i false) (sym value) in
    elim c.if-not-is_met.branch [
      | then-not-is_met+in_ok-push w ↦ rw (w.fresh-is, w.in_ok-push.ensures.items) (new_begun met count i c.loop-variable.fresh.items room (says ∙ w.if-not-is_met.true) c.loop-variable.invariant)
      | else-not-is_met w ↦ rw w.fresh-is (met_begun met count i c.loop-variable.fresh.items (says ∙ w.if-not-is_met.false) c.loop-variable.invariant)
    ]

pub returns : goal.returns
returns c =
    let many = ap length c.deref-is_met-items.ensures.value ∙ c.in_ok-met.ensures.many in
    all_begun c.args.head.now c.args.count c.loop-variable.variable c.loop-variable.fresh.items (omega (arith, many, c.loop-variable-test.false)) c.loop-variable.invariant
