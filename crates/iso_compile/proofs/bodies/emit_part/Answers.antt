use Rattle.std.proofs.Common.{◌≡◌, ℕ, List, Some, refl, ap, ◌∙◌, arith, length, get_or}
use Rattle.std.specs.Borrow.{Bor}
use Rattle.std.specs.List.{slice_get}
use Rattle.std.proofs.lemmas.Option.{slice_get_read}
use Rattle.iso_model.specs.declared.terms.Term.{Term}
use Rattle.iso_model.specs.Search.Bodies.{Body}
use Rattle.iso_prep.specs.declared.bodies.Node.{Node}
use Rattle.iso_prep.specs.Trees.{IsTree, IsBorrowed}
use Rattle.iso_prep.proofs.TreeLemmas.{tree_within}
use Rattle.iso_compile.proofs.BodyLemmas.{ends_grown, load_some, call_works, cut_works, and_works, or_works, if_works, choose_works, and_load, or_load, if_load, choose_load}
use Rattle.iso_compile.proofs.bodies.emit_part.Goals as goal

-- the part at the place of a body
there : (parts : List (Node (Bor Term))) (k : ℕ) (x y : Node (Bor Term)) {b : Body} → IsTree IsBorrowed parts k b → x ≡ get_or parts k x → x ≡ y → slice_get parts k ≡ Some y
there parts k x y tree is same = slice_get_read parts (length parts) k x refl (tree_within tree) is ∙ ap Some same

pub returns-in-Run-clause-works : goal.returns-in-Run-clause-works
returns-in-Run-clause-works c =
    call_works c.args.plan.now c.args.parts.now c.args.code.now.items c.add_goal.new.code.items c.args.tasks.now.items c.args.next c.in-Run.goal (there c.args.parts.now c.args.next.part c.index-parts-part.result _ c.requires.works.1.3 c.index-parts-part.is c.in-Run.is) c.in_ok-add_goal-in-Run.ensures.grown c.in_ok-add_goal-in-Run.ensures.does

pub returns-in-Run-clause-ends : goal.returns-in-Run-clause-ends
returns-in-Run-clause-ends c = ends_grown c.in_ok-add_goal-in-Run.ensures.grown c.requires.ends

pub returns-in-Run-clause-load : goal.returns-in-Run-clause-load
returns-in-Run-clause-load c = omega (arith, load_some c.args.next.part)

pub returns-in-Cut-clause-works : goal.returns-in-Cut-clause-works
returns-in-Cut-clause-works c =
    cut_works c.args.plan.now c.args.parts.now c.args.code.now.items c.add.new.code.items c.args.tasks.now.items c.args.next (there c.args.parts.now c.args.next.part c.index-parts-part.result _ c.requires.works.1.3 c.index-parts-part.is c.in-Cut.is) c.in_ok-add-in-Cut.ensures.grown (c.in_ok-add-in-Cut.ensures.adds c.args.plan.now)

pub returns-in-Cut-clause-ends : goal.returns-in-Cut-clause-ends
returns-in-Cut-clause-ends c = ends_grown c.in_ok-add-in-Cut.ensures.grown c.requires.ends

pub returns-in-Cut-clause-load : goal.returns-in-Cut-clause-load
returns-in-Cut-clause-load c = omega (arith, load_some c.args.next.part)

pub returns-in_ok-push-in-And-clause-works : goal.returns-in_ok-push-in-And-clause-works
returns-in_ok-push-in-And-clause-works c =
    rw c.saturating_sub-last.ensures (and_works c.args.plan.now c.args.parts.now c.args.code.now.items c.args.tasks.now.items c.push.new.self.items c.args.next c.in-And.first (there c.args.parts.now c.args.next.part c.index-parts-part.result _ c.requires.works.1.3 c.index-parts-part.is c.in-And.is) (rw c.saturating_sub-first.ensures at c.in_ok-push-in-And.ensures.items))

pub returns-in_ok-push-in-And-clause-load : goal.returns-in_ok-push-in-And-clause-load
returns-in_ok-push-in-And-clause-load c =
    rw c.saturating_sub-last.ensures (and_load c.args.plan.now c.args.parts.now c.args.code.now.items c.args.tasks.now.items c.push.new.self.items c.args.next c.requires.works.0 c.requires.works.1 c.in-And.first (there c.args.parts.now c.args.next.part c.index-parts-part.result _ c.requires.works.1.3 c.index-parts-part.is c.in-And.is) (rw c.saturating_sub-first.ensures at c.in_ok-push-in-And.ensures.items))

pub returns-in_ok-push-in-Or-clause-works : goal.returns-in_ok-push-in-Or-clause-works
returns-in_ok-push-in-Or-clause-works c =
    rw c.saturating_sub-last.ensures (or_works c.args.plan.now c.args.parts.now c.args.code.now.items c.args.tasks.now.items c.push-in-Or.new.self.items c.args.next c.in-Or.first (there c.args.parts.now c.args.next.part c.index-parts-part.result _ c.requires.works.1.3 c.index-parts-part.is c.in-Or.is) (rw c.saturating_sub-part.ensures at c.in_ok-push-in-Or.ensures.items))

pub returns-in_ok-push-in-Or-clause-load : goal.returns-in_ok-push-in-Or-clause-load
returns-in_ok-push-in-Or-clause-load c =
    rw c.saturating_sub-last.ensures (or_load c.args.plan.now c.args.parts.now c.args.code.now.items c.args.tasks.now.items c.push-in-Or.new.self.items c.args.next c.requires.works.0 c.requires.works.1 c.in-Or.first (there c.args.parts.now c.args.next.part c.index-parts-part.result _ c.requires.works.1.3 c.index-parts-part.is c.in-Or.is) (rw c.saturating_sub-part.ensures at c.in_ok-push-in-Or.ensures.items))

pub returns-in_ok-push-in-If-2-clause-works : goal.returns-in_ok-push-in-If-2-clause-works
returns-in_ok-push-in-If-2-clause-works c =
    rw c.saturating_sub-last.ensures (if_works c.args.plan.now c.args.parts.now c.args.code.now.items c.args.tasks.now.items c.push-in-If-2.new.self.items c.args.next c.in-If.condition c.push-in-If.new.self.items (there c.args.parts.now c.args.next.part c.index-parts-part.result _ c.requires.works.1.3 c.index-parts-part.is c.in-If.is) c.in_ok-push-in-If.ensures.items
    (rw c.saturating_sub-condition.ensures at c.in_ok-push-in-If-2.ensures.items))

pub returns-in_ok-push-in-If-2-clause-load : goal.returns-in_ok-push-in-If-2-clause-load
returns-in_ok-push-in-If-2-clause-load c =
    rw c.saturating_sub-last.ensures (if_load c.args.plan.now c.args.parts.now c.args.code.now.items c.args.tasks.now.items c.push-in-If-2.new.self.items c.args.next c.requires.works.0 c.requires.works.1 c.in-If.condition c.push-in-If.new.self.items (there c.args.parts.now c.args.next.part c.index-parts-part.result _ c.requires.works.1.3 c.index-parts-part.is c.in-If.is) c.in_ok-push-in-If.ensures.items
    (rw c.saturating_sub-condition.ensures at c.in_ok-push-in-If-2.ensures.items))

pub returns-in_ok-push-in-Choose-clause-works : goal.returns-in_ok-push-in-Choose-clause-works
returns-in_ok-push-in-Choose-clause-works c =
    rw c.saturating_sub-last.ensures (choose_works c.args.plan.now c.args.parts.now c.args.code.now.items c.args.tasks.now.items c.push-in-Choose.new.self.items c.args.next c.in-Choose.condition c.in-Choose.then (there c.args.parts.now c.args.next.part c.index-parts-part.result _ c.requires.works.1.3 c.index-parts-part.is c.in-Choose.is)
    (rw (c.saturating_sub-condition-in-Choose.ensures, c.saturating_sub-part-in-Choose.ensures) at c.in_ok-push-in-Choose.ensures.items))

pub returns-in_ok-push-in-Choose-clause-load : goal.returns-in_ok-push-in-Choose-clause-load
returns-in_ok-push-in-Choose-clause-load c =
    rw c.saturating_sub-last.ensures (choose_load c.args.plan.now c.args.parts.now c.args.code.now.items c.args.tasks.now.items c.push-in-Choose.new.self.items c.args.next c.requires.works.0 c.requires.works.1 c.in-Choose.condition c.in-Choose.then (there c.args.parts.now c.args.next.part c.index-parts-part.result _ c.requires.works.1.3 c.index-parts-part.is c.in-Choose.is)
    (rw (c.saturating_sub-condition-in-Choose.ensures, c.saturating_sub-part-in-Choose.ensures) at c.in_ok-push-in-Choose.ensures.items))

pub returns-in-Cut-clause-right : goal.returns-in-Cut-clause-right
returns-in-Cut-clause-right c before = c.in_ok-add-in-Cut.ensures.right c.args.plan.now before (record { marked = tt; behind = tt })
