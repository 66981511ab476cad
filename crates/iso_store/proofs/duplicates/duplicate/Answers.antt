use Rattle.std.proofs.Common.{◌+◌, map, refl, ap, sym, ◌∙◌, subst, arith}
use Rattle.iso_model.specs.Terms.Variables.{variables, variable_count}
use Rattle.iso_model.specs.Terms.Copies.{place_of, copy_from}
use Rattle.iso_store_core.specs.Presents.{meaning}
use Rattle.iso_store.specs.Plans.{IsPlan}
use Rattle.iso_store.proofs.CellCounts.{built-counted}
use Rattle.iso_store.proofs.Gathering.{keeps-then, grows-on, grows-both, made-after}
use Rattle.iso_store.proofs.Renaming.{cells-renamed}
use Rattle.iso_store.proofs.PlanMade.{plan-of-copy}
use Rattle.iso_store.proofs.duplicates.duplicate.Given.{Over}
use Rattle.iso_store.proofs.duplicates.duplicate.Goals.{After-as_slice}
use Rattle.iso_store.proofs.duplicates.duplicate.Goals as goal

-- the plan is one of the copy
plan : (g : Over) (c : After-as_slice g) → IsPlan (g.S.Primitives.names c.variables_from.new.store) (map (g.S.Primitives.present c.variables_from.new.store).term c.in_ok-known.known.items) c.as_slice.result.now
    (copy_from (meaning (g.S.Primitives.present c.args.store.now) c.args.word) (g.S.Primitives.present c.args.store.now).next)
plan g c =
    let p = g.S.Primitives.present c.args.store.now in
    let q = g.S.Primitives.present c.variables_from.new.store in
    let copy = copy_from (meaning p c.args.word) p.next in
    let known = c.in_ok-known.known.items in
    let parts = c.in_ok-planned.planned.parts.items in
    let number = c.reserve-first.ensures.number ∙ ap (λ r. r.next) (c.keep.ensures.present ∙ c.take_scratch.ensures.present) in
    let size = rw c.take_scratch.ensures.present at c.in_ok-planned.ensures.count in
    let here = rw (c.take_scratch.ensures.present, c.take_scratch.ensures.names) at c.in_ok-planned.ensures.plan in
    let copied = plan-of-copy (g.S.Primitives.names c.args.store.now) (meaning p c.args.word) known parts c.reserve-first.result p.next c.in_ok-planned.planned.variables here c.in_ok-known.ensures.made size number in
    let same = sym (c.in_ok-known.ensures.names ∙ c.reserve-first.ensures.names ∙ c.keep.ensures.names ∙ c.take_scratch.ensures.names) in
    subst (λ ks. IsPlan (g.S.Primitives.names c.variables_from.new.store) (map q.term known) ks copy) (sym c.as_slice.ensures.value) (subst (λ ns. IsPlan ns (map q.term known) parts copy) same copied)

pub make_plan-requires-clause-plan : goal.make_plan-requires-clause-plan
make_plan-requires-clause-plan g c =
    let p = g.S.Primitives.present c.args.store.now in
    (copy_from (meaning p c.args.word) p.next, plan g (goal.at.make_plan-requires-clause-plan g c).After-as_slice)

pub returns-clause-made : goal.returns-clause-made
returns-clause-made g c =
    let p = g.S.Primitives.present c.args.store.now in
    let copy = copy_from (meaning p c.args.word) p.next in
    let swapped = c.keep.ensures.present ∙ c.take_scratch.ensures.present in
    let reserved = rw swapped at c.reserve-first.ensures.words in
    let kept = rw swapped at c.reserve-first.ensures.substitution in
    let words = keeps-then reserved c.in_ok-known.ensures.made.words in
    let bindings = c.in_ok-known.ensures.made.substitution ∙ kept in
    made-after (g.S.Primitives.present c.make_plan.new.store) copy copy c.make_plan.result words bindings refl (c.make_plan.ensures.made copy (plan g (goal.at.returns-clause-made g c).After-as_slice))

pub returns-clause-cells : goal.returns-clause-cells
returns-clause-cells g c =
    let p = g.S.Primitives.present c.args.store.now in
    let t = meaning p c.args.word in
    let size = rw c.take_scratch.ensures.present at c.in_ok-planned.ensures.count in
    let cells = cells-renamed (λ x. p.next + place_of x (variables t)) g.S.Primitives.atomic g.S.Primitives.width t in
    let reserved = rw (c.keep.ensures.present ∙ c.take_scratch.ensures.present) at c.reserve-first.ensures.cells in
    let both = grows-both c.in_ok-planned.planned.variables (variable_count t) reserved c.in_ok-known.ensures.cells (omega arith) (omega arith) in
    grows-on _ both (c.make_plan.ensures.cells (copy_from t p.next) (plan g (goal.at.returns-clause-cells g c).After-as_slice)) (omega arith)

pub returns-clause-counted : goal.returns-clause-counted
returns-clause-counted g c =
    let p = g.S.Primitives.present c.args.store.now in
    let swapped = c.keep.ensures.present ∙ c.take_scratch.ensures.present in
    let made = c.in_ok-known.ensures.each_cell in
    let reserved = rw swapped at c.reserve-first.ensures.cells in
    let numbers = rw swapped at c.reserve-first.ensures.numbers in
    let cells = c.make_plan.ensures.cells (copy_from (meaning p c.args.word) p.next) (plan g (goal.at.returns-clause-counted g c).After-as_slice) in
    built-counted (g.S.Primitives.present c.make_plan.new.store) c.make_plan.result numbers reserved c.in_ok-known.ensures.numbers (omega arith) cells c.make_plan.ensures.numbers

pub returns-in_err-known-clause-cells : goal.returns-in_err-known-clause-cells
returns-in_err-known-clause-cells g c =
    let swapped = c.keep.ensures.present ∙ c.take_scratch.ensures.present in
    let size = rw c.take_scratch.ensures.present at c.in_ok-planned.ensures.count in
    let reserved = rw swapped at c.reserve-first.ensures.cells in
    grows-both _ _ reserved c.variables_from.ensures.cells (omega (arith, size)) (omega (arith, size))
