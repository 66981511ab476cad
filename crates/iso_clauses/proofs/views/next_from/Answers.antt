-- What a view gives can be read. One that is at its end gives nothing.
use Rattle.std.proofs.Common.{◌≡◌, ◌∙◌, List, Some, sym, ap, subst, drop, take}
use Rattle.std.specs.Option.{IfSome}
use Rattle.iso_clauses.specs.Blocks.{ids_from}
use Rattle.iso_clauses.specs.Slots.{given, value_at}
use Rattle.iso_clauses.specs.declared.slots.Slot.{Slot}
use Rattle.std.specs.List.{slice_get}
use Rattle.iso_clauses.specs.Kept.{pending, Giving}
use Rattle.iso_clauses.specs.Stepping.{first_number, behind}
use Rattle.iso_clauses.proofs.ViewLemmas.{given-stand, first-stands, Giving-ended}
use Rattle.iso_clauses.proofs.views.next_from.Goals as goal

pub returns-then-view-clause-first : goal.returns-then-view-clause-first
returns-then-view-clause-first g c = λ r cs gives. sym (ap first_number (Giving-ended c.args.slots.now.items r c.args.lists.now.items c.args.view.now cs c.if-view.true gives))

pub returns-then-view-clause-rest : goal.returns-then-view-clause-rest
returns-then-view-clause-rest g c = λ r cs gives. (let none = Giving-ended c.args.slots.now.items r c.args.lists.now.items c.args.view.now cs c.if-view.true gives in
    subst (Giving c.args.slots.now.items r c.args.lists.now.items c.args.view.now) (none ∙ sym (ap behind none)) gives)

pub returns-then-view-clause-stand : goal.returns-then-view-clause-stand
returns-then-view-clause-stand g c =
    let v = c.args.view.now in
    λ r cs gives k d at. given-stand c.args.slots.now.items v.made (pending c.args.lists.now.items v) k d (ap (λ xs. slice_get xs k) gives.clauses ∙ at)

pub returns-clause-stand : goal.returns-clause-stand
returns-clause-stand g c =
    let v = c.args.view.now in
    λ r cs gives k d at. given-stand c.args.slots.now.items v.made (pending c.args.lists.now.items v) k d (ap (λ xs. slice_get xs k) gives.clauses ∙ at)

pub returns-clause-there : goal.returns-clause-there
returns-clause-there g c =
    let v = c.args.view.now in
    let slots = c.as_slice.result.now in
    let numbers = drop v.next (take v.end (ids_from c.block-block.result.now v.outer)) in
    subst (λ (ss : List (Slot g.row.C.Denot)). IfSome c.step-clause.result.0 (λ n. (value : g.row.C.Denot) × (value_at ss n ≡ Some value))) c.as_slice.ensures.value
    (first-stands slots (given slots v.made numbers) c.step-clause.result.0 c.step-clause.ensures.steps.0 (given-stand slots v.made numbers))
