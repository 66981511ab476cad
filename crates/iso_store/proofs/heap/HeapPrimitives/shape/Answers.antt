use Rattle.std.proofs.Common.{take, sym, ◌∙◌, rules}
use Rattle.std.proofs.lemmas.Int.{to_z-of_z}
use mir.Val.{SFits}
use mir.Syntax.{w128}
use Rattle.iso_store.proofs.HeapReads.{shows_variable, shows_wide}
use Rattle.iso_store.specs.HeapSorted.{sorted-meaning}
use Rattle.iso_store.proofs.heap.HeapPrimitives.shape.Goals as goal

pub returns-in-Var-clause-shape : goal.returns-in-Var-clause-shape
returns-in-Var-clause-shape c =
    let now = c.args.self.now in
    sym c.in-Var.ensures.same ∙ shows_variable (take now.named now.atoms) now.area.low now.next now.is_heap c.in-Var.place c.number.result c.number.ensures

pub returns-in-Var-clause-term : goal.returns-in-Var-clause-term
returns-in-Var-clause-term c =
    let now = c.args.self.now in
    sorted-meaning (take now.named now.atoms) now.area.low now.next now.is_heap c.args.word c.requires

pub returns-in-Boxed-clause-shape : goal.returns-in-Boxed-clause-shape
returns-in-Boxed-clause-shape c =
    let now = c.args.self.now in
    let fits : SFits w128 c.wide.result = search rules in
    rw (to_z-of_z w128 c.wide.result fits)
    (sym c.in-Boxed.ensures.same ∙ shows_wide (take now.named now.atoms) now.area.low now.next now.is_heap c.in-Boxed.place c.wide.result c.wide.ensures)

pub returns-in-Boxed-clause-term : goal.returns-in-Boxed-clause-term
returns-in-Boxed-clause-term c =
    let now = c.args.self.now in
    sorted-meaning (take now.named now.atoms) now.area.low now.next now.is_heap c.args.word c.requires

pub returns-in-Structure-clause-shape : goal.returns-in-Structure-clause-shape
returns-in-Structure-clause-shape c = rw c.in-Structure.ensures.same at c.compound_shape.ensures.shape

pub returns-in-Structure-clause-term : goal.returns-in-Structure-clause-term
returns-in-Structure-clause-term c =
    let now = c.args.self.now in
    sorted-meaning (take now.named now.atoms) now.area.low now.next now.is_heap c.args.word c.requires
