use Rattle.std.proofs.Common.{take}
use Rattle.iso_store_core.specs.Presents.{meaning}
use Rattle.iso_store.specs.declared.heap_cells.HeapWord.TheVariants.{Var}
use Rattle.iso_store.proofs.HeapBuilt.{as_present}
use Rattle.iso_store.proofs.HeapReads.{shows_variable}
use Rattle.iso_store.proofs.Steps.{variable_unifier}
use Rattle.iso_store.proofs.heap_meetings.bind_end.Goals as goal

pub bind_place-requires-clause-absent : goal.bind_place-requires-clause-absent
bind_place-requires-clause-absent c =
    let now = c.args.heap.now in
    c.requires.absent c.number-number.result (shows_variable (take now.named now.atoms) now.area.low now.next now.is_heap c.args.place c.number-number.result c.number-number.ensures)

pub bind_place-requires-clause-younger : goal.bind_place-requires-clause-younger
bind_place-requires-clause-younger c =
    let now = c.args.heap.now in
    c.requires.younger c.number-number.result (shows_variable (take now.named now.atoms) now.area.low now.next now.is_heap c.args.place c.number-number.result c.number-number.ensures)

pub returns-in-Ok-clause-unified : goal.returns-in-Ok-clause-unified
returns-in-Ok-clause-unified c =
    let now = c.args.heap.now in
    let number = c.number-number.result in
    let is = shows_variable (take now.named now.atoms) now.area.low now.next now.is_heap c.args.place number c.number-number.ensures in
    (_, variable_unifier number (meaning (as_present now) (Var c.args.place)) (meaning (as_present now) c.args.target) is (c.requires.absent number is) (c.requires.younger number is), c.in-Ok.ensures.bound)
