use Rattle.std.proofs.Common.{take, refl, ap, arith}
use Rattle.std.proofs.lemmas.Option.{slice_get_within}
use Rattle.iso_store.specs.declared.heap_cells.Cell.TheVariants.{Unbound}
use Rattle.iso_store.specs.declared.heap_cells.HeapWord.TheVariants.{Var}
use Rattle.iso_store.specs.HeapStores.{number_of, is_variable_cell, bound_word}
use Rattle.iso_store.proofs.HeapApart.{heap-leads-bound}
use Rattle.iso_store.proofs.HeapReads.{shows_variable}
use Rattle.iso_store.proofs.HeapBound.{binding-area, binding-marks, binding-binds, binding-places, binding-grows}
use Rattle.iso_store.proofs.heap.Heap.bind_place.Goals as goal

pub bind_cell-requires-clause-index : goal.bind_cell-requires-clause-index
bind_cell-requires-clause-index c = slice_get_within c.args.self.now.area.low c.args.place (Unbound c.args.number) c.requires.free

pub bind_cell-requires-clause-storable : goal.bind_cell-requires-clause-storable
bind_cell-requires-clause-storable c =
    let now = c.args.self.now in
    let below = now.is_heap.numbered c.args.place c.args.number (ap number_of c.requires.free) in
    omega arith

pub invariant_of-self : goal.invariant_of-self
invariant_of-self c =
    let now = c.args.self.now in
    let free = c.requires.free in
    let is = shows_variable (take now.named now.atoms) now.area.low now.next now.is_heap c.args.place c.args.number free in
    let after = binding-area (take now.named now.atoms) now.area.low now.next now.is_heap (Var c.args.place) c.args.target c.args.place c.args.number c.args.target (ap is_variable_cell free) (ap bound_word free) refl c.requires.holds c.requires.end refl is c.requires.absent c.requires.younger now.newest now.area c.bind_cell.new.area refl now.newest_within now.trail_within c.bind_cell.result c.bind_cell.ensures.low c.bind_cell.ensures.high c.bind_cell.ensures.unchanged in
    let leads = heap-leads-bound now.area c.bind_cell.new.area c.args.place c.args.number c.args.target now.forward c.farther_to-self.result (Unbound c.args.number) free now.leads_back c.farther_to-self.ensures.others c.farther_to-self.ensures.this_one c.bind_cell.result c.bind_cell.ensures.low c.bind_cell.ensures.unchanged in
    record { is_heap = after.is_heap; named_within = now.named_within; newest_within = after.newest_within; trail_within = after.trail_within; leads_back = leads; each_once = now.each_once }

pub returns-clause-bound : goal.returns-clause-bound
returns-clause-bound c =
    let now = c.args.self.now in
    let free = c.requires.free in
    let is = shows_variable (take now.named now.atoms) now.area.low now.next now.is_heap c.args.place c.args.number free in
    rw c.bind_cell.ensures.capacity
    (binding-binds (take now.named now.atoms) now.area.low now.next now.is_heap (Var c.args.place) c.args.target c.args.place c.args.number c.args.target (ap is_variable_cell free) (ap bound_word free) refl c.requires.holds c.requires.end refl is c.requires.absent c.requires.younger now.area.capacity c.bind_cell.new.area.low c.in_ok-bind_cell.ensures.low)

pub returns-clause-places : goal.returns-clause-places
returns-clause-places c =
    let now = c.args.self.now in
    let free = c.requires.free in
    let is = shows_variable (take now.named now.atoms) now.area.low now.next now.is_heap c.args.place c.args.number free in
    binding-places (take now.named now.atoms) now.area.low now.next now.is_heap (Var c.args.place) c.args.target c.args.place c.args.number c.args.target (ap is_variable_cell free) (ap bound_word free) refl c.requires.holds c.requires.end refl is c.requires.absent c.requires.younger now.area.capacity c.bind_cell.new.area.low c.in_ok-bind_cell.ensures.low

pub returns-clause-cells : goal.returns-clause-cells
returns-clause-cells c =
    let now = c.args.self.now in
    let free = c.requires.free in
    let is = shows_variable (take now.named now.atoms) now.area.low now.next now.is_heap c.args.place c.args.number free in
    binding-grows (take now.named now.atoms) now.area.low now.next now.is_heap (Var c.args.place) c.args.target c.args.place c.args.number c.args.target (ap is_variable_cell free) (ap bound_word free) refl c.requires.holds c.requires.end refl is c.requires.absent c.requires.younger now.area.capacity c.bind_cell.new.area.capacity c.bind_cell.new.area.low c.in_ok-bind_cell.ensures.low c.bind_cell.ensures.capacity

pub returns-clause-marks : goal.returns-clause-marks
returns-clause-marks c =
    let now = c.args.self.now in
    let free = c.requires.free in
    let is = shows_variable (take now.named now.atoms) now.area.low now.next now.is_heap c.args.place c.args.number free in
    rw c.bind_cell.ensures.capacity
    (binding-marks (take now.named now.atoms) now.area.low now.next now.is_heap (Var c.args.place) c.args.target c.args.place c.args.number c.args.target (ap is_variable_cell free) (ap bound_word free) refl c.requires.holds c.requires.end refl is c.requires.absent c.requires.younger now.atoms now.area.capacity now.newest now.area.high c.bind_cell.new.area.low c.bind_cell.new.area.high c.in_ok-bind_cell.ensures.low c.in_ok-bind_cell.ensures.high)
