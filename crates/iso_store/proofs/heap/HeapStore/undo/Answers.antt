use Rattle.std.proofs.Common.{◌≡◌, ap, ◌∙◌, take, drop, length-take, arith}
use Rattle.iso_area.specs.Stacks.{stacks}
use Rattle.iso_store.specs.HeapStores.{reset, restored}
use Rattle.iso_store.proofs.HeapApart.{heap-leads-restored}
use Rattle.iso_store.proofs.HeapResets.{restored-length}
use Rattle.iso_store.proofs.HeapMarked.{undone-stands}
use Rattle.iso_store.proofs.heap.HeapStore.undo.Goals.{After-unwind}
use Rattle.iso_store.proofs.heap.HeapStore.undo.Goals as goal

area : (c : After-unwind) → c.unwind.new.area ≡ stacks (restored c.args.self.now.area.low c.args.self.now.area.high c.args.mark) (take c.args.mark.trail c.args.self.now.area.high) c.args.self.now.area.capacity
area c = c.unwind.ensures ∙ ap (λ a. stacks (reset (drop c.args.mark.trail a.high) a.low) (take c.args.mark.trail a.high) a.capacity) c.cut_low.ensures

pub invariant_of-self : goal.invariant_of-self
invariant_of-self c =
    let now = c.args.self.now in
    let m = c.args.mark in
    let whole = area (goal.at.invariant_of-self c).After-unwind in
    let h = c.requires.1 in
    let size = restored-length now.area.low now.area.high m h.cells_top in
    let count = h.counted in
    record {
      is_heap = rw whole h.is_heap;
      named_within = h.named_top;
      newest_within = rw whole (omega arith);
      trail_within = rw whole (omega (arith, length-take m.trail now.area.high));
      leads_back = rw whole (heap-leads-restored (take m.named now.atoms) now.area.low now.area.high m now.forward c.within-self.result h.is_heap now.leads_back (λ k low below. c.within-self.ensures k low (omega arith)));
      each_once = now.each_once;
    }

pub returns-clause-stands : goal.returns-clause-stands
returns-clause-stands c p h =
    let now = c.args.self.now in
    let m = c.args.mark in
    let whole = area (goal.at.returns-clause-stands c).After-unwind in
    rw whole (undone-stands now.atoms now.area.capacity now.newest m.cells now.area.low now.area.high m m p (omega arith) (omega arith) (omega arith) h.cells_top h.trail_top h)

pub returns-clause-marks : goal.returns-clause-marks
returns-clause-marks c k p older h =
    let now = c.args.self.now in
    let m = c.args.mark in
    let whole = area (goal.at.returns-clause-marks c).After-unwind in
    let top = c.requires.1 in
    let before = top.before_top in
    let cells = older.cells_top in
    rw whole (undone-stands now.atoms now.area.capacity now.newest m.cells now.area.low now.area.high k m p (omega arith) older.trail_top (omega arith) top.cells_top top.trail_top h)
