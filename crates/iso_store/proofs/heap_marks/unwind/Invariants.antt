-- The bindings of the entries that are through are taken back.
use Rattle.std.proofs.Common.{◌≡◌, ◌≤◌, ◌-◌, drop, length}
use Rattle.iso_area.specs.Stacks.{stacks}
use Rattle.iso_store.specs.HeapStores.{reset}
use Rattle.iso_store.proofs.heap_marks.unwind.Given as goal

abbrev pub invariant-loop-left : goal.invariant-loop-left
invariant-loop-left l = record {
  above : l.top ≤ l.left;
  within : l.left ≤ length l.initial.area.high;
  same : l.area ≡ stacks (reset (drop l.left l.initial.area.high) l.initial.area.low) l.initial.area.high l.initial.area.capacity;
}

abbrev pub decreases-loop-left : goal.decreases-loop-left
decreases-loop-left l = l.left - l.top
