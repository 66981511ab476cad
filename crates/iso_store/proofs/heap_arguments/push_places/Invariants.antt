-- The words of the places so far stand behind the cells that there were.
use Rattle.std.proofs.Common.{◌≡◌, ◌≤◌, ◌-◌, ◌++◌, ℕ, length, map, take}
use Rattle.std.specs.List.{list_any}
use Rattle.iso_store.specs.declared.heap_cells.Cell.TheVariants.{Argument}
use Rattle.iso_store.specs.HeapTerms.{variable_cells}
use Rattle.iso_store.specs.HeapStores.{has_cell_number}
use Rattle.iso_store.specs.HeapBuilds.{GoesOn}
use Rattle.iso_store.specs.Writing.{picked}
use Rattle.iso_store.proofs.heap_arguments.push_places.Given as goal

abbrev pub invariant-loop-done : goal.invariant-loop-done
invariant-loop-done l = record {
  done_within : l.done ≤ length l.places;
  low : l.heap.area.low ≡ l.initial.heap.area.low ++ map Argument (picked l.variables (take l.done l.places));
  goes_on : GoesOn 0 l.initial.heap l.heap;
  taken : (n : ℕ) → list_any (has_cell_number n) l.heap.area.low ≡ list_any (has_cell_number n) l.initial.heap.area.low;
  variables : variable_cells l.heap.area.low ≡ variable_cells l.initial.heap.area.low;
}

abbrev pub decreases-loop-done : goal.decreases-loop-done
decreases-loop-done l = length l.places - l.done
