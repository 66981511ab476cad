use Rattle.std.proofs.Common.{◌≡◌, ◌-◌, drop, sym, ap, ◌∙◌, Some, arith}
use Rattle.std.specs.List.{slice_get}
use Rattle.iso_area.specs.Stacks.{stacks}
use Rattle.iso_store.specs.declared.heap_cells.Cell.TheVariants.{Entry}
use Rattle.iso_store.specs.HeapStores.{unbound_at, reset}
use Rattle.iso_store.proofs.HeapResets.{drop-entry, no-entry}
use Rattle.iso_store.proofs.heap_marks.unwind.Goals as goal

pub loop-left-preserved-in-Entry : goal.loop-left-preserved-in-Entry
loop-left-preserved-in-Entry c =
    let start = c.args.area.now in
    let left = c.loop-left.left in
    let was = c.loop-left.invariant.same in
    let more = c.loop-left-test.true in
    let there : slice_get start.high (left - 1) ≡ Some (Entry c.in-Entry.place) = ap (λ a. slice_get a.high (left - 1)) (sym was) ∙ c.high.ensures ∙ ap Some c.in-Entry.is in
    let entries = drop-entry start.high (left - 1) left (Entry c.in-Entry.place) there (omega arith) in
    record {
      above = omega arith;
      within = (let inside = c.loop-left.invariant.within in omega arith);
      same =
          c.unbind.ensures ∙ ap (λ a. stacks (unbound_at a.low c.in-Entry.place) a.high a.capacity) was
          ∙ ap (λ xs. stacks (reset xs start.low) start.high start.capacity) (sym entries);
    }

pub loop-left-preserved : goal.loop-left-preserved
loop-left-preserved c =
    let start = c.args.area.now in
    let left = c.loop-left.left in
    let was = c.loop-left.invariant.same in
    let more = c.loop-left-test.true in
    let there : slice_get start.high (left - 1) ≡ Some c.high.result = ap (λ a. slice_get a.high (left - 1)) (sym was) ∙ c.high.ensures in
    let entries = drop-entry start.high (left - 1) left c.high.result there (omega arith) in
    record {
      above = omega arith;
      within = (let inside = c.loop-left.invariant.within in omega arith);
      same =
          was ∙ ap (λ xs. stacks xs start.high start.capacity) (sym (ap (λ xs. reset xs start.low) entries ∙ no-entry c.high.result (reset (drop left start.high) start.low) c.in_default.not-Entry));
    }
