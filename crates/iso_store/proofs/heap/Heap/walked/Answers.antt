use Rattle.std.proofs.Common.{take, sym, ◌∙◌}
use Rattle.iso_store.specs.declared.heap_cells.HeapWord.TheVariants.{Var}
use Rattle.iso_store.specs.HeapNumbers.{word_before}
use Rattle.iso_store.proofs.HeapReads.{leaf_ends, step_same, step_holds}
use Rattle.iso_store.proofs.heap.Heap.walked.Goals as goal

pub bound_to-requires-clause-index : goal.bound_to-requires-clause-index
bound_to-requires-clause-index c = word_before (take c.args.self.now.named c.args.self.now.atoms) c.args.self.now.area.low (Var c.loop-target.at) c.loop-target.invariant.holds

pub returns-in_default-target : goal.returns-in_default-target
returns-in_default-target c =
    let now = c.args.self.now in
    let names = take now.named now.atoms in
    let step = sym c.in-Some.ensures in
    record {
      holds = step_holds names now.area.low now.next now.is_heap (Var c.loop-target.at) c.in-Some.target step;
      end = leaf_ends now.area.low c.in-Some.target c.in_default-target.not-Var;
      same = step_same names now.area.low now.next now.is_heap (Var c.loop-target.at) c.in-Some.target step ∙ c.loop-target.invariant.same;
    }

pub loop-target-preserved : goal.loop-target-preserved
loop-target-preserved c =
    let now = c.args.self.now in
    let names = take now.named now.atoms in
    let step = rw c.in-Var-target.is at (sym c.in-Some.ensures) in
    record {
      holds = step_holds names now.area.low now.next now.is_heap (Var c.loop-target.at) (Var c.in-Var-target.next) step;
      same = step_same names now.area.low now.next now.is_heap (Var c.loop-target.at) (Var c.in-Var-target.next) step ∙ c.loop-target.invariant.same;
    }
