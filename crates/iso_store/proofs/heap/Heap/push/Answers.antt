use Rattle.std.proofs.Common.{take}
use Rattle.iso_store.proofs.VariableCells.{variables-pushed}
use Rattle.iso_store.proofs.HeapApart.{heap-leads-pushed}
use Rattle.iso_store.proofs.HeapAreas.{pushed-area}
use Rattle.iso_store.proofs.HeldWords.{storable-coming}
use Rattle.iso_store.proofs.heap.Heap.push.Goals as goal

pub push_low-requires : goal.push_low-requires
push_low-requires c = storable-coming (take c.args.self.now.named c.args.self.now.atoms) c.args.self.now.area.low c.args.self.now.next c.args.cell c.requires

pub invariant_of-self : goal.invariant_of-self
invariant_of-self c =
    let now = c.args.self.now in
    let after = pushed-area (take now.named now.atoms) now.next now.newest now.area (record { is_heap = now.is_heap; newest_within = now.newest_within; trail_within = now.trail_within }) c.args.cell c.requires c.push_low.new.self c.push_low.result c.push_low.ensures.pushed c.push_low.ensures.unchanged in
    record { is_heap = after.is_heap; named_within = now.named_within; newest_within = after.newest_within; trail_within = after.trail_within; leads_back = heap-leads-pushed (take now.named now.atoms) now.area c.push_low.new.self now.next now.forward c.args.cell c.requires now.leads_back c.push_low.result c.push_low.ensures.pushed c.push_low.ensures.unchanged; each_once = now.each_once }

pub returns-clause-variables : goal.returns-clause-variables
returns-clause-variables c = variables-pushed c.args.self.now.area c.push_low.new.self c.args.cell c.push_low.result c.if-is_err.ensures.negation c.push_low.ensures.pushed
