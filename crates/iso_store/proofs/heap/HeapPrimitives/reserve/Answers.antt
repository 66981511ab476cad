use Rattle.std.proofs.Common.{arith}
use Rattle.iso_store.specs.HeapNumbers.{untaken}
use Rattle.iso_store.proofs.heap.HeapPrimitives.reserve.Goals as goal

pub returns-clause-free : goal.returns-clause-free
returns-clause-free c n high =
    untaken c.args.self.now.area.low n (λ a m h. let below = c.args.self.now.is_heap.numbered a m h in omega arith)
