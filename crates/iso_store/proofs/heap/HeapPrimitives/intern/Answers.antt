use Rattle.std.proofs.Common.{arith}
use Rattle.iso_store.proofs.HeapNames.{take-kept, marks-kept}
use Rattle.iso_store.proofs.heap.HeapPrimitives.intern.Goals as goal

pub invariant_of-self : goal.invariant_of-self
invariant_of-self c =
    let now = c.args.self.now in
    let grows = c.intern.ensures.grows in
    let within = now.named_within in
    record { is_heap = rw (take-kept now.atoms c.intern.new.self now.named c.intern.ensures.kept now.named_within) now.is_heap; named_within = omega arith; newest_within = now.newest_within; trail_within = now.trail_within; leads_back = now.leads_back; each_once = c.intern.ensures.each_once }

pub returns-clause-marks : goal.returns-clause-marks
returns-clause-marks c m p h =
    let now = c.args.self.now in
    marks-kept now.atoms c.intern.new.self c.intern.ensures.kept c.intern.ensures.grows now.area.capacity now.newest now.area.low now.area.high m p h
