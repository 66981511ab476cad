use Rattle.std.proofs.Common.{take, arith}
use Rattle.std.proofs.lemmas.List.{take_all}
use Rattle.iso_store.proofs.HeapNames.{heap-kept, substitution-kept, words-kept}
use Rattle.iso_store.proofs.HeapMade.{all-kept}
use Rattle.iso_store.proofs.heap.Heap.know_names.Goals as goal

pub invariant_of-self : goal.invariant_of-self
invariant_of-self c =
    let now = c.args.self.now in
    let whole = c.len-self.ensures in
    record { is_heap = heap-kept (take now.named now.atoms) (take c.len-self.result now.atoms) (all-kept now.atoms now.named c.len-self.result whole) now.area.low now.next now.is_heap; named_within = omega arith; newest_within = now.newest_within; trail_within = now.trail_within; leads_back = now.leads_back; each_once = now.each_once }

pub returns-clause-words : goal.returns-clause-words
returns-clause-words c =
    let now = c.args.self.now in
    words-kept (take now.named now.atoms) (take c.len-self.result now.atoms) (all-kept now.atoms now.named c.len-self.result c.len-self.ensures) now.area.low now.next now.is_heap now.area.capacity now.area.capacity

pub returns-clause-substitution : goal.returns-clause-substitution
returns-clause-substitution c =
    let now = c.args.self.now in
    substitution-kept (take now.named now.atoms) (take c.len-self.result now.atoms) (all-kept now.atoms now.named c.len-self.result c.len-self.ensures) now.area.low now.next now.is_heap

pub returns-clause-every : goal.returns-clause-every
returns-clause-every c =
    let whole = c.len-self.ensures in
    take_all c.len-self.result c.args.self.now.atoms (omega arith)
