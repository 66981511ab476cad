use Rattle.std.proofs.Common.{take, ap, ◌∙◌}
use Rattle.iso_store_core.specs.Arguments.{arity}
use Rattle.iso_store.proofs.EndLemmas.{heap-end-made}
use Rattle.iso_store.proofs.heap.HeapPrimitives.end.Goals as goal

pub returns-clause-made : goal.returns-clause-made
returns-clause-made c =
    let now = c.args.self.now in
    heap-end-made (take now.named now.atoms) now.area.low now.next now.is_heap c.walked.result c.walked.ensures.holds c.walked.ensures.end ∙ ap arity c.walked.ensures.same
