use Rattle.std.proofs.Common.{rules}
use Rattle.std.proofs.lemmas.Int.{to_z-of_z}
use mir.Val.{SFits}
use mir.Syntax.{w128}
use Rattle.iso_store.proofs.heap.HeapStore.int.Goals as goal

pub returns-clause-made : goal.returns-clause-made
returns-clause-made c =
    let fits : SFits w128 c.args.value = search rules in
    rw (to_z-of_z w128 c.args.value fits) at c.int.ensures.made
