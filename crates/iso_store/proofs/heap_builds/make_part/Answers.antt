use Rattle.std.proofs.Common.{rules, take, ap}
use Rattle.std.proofs.lemmas.Int.{to_z-of_z}
use mir.Val.{SFits}
use mir.Syntax.{w128}
use Rattle.iso_model.specs.Terms.Trees.{Integer}
use Rattle.iso_store_core.specs.Patterns.{part_step}
use Rattle.iso_store.specs.HeapBuilds.{numbered}
use Rattle.iso_store.proofs.InstanceLemmas.{made-leaf}
use Rattle.iso_store.proofs.heap_builds.make_part.Goals as goal

pub returns-in_ok-push-in-Integer-clause-gathers :
    goal.returns-in_ok-push-in-Integer-clause-gathers
returns-in_ok-push-in-Integer-clause-gathers c =
    let now = c.args.heap.now in
    let fits : SFits w128 c.in-Integer.value = search rules in
    let made = rw (c.as_slice.ensures.value, to_z-of_z w128 c.in-Integer.value fits) at c.in_ok-word-in-Integer.ensures.made in
    made-leaf c.args.pieces.now.items _ _ c.requires.pieces (Integer c.in-Integer.value) _ made c.in_ok-push-in-Integer.ensures.items
    (ap (part_step (take now.named now.atoms) (numbered c.args.first)) c.in-Integer.is)

pub returns-in-Compound-clause-gathers : goal.returns-in-Compound-clause-gathers
returns-in-Compound-clause-gathers c = rw c.in-Compound.is c.gather.ensures.gathers
