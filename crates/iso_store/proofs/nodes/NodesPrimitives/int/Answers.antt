use Rattle.std.proofs.Common.{refl, ap, is_ok}
use Rattle.std.proofs.lemmas.Int.{to_z-of_z}
use mir.Syntax.{w128}
use Rattle.iso_store.specs.declared.nodes.Node.TheVariants.{Int}
use Rattle.iso_store.proofs.NodeMade.{pushed-made}
use Rattle.iso_store.proofs.Marked.{pushed-either}
use Rattle.iso_store.proofs.nodes.NodesPrimitives.int.Goals as goal

pub returns-clause-made : goal.returns-clause-made
returns-clause-made c =
    let nodes = rw (to_z-of_z w128 c.args.value c.ranges.value) at c.push.ensures.nodes in
    pushed-made c.args.self.now.atoms c.args.self.now.nodes.items c.args.self.now.trail.items c.args.self.now.next c.args.self.now.limit (Int c.args.value) _ c.args.self.now.is_store tt refl c.push.new.self.atoms c.push.new.self.nodes.items c.push.new.self.trail.items c.push.new.self.next c.push.new.self.limit c.push.result c.push.ensures.place c.push.ensures.atoms nodes (ap (λ v. v.items) c.push.ensures.trail) c.push.ensures.next c.push.ensures.limit

pub returns-clause-marks : goal.returns-clause-marks
returns-clause-marks c = λ m p h.
    rw (c.push.ensures.atoms, c.push.ensures.trail, c.push.ensures.limit, c.push.ensures.nodes)
    (pushed-either c.args.self.now.atoms c.args.self.now.limit c.args.self.now.nodes.items c.args.self.now.trail.items _ (is_ok c.push.result) m p h)
