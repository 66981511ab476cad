use Rattle.std.proofs.Common.{refl, ap}
use Rattle.iso_store.specs.declared.nodes.Node.TheVariants.{Atom}
use Rattle.iso_store.proofs.NodeMade.{pushed-made}
use Rattle.iso_store.proofs.nodes.NodesPrimitives.atom.Goals as goal

pub returns-clause-made : goal.returns-clause-made
returns-clause-made c =
    pushed-made c.args.self.now.atoms c.args.self.now.nodes.items c.args.self.now.trail.items c.args.self.now.next c.args.self.now.limit (Atom c.args.name) _ c.args.self.now.is_store c.requires.name refl c.push.new.self.atoms c.push.new.self.nodes.items c.push.new.self.trail.items c.push.new.self.next c.push.new.self.limit c.push.result c.push.ensures.place c.push.ensures.atoms c.push.ensures.nodes (ap (λ v. v.items) c.push.ensures.trail) c.push.ensures.next c.push.ensures.limit
