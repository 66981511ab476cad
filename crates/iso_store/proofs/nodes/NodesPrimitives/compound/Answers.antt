use Rattle.std.proofs.Common.{ℕ, ◌<◌, length, get_or, map, ap}
use Rattle.std.proofs.lemmas.Bool.{ltb-true}
use Rattle.iso_atoms.specs.Texts.{text_at}
use Rattle.iso_model.specs.Terms.Trees.{Apply, row}
use Rattle.iso_store.specs.NodeTerms.{term_at}
use Rattle.iso_store.specs.declared.nodes.Node.TheVariants.{Compound}
use Rattle.iso_store.proofs.NodeMade.{pushed-made}
use Rattle.iso_store.proofs.nodes.NodesPrimitives.compound.Goals as goal

pub returns-clause-made : goal.returns-clause-made
returns-clause-made c =
    let items = c.in-Ok.ensures.items in
    let cs = c.args.self.now.nodes.items in
    let below : (k : ℕ) → k < length c.in-Ok.arguments.items → get_or c.in-Ok.arguments.items k 0 < length cs =
    rw items (λ k h. ltb-true _ _ (c.requires.arguments k 0 h)) in
    let some : 0 < length c.in-Ok.arguments.items = rw items c.requires.some in
    let few : length c.in-Ok.arguments.items < 256 = rw items c.requires.few in
    let is = ap (λ ws. Apply (text_at c.args.self.now.atoms c.args.name) (row (map (term_at c.args.self.now.atoms cs) ws))) items in
    pushed-made c.args.self.now.atoms c.args.self.now.nodes.items c.args.self.now.trail.items c.args.self.now.next c.args.self.now.limit (Compound c.args.name c.in-Ok.arguments) _ c.args.self.now.is_store (c.requires.name, some, few, below) is c.push.new.self.atoms c.push.new.self.nodes.items c.push.new.self.trail.items c.push.new.self.next c.push.new.self.limit c.push.result c.push.ensures.place c.push.ensures.atoms c.push.ensures.nodes (ap (λ v. v.items) c.push.ensures.trail) c.push.ensures.next c.push.ensures.limit
