use Rattle.std.proofs.Common.{is_ok, ◌∷◌, [], ap, ◌∙◌}
use Rattle.iso_store.specs.NodeStores.{variable_nodes}
use Rattle.iso_store.proofs.NodeMade.{nodes-append}
use Rattle.iso_store.proofs.NodeChanges.{store-after}
use Rattle.iso_store.proofs.Apart.{leads-after}
use Rattle.iso_store.proofs.nodes.Nodes.push.Goals as goal

pub invariant_of-self : goal.invariant_of-self
invariant_of-self c =
    record { is_store = store-after c.args.self.now.atoms _ _ _ c.args.self.now.is_store c.args.node c.requires (is_ok c.push.result) c.push.new.self.items c.push.ensures.items; leads_back = leads-after c.args.self.now.atoms _ c.args.self.now.next _ c.args.node c.requires c.args.self.now.leads_back (is_ok c.push.result) c.push.new.self.items c.push.ensures.items; each_once = c.args.self.now.each_once }

pub returns-clause-variables : goal.returns-clause-variables
returns-clause-variables c =
    let grown = rw c.if-is_err.ensures.negation at c.push.ensures.items in
    ap variable_nodes grown ∙ nodes-append c.args.self.now.nodes.items (c.args.node ∷ [])
