use Rattle.std.proofs.Common.{ap, ◌∙◌, drop, length, arith}
use Rattle.iso_store.specs.NodeStores.{reset, IsOlder}
use Rattle.iso_store.proofs.Marked.{undone-stands}
use Rattle.iso_store.proofs.Apart.{leads-restored}
use Rattle.iso_store.proofs.nodes.NodesStore.undo.Goals as goal

pub invariant_of-self : goal.invariant_of-self
invariant_of-self c =
    let nodes = c.unwind.ensures.nodes ∙ ap (reset (drop c.args.mark.trail c.args.self.now.trail.items)) c.truncate.ensures.items in
    let store = c.requires.1.is_store in
    let size = ap length nodes in
    let count = c.len.ensures in
    record {
      is_store = rw (nodes, c.unwind.ensures.trail) store;
      leads_back = rw nodes (leads-restored c.args.self.now.atoms _ _ c.args.mark _ _ store c.args.self.now.leads_back (λ k low below. c.within-self.ensures k low (omega arith)));
      each_once = c.args.self.now.each_once;
    }

pub returns-clause-stands : goal.returns-clause-stands
returns-clause-stands c p h =
    let nodes = c.unwind.ensures.nodes ∙ ap (reset (drop c.args.mark.trail c.args.self.now.trail.items)) c.truncate.ensures.items in
    let self : IsOlder c.args.mark c.args.mark = record { nodes_top = omega arith; trail_top = omega arith } in
    rw (nodes, c.unwind.ensures.trail) (undone-stands c.args.self.now.atoms _ _ _ _ _ p self h.nodes_top h.trail_top h)

pub returns-clause-marks : goal.returns-clause-marks
returns-clause-marks c m p older h =
    let nodes = c.unwind.ensures.nodes ∙ ap (reset (drop c.args.mark.trail c.args.self.now.trail.items)) c.truncate.ensures.items in
    let top = c.requires.1 in
    rw (nodes, c.unwind.ensures.trail) (undone-stands c.args.self.now.atoms _ _ _ _ _ p older top.nodes_top top.trail_top h)
