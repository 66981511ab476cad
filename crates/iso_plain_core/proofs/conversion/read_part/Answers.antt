use Rattle.std.proofs.Common.{subst}
use Rattle.iso_store_core.specs.Presents.{meaning}
use Rattle.iso_plain_core.specs.Conversions.{Leads}
use Rattle.iso_plain_core.proofs.ConversionLemmas.{leads_none, leaf_read, next_left, second_left}
use Rattle.iso_plain_core.proofs.CellLemmas.{leaf_left, second_cells, condition_cells}
use Rattle.iso_model.specs.Search.Bodies.{converted}
use Rattle.iso_plain_core.proofs.conversion.read_part.Goals as goal

pub returns-in_default-2-clause-reads : goal.returns-in_default-2-clause-reads
returns-in_default-2-clause-reads g c = λ whole leads.
    (let p = g.S.Store.present c.args.store.now in
    let nodes = c.args.nodes.now.items in
    let tasks = c.args.tasks.now.items in
    let none = rw c.in_default-2.is at (c.in_ok-node.ensures.leaf c.in_default.ensures) in
    leads_none p nodes tasks whole (subst (λ o. Leads p nodes tasks o whole) none leads))

pub returns-in_default-clause-reads : goal.returns-in_default-clause-reads
returns-in_default-clause-reads g c = λ whole leads.
    (let p = g.S.Store.present c.args.store.now in
    let leaf = rw c.in-Some-2.is at (c.in_ok-node.ensures.leaf c.in_default.ensures) in
    leaf_read c.in_ok-node.ensures.extends c.args.nodes.now.items c.push.new.self.items c.args.tasks.now.items (meaning p c.args.word) c.in-Some-2.node leaf.0 whole leaf.2 leaf.1 c.in_ok-push.ensures.items leads)

pub returns-in-Some-if_then-clause-reads : goal.returns-in-Some-if_then-clause-reads
returns-in-Some-if_then-clause-reads g c = λ whole leads.
    (let p = g.S.Store.present c.args.store.now in
    let front = c.in-Some-if_then.ensures in
    next_left p c.args.nodes.now.items c.args.tasks.now.items c.push-in-Some-if_then.new.self.items (meaning p c.args.word) c.in-Some.whole c.in-Some.ensures whole leads
    c.in-Some-if_then.front front.0 front.1 front.2 c.in_ok-push-2.ensures.items)

pub returns-clause-reads : goal.returns-clause-reads
returns-clause-reads g c = λ whole leads.
    (let p = g.S.Store.present c.args.store.now in
    second_left p c.args.nodes.now.items c.args.tasks.now.items c.push-2.new.self.items (meaning p c.args.word) c.in-Some.whole c.in-Some.ensures whole leads
    c.in_default-if_then.ensures c.in_ok-push-3.ensures.items)

pub returns-in_default-2-clause-left : goal.returns-in_default-2-clause-left
returns-in_default-2-clause-left g c = λ whole leads.
    (let t = meaning (g.S.Store.present c.args.store.now) c.args.word in
    leaf_left c.in_ok-node.ensures.extends c.args.nodes.now.items c.args.tasks.now.items (converted t) whole t leads)

pub returns-in_default-clause-left : goal.returns-in_default-clause-left
returns-in_default-clause-left g c = λ whole leads.
    (let t = meaning (g.S.Store.present c.args.store.now) c.args.word in
    leaf_left c.in_ok-node.ensures.extends c.args.nodes.now.items c.args.tasks.now.items (converted t) whole t leads)

pub returns-in-Some-if_then-clause-left : goal.returns-in-Some-if_then-clause-left
returns-in-Some-if_then-clause-left g c = λ whole leads.
    (let p = g.S.Store.present c.args.store.now in
    condition_cells p c.args.tasks.now.items c.push-in-Some-if_then.new.self.items (meaning p c.args.word) c.in-Some.whole c.in-Some-if_then.front c.in-Some.ensures c.in-Some-if_then.ensures.2 c.in_ok-push-2.ensures.items)

pub returns-clause-left : goal.returns-clause-left
returns-clause-left g c = λ whole leads.
    (let p = g.S.Store.present c.args.store.now in
    second_cells p c.args.tasks.now.items c.push-2.new.self.items (meaning p c.args.word) c.in-Some.whole c.in-Some.ensures c.in_ok-push-3.ensures.items)
