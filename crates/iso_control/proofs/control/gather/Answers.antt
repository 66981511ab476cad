use Rattle.iso_control.proofs.FirstMoves.{Laws, gather_first, node_is, template_node, template_within}
use Rattle.iso_control.proofs.control.gather.Given.{Over}
use Rattle.iso_control.proofs.control.gather.Goals as goal

-- what the traits promise of the lists
laws : (g : Over) → Laws g.L.Lists g.L.Members
laws g =
    let t = g.met.L.Members in
    let u = g.met.L.Lists in
    record {
      led = t.led;
      leading = t.leading;
      led_cost = t.led_cost;
      led_pending = t.led_pending;
      spans = t.spans;
      all = u.all;
      top = u.top;
      more = u.more;
      words = u.words;
    }

pub node-requires : goal.node-requires
node-requires g c =
    let r = c.requires in
    template_within g.S.Store g.L.Lists g.L.Members (laws g) c.args.search.now c.args.first r.now c.args.place
    r.gathers r.stands.1.own r.stands.1.engine

pub unreachable-requires : goal.unreachable-requires
unreachable-requires g c =
    let r = c.requires in
    let found = template_node g.S.Store g.L.Lists g.L.Members (laws g) c.args.search.now c.args.first r.now c.args.place
    r.gathers r.stands.1.own r.stands.1.engine c.node.result c.node.ensures in
    c.in_default.not-Run found.0 found.1

pub gather-requires-clause-first : goal.gather-requires-clause-first
gather-requires-clause-first g c =
    let r = c.requires in
    gather_first g.S.Store g.L.Lists g.L.Members (laws g) c.args.search.now c.args.first r.now c.args.place r.gathers
    c.in-Run.template (node_is (g.L.Members.nodes c.args.search.now.lists) c.args.place c.node.result _ c.node.ensures
    c.in-Run.is) r.stands.1.own r.stands.1.engine
