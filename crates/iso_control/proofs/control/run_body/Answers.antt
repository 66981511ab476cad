use Rattle.iso_search.proofs.MovedLemmas.{moved_over}
use Rattle.iso_control.proofs.FirstMoves.{Laws, cut_body, node_is, place_within}
use Rattle.iso_control.proofs.control.run_body.Given.{Over}
use Rattle.iso_control.proofs.control.run_body.Goals as goal

-- what the traits promise of the lists
laws : (g : Over) → Laws g.L.Lists g.L.Members
laws g =
    let t = g.met.L.Members in
    let u = g.met.L.Lists in
    record {
      led = t.led;
      leading = t.leading;
      led_cost = t.led_cost;
      led_pending = t.led_pending;
      spans = t.spans;
      all = u.all;
      top = u.top;
      more = u.more;
      words = u.words;
    }

pub node-requires : goal.node-requires
node-requires g c =
    let r = c.requires in
    place_within g.S.Store g.L.Lists g.L.Members (laws g) c.args.search.now c.args.first r.now c.args.place r.body
    r.stands.0 r.stands.1

pub cut-requires-clause-first : goal.cut-requires-clause-first
cut-requires-clause-first g c =
    let r = c.requires in
    cut_body g.S.Store g.L.Lists g.L.Members (laws g) c.args.search.now c.args.first r.now c.args.place r.body
    (node_is (g.L.Members.nodes c.args.search.now.lists) c.args.place c.node.result _ c.node.ensures c.in-Cut.is)

pub returns-in-Cut : goal.returns-in-Cut
returns-in-Cut g c = moved_over g.S.Store g.L.Lists (λ s h. absurd h) c.cut.ensures

pub returns-in-And : goal.returns-in-And
returns-in-And g c = moved_over g.S.Store g.L.Lists (λ s h. absurd h) c.conjunction.ensures

pub returns-in-If : goal.returns-in-If
returns-in-If g c = moved_over g.S.Store g.L.Lists (λ s h. absurd h) c.if_then.ensures
