-- The bindings that are left are those of the trail that is left.
use Rattle.std.proofs.Common.{◌≡◌, ◌≤◌, vec_len, take, drop, length}
use Rattle.iso_store.specs.NodeStores.{reset}
use Rattle.iso_store.proofs.node_marks.unwind.Given as goal

abbrev pub invariant-loop-trail : goal.invariant-loop-trail
invariant-loop-trail l = record {
  above : l.top ≤ length l.trail.items;
  prefix : l.trail.items ≡ take (length l.trail.items) l.initial.trail.items;
  same : reset (drop l.top l.trail.items) l.nodes.items ≡ reset (drop l.top l.initial.trail.items) l.initial.nodes.items;
}

abbrev pub decreases-loop-trail : goal.decreases-loop-trail
decreases-loop-trail l = vec_len l.trail
