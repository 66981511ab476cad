use Rattle.std.proofs.Common.{◌≤◌, ◌∷◌, [], ap, sym, ◌∙◌, length, length-append, drop, arith}
use Rattle.iso_store.specs.NodeStores.{reset, taken_back}
use Rattle.std.proofs.lemmas.List.{drop-append-le}
use Rattle.iso_store.proofs.TakingBack.{back-push}
use Rattle.iso_store.proofs.Resets.{prefix-shorter}
use Rattle.iso_store.proofs.node_marks.unwind.Goals as goal

pub loop-trail-preserved-in-Some : goal.loop-trail-preserved-in-Some
loop-trail-preserved-in-Some c =
    let es = c.loop-trail.trail.items in
    let fs = c.pop.new.self.items in
    let is = c.in-Some.ensures.items in
    let one = ap length is ∙ length-append fs (c.in-Some.place ∷ []) in
    let size = c.loop-trail.trail.ok.0 in
    let room : c.args.top ≤ length fs = omega arith in
    record {
      above = room;
      prefix = prefix-shorter c.args.trail.now.items es fs c.in-Some.place is c.loop-trail.invariant.prefix;
      same =
          ap (reset (drop c.args.top fs)) c.unbind.ensures ∙ sym (ap (λ ds. reset ds c.loop-trail.nodes.items) (ap (drop c.args.top) is ∙ drop-append-le c.args.top fs (c.in-Some.place ∷ []) room) ∙ back-push taken_back (drop c.args.top fs) c.in-Some.place c.loop-trail.nodes.items) ∙ c.loop-trail.invariant.same;
    }
