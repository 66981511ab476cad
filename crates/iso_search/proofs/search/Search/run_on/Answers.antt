use Rattle.std.proofs.Common.{ℕ, ◌<◌, ◌≤◌, ◌∙◌, ap, arith, subst, sym}
use Rattle.iso_model.specs.Search.Runs.{here}
use Rattle.iso_search.specs.EngineStates.{Moves, StandsFor, weight}
use Rattle.iso_model.specs.Search.Walker.{State}
use Rattle.iso_model.specs.declared.pauses.Pause.TheVariants as pause
use Rattle.iso_model.proofs.Search.RunLaws.Quiets.{quiet_trans}
use Rattle.iso_search.specs.declared.calls.Next.TheVariants as next
use Rattle.iso_search.specs.declared.search.Move.TheVariants as move
use Rattle.iso_search.specs.Nexts.{ComesNext}
use Rattle.iso_search.specs.declared.search.Search.{Search}
use Rattle.iso_store_core.specs.Presents.{Present}
use Rattle.iso_search_core.specs.Fitting.{FitsAhead}
use Rattle.iso_search_core.proofs.FittingLemmas.{fits_behind}
use Rattle.iso_search.proofs.Moves.Engine.{represents_stands, pauses_behind}
use Rattle.iso_search.proofs.LimitLemmas.{heap_full_too, stays_same, stays_on, where_full, where_heap_full}
use Rattle.iso_search.proofs.search.Search.run_on.Goals as goal

pub loop-self-init : goal.loop-self-init
loop-self-init g c = record {
  awake = c.requires.awake;
  stands = c.requires.stands;
  quiet = λ s r. (s, here, r);
  less = omega arith;
  stays = stays_same g.S.Store c.args.self.now;
}

-- ---- a procedure was called

pub loop-self-preserved-in-Ok-Went : goal.loop-self-preserved-in-Ok-Went
loop-self-preserved-in-Ok-Went g c =
    let before = c.loop-self.invariant in
    let moves : (s : State) → StandsFor g.S.Store g.L.Lists c.loop-self.self s → Moves g.S.Store g.L.Lists move.Goes s c.call_next.new.self = λ s r. rw c.in-Ok-Went.field-0-is at c.in-Ok-Went.ensures.next s r in
    let stands = represents_stands g.S.Store g.L.Lists c.call_next.new.self.now c.call_next.new.self in
    let first = moves before.stands.0 before.stands.1 in
    record {
      awake = first.3;
      stands = (first.0, stands first.0 first.2);
      quiet = λ s r. (let q = before.quiet s r in let n = moves q.0 q.2 in (n.0, quiet_trans q.1 n.1, stands n.0 n.2));
      less = (let a = before.less in let b : weight g.L.Lists c.call_next.new.self < weight g.L.Lists c.loop-self.self = rw c.in-Ok-Went.field-0-is at c.in-Ok-Went.ensures.falls in omega (arith, a, b));
      stays = stays_on g.S.Store before.stays c.call_next.ensures.stays;
    }

pub returns-in-Ok-Full-clause-pauses : goal.returns-in-Ok-Full-clause-pauses
returns-in-Ok-Full-clause-pauses g c = λ s r.
    (let q = c.loop-self.invariant.quiet s r in
    pauses_behind g.S.Store g.L.Lists c.call_next.new.self s q.0 pause.FramesFull q.1 (rw c.in-Ok-Full.field-0-is at c.in-Ok-Full.ensures.next q.0 q.2).0)

pub returns-in-Ok-Full-clause-frames : goal.returns-in-Ok-Full-clause-frames
returns-in-Ok-Full-clause-frames g c = λ s r.
    (let q = c.loop-self.invariant.quiet s r in
    let same = c.call_next.ensures.stays.limit ∙ c.loop-self.invariant.stays.limit in
    g.met.L.Calls.leads c.args.self.now.limit s q.0 q.1 (subst (λ (n : ℕ). g.L.Calls.over n q.0) same (rw c.in-Ok-Full.field-0-is at c.in-Ok-Full.ensures.next q.0 q.2).1))

-- ---- another move

pub loop-self-preserved : goal.loop-self-preserved
loop-self-preserved g c =
    let before = c.loop-self.invariant in
    let same : (s : State) → StandsFor g.S.Store g.L.Lists c.loop-self.self s → ComesNext g.S.Store g.L.Lists g.L.Calls.over g.L.Calls.by_step next.Other c.call_next.new.asked s c.call_next.new.self = λ s r. rw c.in-Ok-Other.field-0-is at c.in-Ok-Other.ensures.next s r in
    let moves = c.in-Goes.ensures.moves in
    let stands = represents_stands g.S.Store g.L.Lists c.move_on.new.self.now c.move_on.new.self in
    let first = moves before.stands.0 (same before.stands.0 before.stands.1).0 in
    record {
      awake = first.3;
      stands = (first.0, stands first.0 first.2);
      quiet = λ s r. (let q = before.quiet s r in let n = moves q.0 (same q.0 q.2).0 in (n.0, quiet_trans q.1 n.1, stands n.0 n.2));
      less = (let a = before.less in let b : weight g.L.Lists c.call_next.new.self ≤ weight g.L.Lists c.loop-self.self = rw c.in-Ok-Other.field-0-is at c.in-Ok-Other.ensures.falls in let d = c.in-Goes.ensures.falls in omega (arith, a, b, d));
      stays = stays_on g.S.Store (stays_on g.S.Store before.stays c.call_next.ensures.stays) c.move_on.ensures.stays;
    }

pub returns-in-Pauses-clause-pauses : goal.returns-in-Pauses-clause-pauses
returns-in-Pauses-clause-pauses g c = λ s r.
    (let q = c.loop-self.invariant.quiet s r in
    pauses_behind g.S.Store g.L.Lists c.move_on.new.self s q.0 c.in-Pauses.pause q.1 (c.in-Pauses.ensures.moves q.0 (rw c.in-Ok-Other.field-0-is at c.in-Ok-Other.ensures.next q.0 q.2).0))

pub returns-in-Pauses-clause-frames : goal.returns-in-Pauses-clause-frames
returns-in-Pauses-clause-frames g c = λ s r.
    (let q = c.loop-self.invariant.quiet s r in
    let same = c.call_next.ensures.stays.limit ∙ c.loop-self.invariant.stays.limit in
    where_full c.in-Pauses.pause (λ h. g.met.L.Calls.leads c.args.self.now.limit s q.0 q.1 (subst (λ (n : ℕ). g.L.Calls.over n q.0) same h)) (c.in-Pauses.ensures.frames q.0 (rw c.in-Ok-Other.field-0-is at c.in-Ok-Other.ensures.next q.0 q.2).0))

pub returns-in-Err-clause-pauses : goal.returns-in-Err-clause-pauses
returns-in-Err-clause-pauses g c = λ s r.
    (let q = c.loop-self.invariant.quiet s r in
    pauses_behind g.S.Store g.L.Lists c.stop.new.self s q.0 c.stop.result q.1 (c.stop.ensures.moves q.0 (c.in-Err.ensures.stopped q.0 q.2).stopped))

-- ---- where the heap is full

pub returns-in-Pauses-clause-heap : goal.returns-in-Pauses-clause-heap
returns-in-Pauses-clause-heap g c = λ s r.
    (let q = c.loop-self.invariant.quiet s r in
    where_heap_full c.in-Pauses.pause (fits_behind g.S.Store (g.S.Store.present c.move_on.new.self.store) s q.0 q.1) (c.in-Pauses.ensures.heap q.0 (rw c.in-Ok-Other.field-0-is at c.in-Ok-Other.ensures.next q.0 q.2).0))

pub returns-in-Err-clause-heap : goal.returns-in-Err-clause-heap
returns-in-Err-clause-heap g c = λ s r.
    (let q = c.loop-self.invariant.quiet s r in
    let ahead = fits_behind g.S.Store (g.S.Store.present c.call_next.new.self.store) s q.0 q.1 (c.in-Err.ensures.stopped q.0 q.2).fits in
    heap_full_too c.stop.result
    (subst (λ (p : Present _). FitsAhead g.S.Store p s) (sym (ap (λ (x : Search _ _ _ _ _ _ _ _ _ _). g.S.Store.present x.store) c.stop.ensures.same)) ahead))

-- ---- what stays

pub returns-in-Ok-Full-clause-stays : goal.returns-in-Ok-Full-clause-stays
returns-in-Ok-Full-clause-stays g c = stays_on g.S.Store c.loop-self.invariant.stays c.call_next.ensures.stays

pub returns-in-Pauses-clause-stays : goal.returns-in-Pauses-clause-stays
returns-in-Pauses-clause-stays g c = stays_on g.S.Store (stays_on g.S.Store c.loop-self.invariant.stays c.call_next.ensures.stays) c.move_on.ensures.stays

pub returns-in-Err-clause-stays : goal.returns-in-Err-clause-stays
returns-in-Err-clause-stays g c = stays_on g.S.Store (stays_on g.S.Store c.loop-self.invariant.stays c.call_next.ensures.stays) c.stop.ensures.stays
