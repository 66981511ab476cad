use Rattle.std.proofs.Common.{ap, sym, subst}
use Rattle.iso_store_core.specs.Presents.{Present}
use Rattle.iso_search_core.specs.Fitting.{FitsAhead}
use Rattle.iso_search.specs.declared.search.Search.{Search}
use Rattle.iso_search.proofs.LimitLemmas.{heap_full_too, move_met, never_heap_full, stays_on, where_full}
use Rattle.iso_search.proofs.search.Search.move_on.Goals as goal

pub returns-in-Ok-clause-heap : goal.returns-in-Ok-clause-heap
returns-in-Ok-clause-heap g c = λ s r. never_heap_full g.S.Store (FitsAhead g.S.Store (g.S.Store.present c.moved.new.self.store) s) c.moved.new.self c.in-Ok.next c.in-Ok.ensures.met

pub returns-in-Ok-clause-met : goal.returns-in-Ok-clause-met
returns-in-Ok-clause-met g c = move_met g.S.Store c.moved.new.self c.in-Ok.next c.in-Ok.ensures.met

pub returns-in-Err-clause-frames : goal.returns-in-Err-clause-frames
returns-in-Err-clause-frames g c = λ s r. where_full c.stop.result (λ h. absurd h) c.stop.ensures.frames

pub returns-in-Err-clause-heap : goal.returns-in-Err-clause-heap
returns-in-Err-clause-heap g c = λ s r.
    heap_full_too c.stop.result
    (subst (λ (p : Present _). FitsAhead g.S.Store p s) (sym (ap (λ (x : Search _ _ _ _ _ _ _ _ _ _). g.S.Store.present x.store) c.stop.ensures.same)) (c.in-Err.ensures.stopped s r).fits)

pub returns-in-Err-clause-moves : goal.returns-in-Err-clause-moves
returns-in-Err-clause-moves g c = λ s r. c.stop.ensures.moves s (c.in-Err.ensures.stopped s r).stopped

pub returns-in-Err-clause-stays : goal.returns-in-Err-clause-stays
returns-in-Err-clause-stays g c = stays_on g.S.Store c.moved.ensures.stays c.stop.ensures.stays
