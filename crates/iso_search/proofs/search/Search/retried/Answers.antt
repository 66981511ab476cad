use Rattle.std.proofs.Common.{ℕ, ◌<◌, subst}
use Rattle.iso_model.specs.Search.Walker.{State}
use Rattle.iso_model.specs.declared.pauses.Pause.TheVariants as pause
use Rattle.iso_search.specs.EngineStates.{Represents, Moves, weight}
use Rattle.iso_search.specs.declared.search.Move.TheVariants as move
use Rattle.iso_search.proofs.MovedLemmas.{moved_on, moved_pauses}
use Rattle.iso_search.proofs.search.Search.retried.Goals as goal

pub returns-in-Went : goal.returns-in-Went
returns-in-Went g c =
    let e = c.args.self.now in
    let new = c.retry.new.search in
    let moves : (s : State) → Represents g.S.Store g.L.Lists e s → Moves g.S.Store g.L.Lists move.Goes s new
    = λ s r. rw c.in-Went.is at c.in_ok-retry.ensures.next s r in
    let falls : weight g.L.Lists new < weight g.L.Lists e = rw c.in-Went.is at c.in_ok-retry.ensures.falls in
    moved_on g.S.Store g.L.Lists moves falls c.retry.ensures.stays

pub returns-in-Full : goal.returns-in-Full
returns-in-Full g c =
    let e = c.args.self.now in
    let new = c.retry.new.search in
    let full : (s : State) → Represents g.S.Store g.L.Lists e s
    → Moves g.S.Store g.L.Lists (move.Pauses pause.FramesFull) s new × g.L.Calls.over new.limit s
    = λ s r. rw c.in-Full.is at c.in_ok-retry.ensures.next s r in
    moved_pauses g.S.Store g.L.Lists (λ s r. (full s r).0) tt
    (λ s r. subst (λ (n : ℕ). g.L.Calls.over n s) c.retry.ensures.stays.limit (full s r).1) tt c.retry.ensures.stays
