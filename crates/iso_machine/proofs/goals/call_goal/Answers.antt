use Rattle.std.proofs.Common.{◌≡◌, ◌≢◌, ◌∙◌, ℕ, None, Ok, Err, ap, sym, arith}
use Rattle.iso_search.specs.declared.calls.Called.TheVariants as call
use Rattle.iso_search.specs.declared.calls.Next.TheVariants as calls
use Rattle.iso_machine.specs.Came.{CameTo}
use Rattle.iso_machine.proofs.CameLemmas.{full_behind}
use Rattle.iso_machine.proofs.Moves.Goal.{put_called}
use Rattle.iso_machine.proofs.LastCame.{first_goal, next_error, next_full, next_last, next_not, next_there, next_went, whole}
use Rattle.iso_machine.proofs.goals.call_goal.Goals as goal
use Rattle.iso_machine.proofs.goals.call_goal.Goals.{In-Went, in_default-via-in-User+else-search-ne0, in_default-via-in_default}

-- the clause was entered, and the engine went on
went : (g : _) (c : In-Went g)
    → CameTo g.S.Store g.S.Cells.atom_word (whole g.S.Store g.S.Cells.atom_word c.loop-put.invariant) (Ok calls.Went)
    c.go.new.search
went g c =
    let h = c.loop-put.invariant in
    let put = c.in_ok-put.ensures.put h.frames h.rest h.state h.at h.stands in
    let more : c.put_next.new.search.steps ≢ 0 = λ none. absurd (omega (arith, c.if-search-ne0.true, none)) in
    rw c.in-Went.is at (c.in_ok-go.ensures.came (whole g.S.Store g.S.Cells.atom_word h)
    (put_called g.S.Store g.S.Cells.atom_word c.in-User.clause c.called_put-called.new.later put more
    (rw c.in-User.is at c.called_put-called.ensures)))

pub loop-put-init : goal.loop-put-init
loop-put-init g c =
    first_goal g.S.Store g.S.Cells.atom_word c.args.search.now c.args.rest c.requires.now c.requires.there
    c.requires.stands.0 c.requires.stands.1

pub put_next-requires : goal.put_next-requires
put_next-requires g c = (let h = c.loop-put.invariant in (h.frames, h.rest, h.state, h.at, h.stands))

pub returns-in_err-put : goal.returns-in_err-put
returns-in_err-put g c =
    let h = c.loop-put.invariant in
    next_not g.S.Store g.S.Cells.atom_word h c.from_residual.result c.from_residual.ensures.0
    (λ s r. c.in_err-put.ensures.stopped h.frames h.rest s h.at r)
    (full_behind c.from_residual.result _ c.from_residual.ensures.1 (λ is. c.in_err-put.ensures.full (ap Err is)))
    c.in_err-put.ensures.stays

pub call_atom-requires : goal.call_atom-requires
call_atom-requires g c =
    let h = c.loop-put.invariant in
    let put = c.in_ok-put.ensures.put h.frames h.rest h.state h.at h.stands in
    (c.args.search.now, whole g.S.Store g.S.Cells.atom_word h, h.state, h.stands, h.from, put)

pub returns-then-is_empty : goal.returns-then-is_empty
returns-then-is_empty g c =
    let h = c.loop-put.invariant in
    let put = c.in_ok-put.ensures.put h.frames h.rest h.state h.at h.stands in
    c.call_atom.ensures c.args.search.now (whole g.S.Store g.S.Cells.atom_word h) h.state h.stands h.from put

pub called_put-called-requires-clause-hold : goal.called_put-called-requires-clause-hold
called_put-called-requires-clause-hold g c =
    let h = c.loop-put.invariant in
    (c.in_ok-put.ensures.put h.frames h.rest h.state h.at h.stands).hold

pub called_put-called-requires-clause-name : goal.called_put-called-requires-clause-name
called_put-called-requires-clause-name g c =
    let h = c.loop-put.invariant in
    (c.in_ok-put.ensures.put h.frames h.rest h.state h.at h.stands).there

pub called_put-called-requires-clause-found : goal.called_put-called-requires-clause-found
called_put-called-requires-clause-found g c =
    let h = c.loop-put.invariant in
    ((c.in_ok-put.ensures.put h.frames h.rest h.state h.at h.stands).at h.state h.stands).at.ahead.world.found

pub called_put-called-requires-clause-keyed : goal.called_put-called-requires-clause-keyed
called_put-called-requires-clause-keyed g c =
    let h = c.loop-put.invariant in
    ((c.in_ok-put.ensures.put h.frames h.rest h.state h.at h.stands).at h.state h.stands).at.ahead.world.keyed

pub leave_goal-requires : goal.leave_goal-requires
leave_goal-requires g c =
    let h = c.loop-put.invariant in
    let put = c.in_ok-put.ensures.put h.frames h.rest h.state h.at h.stands in
    let same : c.in_default.called ≡ c.called_put-called.result = elim c.in_default.branch [
      | in_default-via-in-User+else-search-ne0 w ↦ w.called-is ∙ sym w.in-User.is
      | in_default-via-in_default w ↦ w.called-is
    ] in (
      c.args.search.now,
      whole g.S.Store g.S.Cells.atom_word h,
      h.state,
      h.stands,
      h.from,
      put,
      (c.called_put-called.new.later, rw same c.called_put-called.ensures),
    )

pub returns-in_default : goal.returns-in_default
returns-in_default g c =
    let h = c.loop-put.invariant in
    let put = c.in_ok-put.ensures.put h.frames h.rest h.state h.at h.stands in
    let same : c.in_default.called ≡ c.called_put-called.result = elim c.in_default.branch [
      | in_default-via-in-User+else-search-ne0 w ↦ w.called-is ∙ sym w.in-User.is
      | in_default-via-in_default w ↦ w.called-is
    ] in
    let other : c.put_next.new.search.steps ≢ 0 → (clause : ℕ) → c.called_put-called.result ≢ call.User clause =
    elim c.in_default.branch [
      | in_default-via-in-User+else-search-ne0 w ↦
          λ more clause is. absurd (more (omega (arith, w.if-search-ne0.false)))
      | in_default-via-in_default w ↦ λ more clause is. w.in_default.not-User clause is
    ] in
    c.leave_goal.ensures c.args.search.now (whole g.S.Store g.S.Cells.atom_word h) h.state c.called_put-called.new.later
    h.stands h.from put (rw same c.called_put-called.ensures) (rw same other)

pub go-requires : goal.go-requires
go-requires g c =
    let h = c.loop-put.invariant in
    let put = c.in_ok-put.ensures.put h.frames h.rest h.state h.at h.stands in
    let more : c.put_next.new.search.steps ≢ 0 = λ none. absurd (omega (arith, c.if-search-ne0.true, none)) in (
      whole g.S.Store g.S.Cells.atom_word h,
      h.state,
      h.stands,
      put_called g.S.Store g.S.Cells.atom_word c.in-User.clause c.called_put-called.new.later put more
          (rw c.in-User.is at c.called_put-called.ensures),
    )

pub returns-in_err-go : goal.returns-in_err-go
returns-in_err-go g c =
    let h = c.loop-put.invariant in
    let put = c.in_ok-put.ensures.put h.frames h.rest h.state h.at h.stands in
    let more : c.put_next.new.search.steps ≢ 0 = λ none. absurd (omega (arith, c.if-search-ne0.true, none)) in
    next_error g.S.Store g.S.Cells.atom_word h c.from_residual-in_err-go.result _ c.from_residual-in_err-go.ensures.0
    c.from_residual-in_err-go.ensures.1
    (c.in_err-go.ensures.came (whole g.S.Store g.S.Cells.atom_word h)
    (put_called g.S.Store g.S.Cells.atom_word c.in-User.clause c.called_put-called.new.later put more
    (rw c.in-User.is at c.called_put-called.ensures)))

pub go_to_call-requires : goal.go_to_call-requires
go_to_call-requires g c =
    let h = c.loop-put.invariant in
    let on = (went g (goal.at.go_to_call-requires g c).In-Went None).next h.state h.stands in
    (on.0, on.2)

pub returns-in_err-rest-in-Went : goal.returns-in_err-rest-in-Went
returns-in_err-rest-in-Went g c =
    let h = c.loop-put.invariant in
    next_error g.S.Store g.S.Cells.atom_word h c.from_residual-in_err-rest-in-Went.result _
    c.from_residual-in_err-rest-in-Went.ensures.0 c.from_residual-in_err-rest-in-Went.ensures.1
    (c.in_err-rest-in-Went.ensures.came (whole g.S.Store g.S.Cells.atom_word h)
    (went g (goal.at.returns-in_err-rest-in-Went g c).In-Went))

pub returns-in-None : goal.returns-in-None
returns-in-None g c =
    let h = c.loop-put.invariant in
    next_went g.S.Store g.S.Cells.atom_word h
    (c.in_ok-rest-in-Went.ensures.came (whole g.S.Store g.S.Cells.atom_word h)
    (went g (goal.at.returns-in-None g c).In-Went)) _

pub loop-put-smaller-in-Some : goal.loop-put-smaller-in-Some
loop-put-smaller-in-Some g c =
    let h = c.loop-put.invariant in
    let steps = (c.in_ok-put.ensures.put h.frames h.rest h.state h.at h.stands).steps in
    let fewer = c.in_ok-go.ensures.steps in
    let few = c.in_ok-rest-in-Went.ensures.steps in
    omega (arith, steps, fewer, few)

pub loop-put-preserved-in-Some : goal.loop-put-preserved-in-Some
loop-put-preserved-in-Some g c =
    let h = c.loop-put.invariant in
    let next = rw c.in-Some.is at c.in_ok-rest-in-Went.ensures.there in
    next_there g.S.Store g.S.Cells.atom_word h c.in-Some.rest next.0 next.1
    (c.in_ok-rest-in-Went.ensures.came (whole g.S.Store g.S.Cells.atom_word h)
    (went g (goal.at.loop-put-preserved-in-Some g c).In-Went))

pub returns-in-Full : goal.returns-in-Full
returns-in-Full g c =
    let h = c.loop-put.invariant in
    let put = c.in_ok-put.ensures.put h.frames h.rest h.state h.at h.stands in
    let more : c.put_next.new.search.steps ≢ 0 = λ none. absurd (omega (arith, c.if-search-ne0.true, none)) in
    next_full g.S.Store g.S.Cells.atom_word h
    (rw c.in-Full.is at (c.in_ok-go.ensures.came (whole g.S.Store g.S.Cells.atom_word h)
    (put_called g.S.Store g.S.Cells.atom_word c.in-User.clause c.called_put-called.new.later put more
    (rw c.in-User.is at c.called_put-called.ensures)))) _

pub loop-put-smaller : goal.loop-put-smaller
loop-put-smaller g c =
    let h = c.loop-put.invariant in
    let steps = (c.in_ok-put.ensures.put h.frames h.rest h.state h.at h.stands).steps in
    let fewer = c.in_ok-go.ensures.steps in
    omega (arith, steps, fewer)

pub loop-put-preserved : goal.loop-put-preserved
loop-put-preserved g c =
    let h = c.loop-put.invariant in
    let put = c.in_ok-put.ensures.put h.frames h.rest h.state h.at h.stands in
    let more : c.put_next.new.search.steps ≢ 0 = λ none. absurd (omega (arith, c.if-search-ne0.true, none)) in
    next_last g.S.Store g.S.Cells.atom_word h
    (rw c.in-Last.is at (c.in_ok-go.ensures.came (whole g.S.Store g.S.Cells.atom_word h)
    (put_called g.S.Store g.S.Cells.atom_word c.in-User.clause c.called_put-called.new.later put more
    (rw c.in-User.is at c.called_put-called.ensures))))
