use Rattle.std.proofs.Common.{◌∙◌, Ok, Err, refl, ap, arith}
use Rattle.iso_search.proofs.LimitLemmas.{stays_next, stays_on}
use Rattle.iso_machine.specs.Engines.{Engine, framed}
use Rattle.iso_machine.specs.LastCalls.{with_frame}
use Rattle.iso_machine.proofs.CameLemmas.{came_error, last_error}
use Rattle.iso_machine.proofs.Moves.Go.{go_behind, go_calls, go_falls, go_for, go_full, go_refused, go_went}
use Rattle.iso_machine.proofs.Moves.Unpushed.{left_none, left_some, was_refused, was_tried}
use Rattle.iso_machine.proofs.Moves.Last.{stays_framed}
use Rattle.iso_machine.proofs.putting.go.Goals as goal

pub make_ready-requires-clause-stands : goal.make_ready-requires-clause-stands
make_ready-requires-clause-stands g c =
    go_behind g.S.Store g.S.Cells.atom_word c.requires.3 c.requires.1 c.requires.2

pub lacks_room-requires : goal.lacks_room-requires
lacks_room-requires g c =
    let ready = c.make_ready.ensures in (
      _,
      _,
      _,
      _,
      _,
      c.args.put.now.name,
      go_calls g.S.Store g.S.Cells.atom_word c.requires.3 ready.ahead c.requires.1 c.requires.2
          ready.put ready.steps ready.names ready.clauses,
    )

pub returns-then-lacks_room-clause-came : goal.returns-then-lacks_room-clause-came
returns-then-lacks_room-clause-came g c = λ old h.
    let ready = c.make_ready.ensures in
    λ asked. record {
      next = λ s r. go_full g.S.Store g.S.Cells.atom_word h ready.ahead s r c.make_ready.new.search refl
          (c.lacks_room.ensures.beyond c.if-lacks_room.true);
      stopped = λ s r. tt;
      falls = tt;
      full = λ none. absurd (cc);
      stays = stays_next g.S.Store _ (stays_on g.S.Store h.put.stays ready.stays);
    }

-- ---- clauses are left behind the first

pub call_with_later-requires-clause-calls : goal.call_with_later-requires-clause-calls
call_with_later-requires-clause-calls g c =
    let ready = c.make_ready.ensures in
    let e = c.make_ready.new.search in
    let t = go_calls g.S.Store g.S.Cells.atom_word c.requires.3 ready.ahead c.requires.1 c.requires.2 ready.put
    ready.steps ready.names ready.clauses in (
      _,
      _,
      _,
      _,
      _,
      t,
      left_some g.S.Store g.S.Cells.atom_word e t c.has_left.result c.has_left.ensures c.if-has_left.true,
    )

pub call_with_later-requires-clause-room : goal.call_with_later-requires-clause-room
call_with_later-requires-clause-room g c =
    let ready = c.make_ready.ensures in
    let e = c.make_ready.new.search in
    let t = go_calls g.S.Store g.S.Cells.atom_word c.requires.3 ready.ahead c.requires.1 c.requires.2 ready.put
    ready.steps ready.names ready.clauses in
    c.lacks_room.ensures.room c.args.clause.now _ _ _ _ _ c.args.put.now.name t c.if-lacks_room.false
    (left_some g.S.Store g.S.Cells.atom_word e t c.has_left.result c.has_left.ensures c.if-has_left.true)

pub call_with_later-requires-clause-few : goal.call_with_later-requires-clause-few
call_with_later-requires-clause-few g c =
    let ready = c.make_ready.ensures in
    let e = c.make_ready.new.search in
    let t = go_calls g.S.Store g.S.Cells.atom_word c.requires.3 ready.ahead c.requires.1 c.requires.2 ready.put
    ready.steps ready.names ready.clauses in
    c.lacks_room.ensures.few c.args.clause.now _ _ _ _ _ c.args.put.now.name t c.if-lacks_room.false
    (left_some g.S.Store g.S.Cells.atom_word e t c.has_left.result c.has_left.ensures c.if-has_left.true)

pub call_with_later-requires-clause-goes : goal.call_with_later-requires-clause-goes
call_with_later-requires-clause-goes g c =
    let ready = c.make_ready.ensures in (
      c.requires.0,
      c.requires.1,
      c.requires.2,
      go_for g.S.Store g.S.Cells.atom_word c.requires.3 c.make_ready.new.search ready.ahead ready.put ready.steps
          ready.names ready.clauses ready.costs ready.behind ready.stays,
    )

pub returns-in_err-gone-clause-came : goal.returns-in_err-gone-clause-came
returns-in_err-gone-clause-came g c = λ old h.
    let ready = c.make_ready.ensures in
    last_error g.S.Store g.S.Cells.atom_word _ _ c.from_residual.result _ c.from_residual.ensures.0
    c.from_residual.ensures.1
    (c.in_err-gone.ensures.came old
    (go_for g.S.Store g.S.Cells.atom_word h c.make_ready.new.search ready.ahead ready.put ready.steps ready.names
    ready.clauses ready.costs ready.behind ready.stays))

pub returns-then-has_left-clause-came : goal.returns-then-has_left-clause-came
returns-then-has_left-clause-came g c = λ old h.
    let ready = c.make_ready.ensures in
    c.in_ok-gone.ensures.came old
    (go_for g.S.Store g.S.Cells.atom_word h c.make_ready.new.search ready.ahead ready.put ready.steps ready.names
    ready.clauses ready.costs ready.behind ready.stays)

-- ---- none are

pub enter_clause-requires : goal.enter_clause-requires
enter_clause-requires g c =
    let ready = c.make_ready.ensures in
    let t = go_calls g.S.Store g.S.Cells.atom_word c.requires.3 ready.ahead c.requires.1 c.requires.2 ready.put
    ready.steps ready.names ready.clauses in
    (c.make_ready.new.search.choices, (_, _, _, _, _, c.args.later.now, t))

pub returns-in_err-enter_clause-clause-came : goal.returns-in_err-enter_clause-clause-came
returns-in_err-enter_clause-clause-came g c = λ old h.
    let ready = c.make_ready.ensures in
    let e = c.make_ready.new.search in
    let l = framed {S = g.row.S.Denot} {M = g.row.S-Mark.Denot} g.S.Cells.atom_word in
    last_error g.S.Store g.S.Cells.atom_word _ _ c.from_residual-in_err-enter_clause.result _
    c.from_residual-in_err-enter_clause.ensures.0 c.from_residual-in_err-enter_clause.ensures.1
    (came_error g.S.Store g.S.Cells.atom_word _
    (λ s r.
    let t = go_calls g.S.Store g.S.Cells.atom_word h ready.ahead s r ready.put ready.steps ready.names ready.clauses in
    go_refused g.S.Store g.S.Cells.atom_word h ready.ahead s r c.enter_clause.new.search
    (was_refused g.S.Store g.S.Cells.atom_word e t
    (left_none g.S.Store g.S.Cells.atom_word e t c.has_left.result c.has_left.ensures c.if-has_left.false)
    c.enter_clause.new.search c.len-mark.result (c.len-mark.ensures ∙ e.choices.ok.0)
    (λ u k ks gs calls. c.in_err-enter_clause.ensures.itself.kept u _ k ks gs c.args.later.now calls)))
    (λ is. c.in_err-enter_clause.ensures.heap (ap Err is))
    (stays_on g.S.Store h.put.stays (stays_on g.S.Store ready.stays c.in_err-enter_clause.ensures.stays)))

pub returns-in-Went-clause-came : goal.returns-in-Went-clause-came
returns-in-Went-clause-came g c = λ old h.
    let ready = c.make_ready.ensures in
    let e = c.make_ready.new.search in
    let called = c.in_ok-enter_clause.ensures in
    let went = ap Ok c.in-Went.is in
    λ asked. record {
      next = λ s r.
          let t = go_calls g.S.Store g.S.Cells.atom_word h ready.ahead s r ready.put ready.steps ready.names
          ready.clauses in
          go_went g.S.Store g.S.Cells.atom_word h ready.ahead s r c.enter_clause.new.search
          (was_tried g.S.Store g.S.Cells.atom_word e t
          (left_none g.S.Store g.S.Cells.atom_word e t c.has_left.result c.has_left.ensures c.if-has_left.false)
          c.enter_clause.new.search c.len-mark.result (c.len-mark.ensures ∙ e.choices.ok.0)
          (λ u k ks gs calls. called.itself.tried u _ k ks gs c.args.later.now calls went)) (called.awake went);
      stopped = λ s r. tt;
      falls =
          let t = go_calls g.S.Store g.S.Cells.atom_word c.requires.3 ready.ahead c.requires.1 c.requires.2 ready.put
          ready.steps ready.names ready.clauses in
          let costs = called.itself.costs _ _ _ _ _ c.args.later.now t went in
          go_falls g.S.Store g.S.Cells.atom_word h c.make_ready.new.search c.enter_clause.new.search ready.steps
          ready.costs ready.behind
          (ap (λ (x : Engine g.row.S.Denot g.row.S-Word.Denot g.row.S-Mark.Denot). x.steps) called.same)
          (omega (arith, costs));
      full = λ none. absurd (cc);
      stays = stays_on g.S.Store h.put.stays (stays_on g.S.Store ready.stays called.stays);
    }

pub returns-in-Last-clause-came : goal.returns-in-Last-clause-came
returns-in-Last-clause-came g c = λ old h.
    let ready = c.make_ready.ensures in
    let e = c.make_ready.new.search in
    let called = c.in_ok-enter_clause.ensures in
    let t0 = go_calls g.S.Store g.S.Cells.atom_word c.requires.3 ready.ahead c.requires.1 c.requires.2 ready.put
    ready.steps ready.names ready.clauses in
    let entered = called.itself.last _ _ _ _ _ c.args.later.now t0 (ap Ok c.in-Last.is) in
    let with = with_frame c.enter_clause.new.search entered.frames entered.rest in
    record {
      frames = entered.frames;
      rest = entered.rest;
      unframed = entered.unframed;
      says = λ asked. record {
        next = λ s r.
            let t = go_calls g.S.Store g.S.Cells.atom_word h ready.ahead s r ready.put ready.steps ready.names
            ready.clauses in
            go_went g.S.Store g.S.Cells.atom_word h ready.ahead s r with
            (was_tried g.S.Store g.S.Cells.atom_word e t
            (left_none g.S.Store g.S.Cells.atom_word e t c.has_left.result c.has_left.ensures c.if-has_left.false) with
            c.len-mark.result (c.len-mark.ensures ∙ e.choices.ok.0)
            (λ u k ks gs calls. entered.says.0 u _ k ks gs c.args.later.now calls)) tt;
        stopped = λ s r. tt;
        falls =
            (let costs = entered.says.1 in
            go_falls g.S.Store g.S.Cells.atom_word h c.make_ready.new.search with ready.steps ready.costs ready.behind
            (ap (λ (x : Engine g.row.S.Denot g.row.S-Word.Denot g.row.S-Mark.Denot). x.steps) called.same)
            (omega (arith, costs)));
        full = λ none. absurd (cc);
        stays =
            stays_framed g.S.Store
            (stays_on g.S.Store h.put.stays (stays_on g.S.Store ready.stays called.stays));
      };
    }

pub unreachable-requires : goal.unreachable-requires
unreachable-requires g c = c.in_ok-enter_clause.ensures.entered (ap Ok c.in-Full.is)

pub returns-in-Last-clause-alone : goal.returns-in-Last-clause-alone
returns-in-Last-clause-alone g c = λ done. c.in_ok-enter_clause.ensures.alone (ap Ok c.in-Last.is)
