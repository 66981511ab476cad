use Rattle.std.proofs.Common.{◌≡◌, ◌<◌, [], length, arith, ap, subst, true≢false}
use Rattle.std.specs.Bool.{MatchBool}
use Rattle.iso_program.proofs.LeavingLemmas.{left_behind}
use Rattle.iso_machine.proofs.calling.lacks_more.Goals as goal

pub has_room-requires : goal.has_room-requires
has_room-requires g c =
    let s = c.requires.0 in
    let t = c.requires.6 in
    (s.query, s.stack, c.requires.4, t.ahead.choices, t.ahead.chain)

pub returns-then-has_room-clause-room : goal.returns-then-has_room-clause-room
returns-then-has_room-clause-room g c = λ first s t k ks gs call calls none some.
    c.has_room.ensures.room c.if-has_room.true

pub returns-then-has_left-clause-beyond : goal.returns-then-has_left-clause-beyond
returns-then-has_left-clause-beyond g c = λ done. c.has_room.ensures.full c.if-has_room.false

pub returns-then-has_left-clause-room : goal.returns-then-has_left-clause-room
returns-then-has_left-clause-room g c = λ first s t k ks gs call calls none some. absurd (true≢false none)

pub returns-clause-beyond : goal.returns-clause-beyond
returns-clause-beyond g c = λ done. c.has_room.ensures.full c.if-has_room.false

pub returns-clause-room : goal.returns-clause-room
returns-clause-room g c = λ first s t k ks gs call calls none some.
    let e = c.args.search.now in
    let names = g.S.Store.names e.store in
    let are = left_behind names e.db calls.clauses in
    let empty : ks ≡ [] =
    subst (λ b. MatchBool b (0 < length ks) (ks ≡ [])) c.if-has_left.false
    (c.has_left.ensures names calls.clauses.behind ks calls.clauses.gives are) in
    let many = ap length empty in
    omega (arith, some, many)

pub returns-then-has_room-clause-few : goal.returns-then-has_room-clause-few
returns-then-has_room-clause-few g c = λ first s t k ks gs call calls none some.
    c.has_room.ensures.few c.if-has_room.true

pub returns-then-has_left-clause-few : goal.returns-then-has_left-clause-few
returns-then-has_left-clause-few g c = λ first s t k ks gs call calls none some. absurd (true≢false none)

pub returns-clause-few : goal.returns-clause-few
returns-clause-few g c = λ first s t k ks gs call calls none some.
    let e = c.args.search.now in
    let names = g.S.Store.names e.store in
    let are = left_behind names e.db calls.clauses in
    let empty : ks ≡ [] =
    subst (λ b. MatchBool b (0 < length ks) (ks ≡ [])) c.if-has_left.false
    (c.has_left.ensures names calls.clauses.behind ks calls.clauses.gives are) in
    let many = ap length empty in
    omega (arith, some, many)
