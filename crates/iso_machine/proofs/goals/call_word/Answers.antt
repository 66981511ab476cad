use Rattle.std.proofs.Common.{◌≢◌, Some, arith}
use Rattle.iso_machine.proofs.FirstGoals.{came_left}
use Rattle.iso_machine.proofs.Moves.BuiltIn.{word_fails_now}
use Rattle.iso_machine.proofs.goals.call_word.Goals as goal

pub returns-then-search-eq0 : goal.returns-then-search-eq0
returns-then-search-eq0 g c =
    came_left g.S.Store g.S.Cells.atom_word c.args.search.now c.requires.first.first (Some _) c.requires.first.running
    (record {
      is = c.requires.first;
      later = c.called-called.new.later;
      called = c.called-called.ensures;
      other = λ more clause is. absurd (more (omega (arith, c.if-search-eq0.true)));
    })

pub returns-in_default : goal.returns-in_default
returns-in_default g c =
    came_left g.S.Store g.S.Cells.atom_word c.args.search.now c.requires.first.first (Some _) c.requires.first.running
    (record {
      is = c.requires.first;
      later = c.called-called.new.later;
      called = c.called-called.ensures;
      other = λ more clause is. c.in_default.not-User clause is;
    })

pub returns-in-User : goal.returns-in-User
returns-in-User g c = c.go_word.ensures c.args.asked.now

pub returns-then-fails_now : goal.returns-then-fails_now
returns-then-fails_now g c =
    let e = c.args.search.now in
    let more : e.steps ≢ 0 = λ none. absurd (omega (arith, c.if-search-eq0.false, none)) in
    rw c.goal_fails.ensures
    (word_fails_now g.S.Store g.S.Cells.atom_word e c.args.goal c.args.behind c.requires.first more
    c.called-called.result c.called-called.new.later c.requires.stands.0 c.requires.stands.1 c.called-called.ensures
    (c.fails_now.ensures c.if-fails_now.true) c.args.asked.now)

pub go_word-requires-clause-calls : goal.go_word-requires-clause-calls
go_word-requires-clause-calls g c = λ w is. rw c.in-User.is at (c.called-called.ensures w is)
