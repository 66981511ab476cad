use Rattle.iso_search.proofs.Moves.Engine.{awake_stands}
use Rattle.iso_search.proofs.EndLemmas.{idle_moves}
use Rattle.iso_search.proofs.LimitLemmas.{result_full}
use Rattle.iso_search.proofs.search.Search.moved.Goals as goal

pub returns-in-Idle-clause-moves : goal.returns-in-Idle-clause-moves
returns-in-Idle-clause-moves g c = λ s r.
    let e = c.args.self.now in
    idle_moves g.S.Store g.L.Lists e s (awake_stands g.S.Store g.L.Lists e.now e s c.requires.awake r) c.in-Idle.is

pub returns-in-Answering-clause-frames : goal.returns-in-Answering-clause-frames
returns-in-Answering-clause-frames g c = λ s r.
    let e = c.args.self.now in
    result_full c.answer.result (λ h. absurd h) (c.answer.ensures.moved.frames s (awake_stands g.S.Store g.L.Lists e.now e s c.requires.awake r))

pub returns-in-Raising-clause-frames : goal.returns-in-Raising-clause-frames
returns-in-Raising-clause-frames g c = λ s r.
    let e = c.args.self.now in
    result_full c.raise.result (λ h. absurd h) (c.raise.ensures.frames s (awake_stands g.S.Store g.L.Lists e.now e s c.requires.awake r))

-- ---- the frames, behind moves that any lists make

pub returns-in-Some-clause-frames : goal.returns-in-Some-clause-frames
returns-in-Some-clause-frames g c = λ s r.
    let e = c.args.self.now in
    result_full c.run_goal.result (g.met.L.Calls.spans e.limit s) (c.run_goal.ensures.frames s (awake_stands g.S.Store g.L.Lists e.now e s c.requires.awake r))
