use Rattle.std.proofs.Common.{◌≡◌, Some}
use Rattle.iso_search.proofs.EndLemmas.{uncaught_engine, ball_fits}
use Rattle.iso_search.proofs.search.Search.end_by_ball.Goals as goal

pub returns-clause-moves : goal.returns-clause-moves
returns-clause-moves g c = λ s r uncaught.
    (let kept : c.args.self.now.raised ≡ Some c.in-Some.ball = cc (c.in-Some.is, c.take-ball.ensures.value) in
    uncaught_engine g.S.Store g.L.Lists c.args.self.now c.clear.new.self s c.requires.now.0 c.in-Some.ball r c.requires.now.1 kept c.clear.ensures.idle c.clear.ensures.now uncaught)

pub returns-clause-met : goal.returns-clause-met
returns-clause-met g c =
    let kept : c.args.self.now.raised ≡ Some c.in-Some.ball = cc (c.in-Some.is, c.take-ball.ensures.value) in
    ball_fits g.S.Store g.L.Lists c.args.self.now c.requires.stands.0 c.requires.now.0 c.in-Some.ball c.requires.now.1 c.requires.stands.1 kept
