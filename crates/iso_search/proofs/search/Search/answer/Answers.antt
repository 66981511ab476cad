use Rattle.std.proofs.Common.{rules}
use Rattle.iso_search.proofs.StoppedLemmas.{remains_all}
use Rattle.iso_search.proofs.Moves.Search.{refuses_here}
use Rattle.iso_search.proofs.EndLemmas.{answers_engine}
use Rattle.iso_search.proofs.WeightLemmas.{answered_falls}
use Rattle.iso_search.proofs.MovedLemmas.{moved_not}
use Rattle.iso_search.proofs.search.Search.answer.Goals as goal

pub returns-clause-moved : goal.returns-clause-moved
returns-clause-moved g c = record {
  moves = λ s r.
      answers_engine g.S.Store g.L.Lists c.args.self.now s c.in_ok-values.values c.requires.now (rw c.as_slice.ensures.value at c.in_ok-values.ensures.are) r;
  stopped = λ s r. tt;
  falls = answered_falls g.L.Lists c.args.self.now c.requires.now;
  frames = λ s r. tt;
  met = c.in_ok-values.ensures.fit;
  stays = search rules;
}

pub returns-in_err-values-clause-moved : goal.returns-in_err-values-clause-moved
returns-in_err-values-clause-moved g c =
    moved_not g.S.Store g.L.Lists c.from_residual.result c.from_residual.ensures.0
    (λ s r.
    (refuses_here g.S.Store g.L.Lists c.args.self.now r.own s r.same (remains_all g.S.Store g.L.Lists c.args.self.now r.own r.engine)))
    (search rules) (search rules)
