use Rattle.std.proofs.Common.{rules}
use Rattle.iso_search.proofs.Moves.Member.{fails_first, failing_falls}
use Rattle.iso_search.proofs.MovedLemmas.{moved_on}
use Rattle.iso_search.proofs.search.Search.fail_first.Goals as goal

pub returns : goal.returns
returns g c =
    moved_on g.S.Store g.L.Lists (λ s r. fails_first g.S.Store g.L.Lists c.args.self.now s c.requires.first r)
    (failing_falls g.L.Lists c.args.self.now c.requires.first.first c.requires.first.running c.requires.first.less) (search rules)
