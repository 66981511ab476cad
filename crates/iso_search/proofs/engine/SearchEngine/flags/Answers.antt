use Rattle.std.proofs.Common.{◌≡◌}
use Rattle.iso_search.proofs.Moves.Engine.{stands_where}
use Rattle.iso_search.proofs.engine.SearchEngine.flags.Goals as goal

pub returns : goal.returns
returns g c = λ s r.
    let e = c.args.self.now in
    stands_where g.S.Store g.L.Lists (λ w. e.flags ≡ w.flags) e.now e s (λ w is. is.flags_are) r
