use Rattle.std.proofs.Common.{◌≡◌, take, true, sym, subst}
use Rattle.iso_store_core.specs.Exact.{are_exact}
use Rattle.iso_program.proofs.PairLemmas.{exact_first}
use Rattle.iso_program.proofs.clauses.Clause.head.Goals as goal

pub returns-clause-exact : goal.returns-clause-exact
returns-clause-exact g c =
    subst (λ ks. are_exact (take c.min.result ks) 0 ≡ true) (sym c.as_slice-parts.ensures.value)
    (exact_first c.args.self.now.whole.parts.items c.min.result 0 c.args.self.now.whole.exact)
