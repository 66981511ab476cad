use Rattle.std.proofs.Common.{ap, arith}
use Rattle.iso_model.specs.Terms.Sizes.{size}
use Rattle.iso_model.specs.Terms.TermOf.{term_of}
use Rattle.iso_lib_core.proofs.CopyLemmas.{takes_copied}
use Rattle.iso_search.proofs.solutions.unify_gathered.Goals as goal

pub returns-clause-cells : goal.returns-clause-cells
returns-clause-cells g c = takes_copied _ (term_of c.in_ok-list.list) (let large = ap size c.in_ok-list.ensures in omega (arith, large)) c.unify_copy.ensures.copied
