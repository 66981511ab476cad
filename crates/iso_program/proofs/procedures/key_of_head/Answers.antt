use Rattle.std.proofs.Common.{sym, subst}
use Rattle.iso_store_core.specs.Patterns.{IsPattern}
use Rattle.iso_program.proofs.procedures.key_of_head.Goals as goal

pub first_part-requires : goal.first_part-requires
first_part-requires g c = c.head.ensures.exact

pub returns : goal.returns
returns g c = λ names t pattern.
    (c.first_part.result, c.first_part.ensures names t (subst (λ ks. IsPattern names ks t) (sym c.head.ensures.parts) pattern), c.key_of_first.ensures)
