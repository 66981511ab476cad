use Rattle.std.proofs.Common.{arith}
use Rattle.iso_session_core.proofs.TextTermLemmas.{goal_kept}
use Rattle.iso_session_core.proofs.terms.goal_of.Goals as goal

pub returns-in_default-as_slice-2-clause-value : goal.returns-in_default-as_slice-2-clause-value
returns-in_default-as_slice-2-clause-value c =
    goal_kept c.args.query.now c.in-Compound.name c.in-Compound.arguments c.in-Compound.is (λ one. absurd (omega (arith, one, c.as_slice.ensures.len, c.in_default-as_slice.len_at_least)))
