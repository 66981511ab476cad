use Rattle.std.proofs.Common.{ap, ◌∙◌, None}
use Rattle.iso_model.specs.Terms.TermOf.{term_of}
use Rattle.iso_prep.specs.Assembling.{assembly}
use Rattle.iso_prep.proofs.PrepareLemmas.{refused_goal, goal_fits}
use Rattle.iso_prep.proofs.PreparedTerms.{goal_terms}
use Rattle.iso_prep.proofs.prepared.prepare_goal.Goals as goal

pub returns-in_err-check_body-clause-prepares : goal.returns-in_err-check_body-clause-prepares
returns-in_err-check_body-clause-prepares c = refused_goal (term_of c.args.goal.now) _ _ c.from_residual.ensures.1 c.in_err-check_body.ensures

pub returns-clause-prepares : goal.returns-clause-prepares
returns-clause-prepares c =
    let parts = ap (λ vs. assembly vs None (term_of c.args.goal.now)) c.in_ok-variables.ensures in
    goal_fits (term_of c.args.goal.now) _ c.in_ok-check_body.ensures (c.in_ok-assembled.ensures ∙ parts)

pub returns-clause-terms : goal.returns-clause-terms
returns-clause-terms c = λ well. goal_terms c.args.goal.now _ well (returns-clause-prepares c)
