use Rattle.std.proofs.Common.{◌∙◌, sym, ap, subst}
use Rattle.iso_model.specs.Terms.TermOf.{term_of}
use Rattle.iso_model.specs.Search.Bodies.{body_term}
use Rattle.iso_program.specs.Kept.{IsBodyTerm}
use Rattle.iso_plain_core.proofs.patterns.kept_body.Goals as goal

pub returns-clause-kept : goal.returns-clause-kept
returns-clause-kept g c = λ k is.
    (let made = c.in_ok-parts.ensures in
    let body = subst (λ t. IsBodyTerm t k.body) (sym (c.body.ensures ∙ ap body_term is.body)) is.body_term in
    record {
      parts = made.parts k.body body;
      goals = made.terms k.body body;
      goal_templates = made.goals k.variables k.body body is.goal_templates;
    })
