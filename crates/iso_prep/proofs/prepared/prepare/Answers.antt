use Rattle.std.proofs.Common.{◌≡◌, ◌≤◌, ◌<◌, ap, ap₂, ◌∙◌, arith, true, length, is_some, Some}
use Rattle.iso_model.specs.Terms.TermOf.{term_of}
use Rattle.iso_model.specs.Terms.Variables.{variable_count}
use Rattle.iso_model.specs.Search.Databases.{key_of}
use Rattle.iso_model.specs.Search.Additions.{head_of, most_variables}
use Rattle.iso_prep.specs.Assembling.{given, assembly}
use Rattle.iso_prep.proofs.PrepareLemmas.{refused_body, refused_large, fits}
use Rattle.iso_prep.proofs.PreparedTerms.{clause_terms}
use Rattle.iso_prep.proofs.prepared.prepare.Goals as goal

pub returns-in_err-check_body-clause-prepares : goal.returns-in_err-check_body-clause-prepares
returns-in_err-check_body-clause-prepares c =
    let key : is_some (key_of (head_of (term_of c.args.clause.now))) ≡ true = rw c.parts.ensures.head at c.in_ok-check_head.ensures in
    refused_body (term_of c.args.clause.now) key (given c.parts.result.1) c.parts.ensures.body _ _ c.from_residual-in_err-check_body.ensures.1 c.in_err-check_body.ensures

pub returns-then-len-gt-MOST_VARIABLES-clause-prepares : goal.returns-then-len-gt-MOST_VARIABLES-clause-prepares
returns-then-len-gt-MOST_VARIABLES-clause-prepares c =
    let key : is_some (key_of (head_of (term_of c.args.clause.now))) ≡ true = rw c.parts.ensures.head at c.in_ok-check_head.ensures in
    let count = ap length c.in_ok-variables.ensures in
    let many : most_variables < variable_count (term_of c.args.clause.now) = omega arith in
    refused_large (term_of c.args.clause.now) key (given c.parts.result.1) c.parts.ensures.body c.in_ok-check_body.ensures many

pub returns-clause-prepares : goal.returns-clause-prepares
returns-clause-prepares c =
    let key : is_some (key_of (head_of (term_of c.args.clause.now))) ≡ true = rw c.parts.ensures.head at c.in_ok-check_head.ensures in
    let count = ap length c.in_ok-variables.ensures in
    let few : variable_count (term_of c.args.clause.now) ≤ most_variables = omega arith in
    let parts = ap₂ (λ vs h. assembly vs (Some h) (given c.parts.result.1)) c.in_ok-variables.ensures c.parts.ensures.head in
    fits (term_of c.args.clause.now) key (given c.parts.result.1) c.parts.ensures.body c.in_ok-check_body.ensures _ few (c.in_ok-assembled.ensures ∙ parts)

pub returns-clause-terms : goal.returns-clause-terms
returns-clause-terms c = λ well. clause_terms c.args.clause.now _ well (returns-clause-prepares c)
