use Rattle.std.proofs.Common.{sym, ◌∙◌}
use Rattle.iso_model.specs.Terms.TermOf.{term_of}
use Rattle.iso_model.specs.Search.Errors.{key}
use Rattle.iso_store_core.specs.Presents.{meaning}
use Rattle.iso_search_core.proofs.ReplyLemmas.{type_refused}
use Rattle.iso_search_core.proofs.goals.goal_error.Goals as goal

pub returns-clause-error : goal.returns-clause-error
returns-clause-error g c =
    let t = meaning (g.S.Store.present c.args.store.now) c.args.goal in
    type_refused t (key c.args.name.now c.args.arity) c.in_ok-not_callable.field-0 (term_of c.in_ok-culprit.culprit) c.if-is_unbound.ensures.unbound
    (sym c.in_ok-can_be_called.ensures ∙ c.if-branch.false) c.in_ok-culprit.ensures.value c.in_ok-culprit.ensures.well_formed c.in_ok-not_callable.ensures
