use Rattle.std.proofs.Common.{ap, ◌∙◌, Err}
use Rattle.iso_model.specs.Terms.TermOf.{term_of}
use Rattle.iso_model.specs.Search.Errors.{key}
use Rattle.iso_storage.proofs.AdditionLemmas.{refused}
use Rattle.iso_storage.proofs.additions.prepared.Goals as goal

pub returns-in-Err-Refused : goal.returns-in-Err-Refused
returns-in-Err-Refused g c =
    let is = rw (c.in-Err-Refused.is ∙ ap Err c.in-Err-Refused.field-0-is) at c.checked_clause.ensures in
    rw (← c.in_ok-term.ensures.value) (refused (key c.args.by.now 1) (term_of c.in_ok-term.term) c.in-Err-Refused.ball c.in_ok-term.ensures.well_formed is)
