use Rattle.std.proofs.Common.{◌∙◌}
use Rattle.iso_model.specs.Terms.TermOf.{term_of}
use Rattle.iso_model.proofs.OnTerms.MeaningLemmas.{meaning_is_term}
use Rattle.iso_program.proofs.PrepareLemmas.{ready}
use Rattle.iso_program.proofs.clauses.checked_clause.Goals as goal

pub kept-requires : goal.kept-requires
kept-requires c = (term_of c.args.clause.now, ready (term_of c.args.clause.now) c.in-Ok.prepared (meaning_is_term c.args.clause.now ∙ c.requires) c.in-Ok.ensures.prepares)

pub returns-in-Ok : goal.returns-in-Ok
returns-in-Ok c = c.kept.ensures (term_of c.args.clause.now) (ready (term_of c.args.clause.now) c.in-Ok.prepared (meaning_is_term c.args.clause.now ∙ c.requires) c.in-Ok.ensures.prepares)
