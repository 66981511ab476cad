use Rattle.std.proofs.Common.{◌∙◌, ap, refl}
use Rattle.std.proofs.lemmas.Result.{on_ok_weaker}
use Rattle.iso_model.specs.Search.Bodies.{converted}
use Rattle.iso_model.specs.Terms.TermOf.{term_of}
use Rattle.iso_model.proofs.OnTerms.MeaningLemmas.{meaning_is_term}
use Rattle.iso_program.proofs.ResultLemmas.{behind_error}
use Rattle.iso_search.proofs.StartLemmas.{query_ready, query_refused, fresh_again}
use Rattle.iso_search.proofs.StoppedLemmas.{keeps_none}
use Rattle.iso_search.proofs.search.Search.begin.Goals as goal

pub place_query-requires-clause-query : goal.place_query-requires-clause-query
place_query-requires-clause-query g c =
    (term_of c.args.goal.now, query_ready (term_of c.args.goal.now) c.in-Ok.query (meaning_is_term c.args.goal.now ∙ c.requires.fits) c.requires.numbered c.in-Ok.ensures.prepares)

pub raise_query-requires-clause-refused : goal.raise_query-requires-clause-refused
raise_query-requires-clause-refused g c =
    let found = query_refused (term_of c.args.goal.now) (term_of c.in-Err-Callable.culprit) c.in-Err-Callable.culprit refl c.requires.numbered (rw c.in-Err-Callable.field-0-is at c.in-Err-Callable.ensures.prepares) in
    ap converted found.0 ∙ found.1

pub raise_query-requires-clause-fits : goal.raise_query-requires-clause-fits
raise_query-requires-clause-fits g c =
    let found = query_refused (term_of c.args.goal.now) (term_of c.in-Err-Callable.culprit) c.in-Err-Callable.culprit refl c.requires.numbered (rw c.in-Err-Callable.field-0-is at c.in-Err-Callable.ensures.prepares) in
    rw found.0 c.requires.fits

pub returns-in-Ok-clause-started : goal.returns-in-Ok-clause-started
returns-in-Ok-clause-started g c =
    let query = query_ready (term_of c.args.goal.now) c.in-Ok.query (meaning_is_term c.args.goal.now ∙ c.requires.fits) c.requires.numbered c.in-Ok.ensures.prepares in
    on_ok_weaker c.place_query.result (λ started w is. started (term_of c.args.goal.now) w query (fresh_again is c.requires.substitution c.requires.next c.requires.cells c.requires.variables)) c.place_query.ensures.started

pub returns-in_ok-raise_query-in-Err-Callable-clause-started : goal.returns-in_ok-raise_query-in-Err-Callable-clause-started
returns-in_ok-raise_query-in-Err-Callable-clause-started g c = λ w is.
    (let found = query_refused (term_of c.args.goal.now) (term_of c.in-Err-Callable.culprit) c.in-Err-Callable.culprit refl c.requires.numbered (rw c.in-Err-Callable.field-0-is at c.in-Err-Callable.ensures.prepares) in
    rw (← found.0) (c.in_ok-raise_query-in-Err-Callable.ensures.started w (fresh_again is c.requires.substitution c.requires.next c.requires.cells c.requires.variables)))

pub returns-in-Ok-clause-kept : goal.returns-in-Ok-clause-kept
returns-in-Ok-clause-kept g c = λ w is. c.place_query.ensures.kept w (fresh_again is c.requires.substitution c.requires.next c.requires.cells c.requires.variables)

pub returns-in_err-raise_query-in-Err-Callable-clause-kept : goal.returns-in_err-raise_query-in-Err-Callable-clause-kept
returns-in_err-raise_query-in-Err-Callable-clause-kept g c = λ w is.
    behind_error c.from_residual.result (c.in_err-raise_query-in-Err-Callable.ensures.kept w (fresh_again is c.requires.substitution c.requires.next c.requires.cells c.requires.variables))

pub returns-in-Err-NoMemory-clause-kept : goal.returns-in-Err-NoMemory-clause-kept
returns-in-Err-NoMemory-clause-kept g c = λ w is. keeps_none g.S.Store g.L.Lists _ w (fresh_again {steps = c.args.budget} is c.requires.substitution c.requires.next c.requires.cells c.requires.variables)

pub returns-in-Ok-clause-fits : goal.returns-in-Ok-clause-fits
returns-in-Ok-clause-fits g c = λ w full is.
    (let query = query_ready (term_of c.args.goal.now) c.in-Ok.query (meaning_is_term c.args.goal.now ∙ c.requires.fits) c.requires.numbered c.in-Ok.ensures.prepares in
    rw full at (c.place_query.ensures.fits (term_of c.args.goal.now) w query (fresh_again is c.requires.substitution c.requires.next c.requires.cells c.requires.variables)))
