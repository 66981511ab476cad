use Rattle.std.proofs.Common.{sym, ◌∙◌}
use Rattle.iso_storage.proofs.HeadLemmas.{user_within, clauses_there, clauses_none, clauses_absent}
use Rattle.iso_storage.proofs.heads.clauses_of.Goals as goal

pub clauses_for-requires-clause-place : goal.clauses_for-requires-clause-place
clauses_for-requires-clause-place g c = let h = c.requires.program in user_within h.2 h.3 c.in_ok-place.place (sym c.place_of.ensures ∙ c.in_ok-place.was)

pub returns-in_err-place-clause-are : goal.returns-in_err-place-clause-are
returns-in_err-place-clause-are g c = λ names m head is named free shows.
    rw c.from_residual.ensures (clauses_none is named (sym c.place_of.ensures ∙ c.in_err-place.was) free)

pub returns-in-Ok-clause-are : goal.returns-in-Ok-clause-are
returns-in-Ok-clause-are g c = λ names m head is named free shows.
    c.in-Ok.ensures.gives names head _ shows (clauses_there is named c.in_ok-place.place (sym c.place_of.ensures ∙ c.in_ok-place.was))

pub returns-in-Err-clause-are : goal.returns-in-Err-clause-are
returns-in-Err-clause-are g c = λ names m head is named free shows.
    clauses_absent is named c.in_ok-place.place (sym c.place_of.ensures ∙ c.in_ok-place.was) (sym c.in-Err.ensures.there)
