use Rattle.iso_model.specs.Terms.TermOf.{term_of}
use Rattle.parts_rows.proofs.Made.{made-holds}
use Rattle.parts_rows.proofs.calls.renewal.Goals as goal

pub renew-requires-clause-pattern : goal.renew-requires-clause-pattern
renew-requires-clause-pattern g c =
    (term_of c.args.term.now, rw c.as_slice.ensures.value c.in_ok-pattern.ensures.pattern, c.requires.fits, c.requires.places)

pub returns : goal.returns
returns g c = made-holds _ _ _ c.renew.result (c.renew.ensures.made (term_of c.args.term.now) (rw c.as_slice.ensures.value c.in_ok-pattern.ensures.pattern))
