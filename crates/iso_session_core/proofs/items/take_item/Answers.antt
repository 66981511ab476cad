use Rattle.std.proofs.Common.{refl}
use Rattle.std.specs.Prelude.{Some}
use Rattle.iso_model.specs.Terms.TermOf.{term_of}
use Rattle.iso_read.specs.Answers.{IsWellFormed}
use Rattle.iso_model.proofs.OnTerms.NumberedLemmas.{is_numbered_IsNumbered}
use Rattle.iso_session_core.proofs.items.take_item.Goals as goal

pub returns-in-Ok-Some-clause-fits : goal.returns-in-Ok-Some-clause-fits
returns-in-Ok-Some-clause-fits g c =
    let well : IsWellFormed c.in-Ok-Some.field-0 = c.in-Ok-Some.ensures.well_formed in
    let read : IsWellFormed (Some c.in-Ok-Some.read) = rw c.in-Ok-Some.field-0-is at well in
    (read.arities, is_numbered_IsNumbered (term_of c.in-Ok-Some.read.term) (rw read.numbered refl))
