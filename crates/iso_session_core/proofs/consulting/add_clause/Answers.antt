use Rattle.iso_model.specs.Search.Additions.{consulted}
use Rattle.iso_model.specs.Terms.TermOf.{term_of}
use Rattle.iso_model.specs.Session.Lines.{refused_line}
use Rattle.iso_session_core.proofs.ProgressLemmas.{stops_here}
use Rattle.iso_session_core.proofs.ConsultLemmas.{added, refused}
use Rattle.iso_session_core.proofs.consulting.add_clause.Goals as goal

pub returns-in-Err-NoMemory-clause-does : goal.returns-in-Err-NoMemory-clause-does
returns-in-Err-NoMemory-clause-does g c = λ s stands k counts budget next. stops_here _ _ _ _ _ _ c.consult.ensures.ready

pub returns-in-Err-Refused-clause-does : goal.returns-in-Err-Refused-clause-does
returns-in-Err-Refused-clause-does g c = λ s stands k counts budget next.
    let consults = rw c.in-Err-Refused.field-0-is at (c.in-Err-Refused.ensures.consults s stands) in
    refused _ _ _ c.ops.result.now _ c.ops.ensures _ _ c.args.number k (consulted (term_of c.args.term.now) s.world.database) s c.in-Err-Refused.ball next c.put_line.result
    consults c.consult.ensures.ready counts
    (c.put_line.ensures.puts (refused_line c.ops.result.now c.args.number (term_of c.in-Err-Refused.ball.term.value)) (rw c.deref.ensures at c.refused_line-line.ensures))

pub returns-in-Ok-clause-does : goal.returns-in-Ok-clause-does
returns-in-Ok-clause-does g c = λ s stands k counts budget next.
    added budget _ (λ l s. Unit {0}) _ _ k (consulted (term_of c.args.term.now) s.world.database) s next (c.in-Ok.ensures.consults s stands) c.consult.ensures.ready
