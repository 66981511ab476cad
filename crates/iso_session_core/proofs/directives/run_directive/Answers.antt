use Rattle.std.proofs.Common.{inl}
use Rattle.iso_model.specs.Terms.TermOf.{term_of}
use Rattle.iso_model.specs.declared.limit.Limit.TheVariants.{Heap, Memory}
use Rattle.iso_session_core.proofs.QueryLemmas.{stops_before}
use Rattle.iso_session_core.proofs.DirectiveLemmas.{directive_refused}
use Rattle.iso_session_core.proofs.directives.run_directive.Goals as goal

pub returns-in-Ok-clause-does : goal.returns-in-Ok-clause-does
returns-in-Ok-clause-does g c = λ s stands k counts next.
    c.run_once.ensures.does (term_of c.args.goal.now) s.world c.args.budget (c.in-Ok.ensures.starts s stands).0 k counts next

pub returns-in-Err-HeapFull-clause-does : goal.returns-in-Err-HeapFull-clause-does
returns-in-Err-HeapFull-clause-does g c = λ s stands k counts next.
    let starts = rw c.in-Err-HeapFull.field-0-is at (c.in-Err-HeapFull.ensures.starts s stands) in
    let may = rw c.in-Err-HeapFull.field-0-is at (c.in-Err-HeapFull.ensures.limit s stands) in
    stops_before _ _ _ _ Heap _ _ (directive_refused _ _ _ Heap k (term_of c.args.goal.now) c.args.budget s next starts tt may)

pub returns-in-Err-NoMemory-clause-does : goal.returns-in-Err-NoMemory-clause-does
returns-in-Err-NoMemory-clause-does g c = λ s stands k counts next.
    let starts = rw c.in-Err-NoMemory.field-0-is at (c.in-Err-NoMemory.ensures.starts s stands) in
    let may = rw c.in-Err-NoMemory.field-0-is at (c.in-Err-NoMemory.ensures.limit s stands) in
    stops_before _ _ _ _ Memory _ _ (inl (directive_refused _ _ _ Memory k (term_of c.args.goal.now) c.args.budget s next starts tt may))
