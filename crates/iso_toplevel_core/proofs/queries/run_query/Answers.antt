use Rattle.std.proofs.Common.{ap, inl}
use Rattle.iso_model.specs.declared.limit.Limit.TheVariants.{Heap, Memory}
use Rattle.iso_read.specs.Answers.{clause_read}
use Rattle.iso_session_core.specs.Named.{names_of}
use Rattle.iso_toplevel_core.proofs.QueryLemmas.{not_started, stops_before}
use Rattle.iso_toplevel_core.proofs.queries.run_query.Goals as goal

pub returns-in-Ok-clause-does : goal.returns-in-Ok-clause-does
returns-in-Ok-clause-does g c = λ s stands xs is next.
    let runs = rw c.goal_of.ensures.value at (c.in-Ok.ensures.starts s stands).0 in
    c.run_pauses.ensures.does (clause_read c.args.read.now) s.world c.args.manner.budget (ap names_of c.as_slice.ensures.value) runs xs is next

pub returns-in-Err-HeapFull-clause-does : goal.returns-in-Err-HeapFull-clause-does
returns-in-Err-HeapFull-clause-does g c = λ s stands xs is next.
    let starts = rw c.in-Err-HeapFull.field-0-is at (c.in-Err-HeapFull.ensures.starts s stands) in
    let may = rw (c.goal_of.ensures.value, c.in-Err-HeapFull.field-0-is) at (c.in-Err-HeapFull.ensures.limit s stands) in
    stops_before _ _ _ _ _ Heap _ _ (not_started _ _ _ _ Heap (clause_read c.args.read.now) c.args.manner.budget s xs next starts tt may)

pub returns-in-Err-NoMemory-clause-does : goal.returns-in-Err-NoMemory-clause-does
returns-in-Err-NoMemory-clause-does g c = λ s stands xs is next.
    let starts = rw c.in-Err-NoMemory.field-0-is at (c.in-Err-NoMemory.ensures.starts s stands) in
    let may = rw (c.goal_of.ensures.value, c.in-Err-NoMemory.field-0-is) at (c.in-Err-NoMemory.ensures.limit s stands) in
    stops_before _ _ _ _ _ Memory _ _ (inl (not_started _ _ _ _ Memory (clause_read c.args.read.now) c.args.manner.budget s xs next starts tt may))
