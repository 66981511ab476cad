use Rattle.std.proofs.Common.{refl, take}
use Rattle.iso_store.proofs.HeapReads.{shows_variable}
use Rattle.iso_store.proofs.MeetingLemmas.{places-kept, bound-over}
use Rattle.iso_store.proofs.heap_meetings.bind_at_once.Goals as goal

pub returns-then-not-is_end_apart-clause-met : goal.returns-then-not-is_end_apart-clause-met
returns-then-not-is_end_apart-clause-met c =
    let now = c.args.heap.now in
    let names = take now.named now.atoms in
    (refl, shows_variable names now.area.low now.next now.is_heap c.args.place c.number.result c.number.ensures, bound-over names now.area.low now.next now.is_heap c.args.target c.requires.holds c.requires.end c.requires.other c.number.result)

pub returns-then-not-is_end_apart-clause-places : goal.returns-then-not-is_end_apart-clause-places
returns-then-not-is_end_apart-clause-places c = places-kept _ _

pub bind_end-requires-clause-absent : goal.bind_end-requires-clause-absent
bind_end-requires-clause-absent c n is = c.is_end_apart.ensures n is c.if-not-is_end_apart.false

pub bind_end-requires-clause-younger : goal.bind_end-requires-clause-younger
bind_end-requires-clause-younger c n is =
    let now = c.args.heap.now in
    let names = take now.named now.atoms in
    bound-over names now.area.low now.next now.is_heap c.args.target c.requires.holds c.requires.end c.requires.other n
