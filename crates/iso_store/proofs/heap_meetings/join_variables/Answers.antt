use Rattle.std.proofs.Common.{◌≡◌, take, sym, ap, ◌∙◌, arith}
use Rattle.iso_model.specs.Terms.Trees.{Variable}
use Rattle.iso_store_core.specs.Presents.{meaning}
use Rattle.iso_store.specs.declared.heap_cells.HeapWord.TheVariants.{Var}
use Rattle.iso_store.proofs.HeapBuilt.{as_present}
use Rattle.iso_store.proofs.HeapInstructionLemmas.{same-unifies}
use Rattle.iso_store.proofs.HeapReads.{shows_variable}
use Rattle.iso_store.proofs.MeetingLemmas.{places-kept, younger-absent, younger-over}
use Rattle.iso_store.proofs.heap_meetings.join_variables.Goals as goal

pub bind_end-requires-clause-absent : goal.bind_end-requires-clause-absent
bind_end-requires-clause-absent c =
    let now = c.args.heap.now in
    let names = take now.named now.atoms in
    let first = shows_variable names now.area.low now.next now.is_heap c.args.one c.number-first.result c.number-first.ensures in
    let second = shows_variable names now.area.low now.next now.is_heap c.args.other c.number-second.result c.number-second.ensures in
    younger-absent c.number-first.result c.number-second.result _ _ first second c.if-first-second.true

pub bind_end-requires-clause-younger : goal.bind_end-requires-clause-younger
bind_end-requires-clause-younger c =
    let now = c.args.heap.now in
    let names = take now.named now.atoms in
    let first = shows_variable names now.area.low now.next now.is_heap c.args.one c.number-first.result c.number-first.ensures in
    let second = shows_variable names now.area.low now.next now.is_heap c.args.other c.number-second.result c.number-second.ensures in
    younger-over c.number-first.result c.number-second.result _ _ first second c.if-first-second.true

pub bind_end-requires-then-second-first-clause-absent : goal.bind_end-requires-then-second-first-clause-absent
bind_end-requires-then-second-first-clause-absent c =
    let now = c.args.heap.now in
    let names = take now.named now.atoms in
    let first = shows_variable names now.area.low now.next now.is_heap c.args.one c.number-first.result c.number-first.ensures in
    let second = shows_variable names now.area.low now.next now.is_heap c.args.other c.number-second.result c.number-second.ensures in
    younger-absent c.number-second.result c.number-first.result _ _ second first c.if-second-first.true

pub bind_end-requires-then-second-first-clause-younger : goal.bind_end-requires-then-second-first-clause-younger
bind_end-requires-then-second-first-clause-younger c =
    let now = c.args.heap.now in
    let names = take now.named now.atoms in
    let first = shows_variable names now.area.low now.next now.is_heap c.args.one c.number-first.result c.number-first.ensures in
    let second = shows_variable names now.area.low now.next now.is_heap c.args.other c.number-second.result c.number-second.ensures in
    younger-over c.number-second.result c.number-first.result _ _ second first c.if-second-first.true

pub returns-clause-unified : goal.returns-clause-unified
returns-clause-unified c =
    let now = c.args.heap.now in
    let names = take now.named now.atoms in
    let first = shows_variable names now.area.low now.next now.is_heap c.args.one c.number-first.result c.number-first.ensures in
    let second = shows_variable names now.area.low now.next now.is_heap c.args.other c.number-second.result c.number-second.ensures in
    let same : c.number-first.result ≡ c.number-second.result = omega (arith, c.if-first-second.false, c.if-second-first.false) in
    same-unifies (as_present now) (meaning (as_present now) (Var c.args.one)) (meaning (as_present now) (Var c.args.other)) (first ∙ ap Variable same ∙ sym second)

pub returns-clause-places : goal.returns-clause-places
returns-clause-places c = places-kept _ _
