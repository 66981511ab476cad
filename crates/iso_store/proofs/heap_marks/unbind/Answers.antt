use Rattle.std.proofs.Common.{sym, ap, ◌∙◌, arith}
use Rattle.std.specs.List.{slice_get}
use Rattle.iso_area.specs.Stacks.{stacks}
use Rattle.iso_store.proofs.HeapResets.{unbind-bound}
use Rattle.iso_store.proofs.HeldWords.{bound_number-is, unbound_at-same}
use Rattle.iso_store.proofs.TakingBack.{changed_at-beyond}
use Rattle.iso_store.proofs.heap_marks.unbind.Goals as goal

pub returns-in-Some : goal.returns-in-Some
returns-in-Some c =
    let now = c.args.area.now in
    let bound = bound_number-is (slice_get now.low c.args.place) c.in-Some.number (sym c.in-Some.ensures) in
    c.set_low.ensures ∙ ap (λ xs. stacks xs now.high now.capacity) (unbind-bound now.low c.args.place c.in-Some.number bound.0 bound.1)

pub returns-in_default : goal.returns-in_default
returns-in_default c =
    let now = c.args.area.now in
    let within = c.if-place-low_len.true in
    let size = c.low_len.ensures in
    ap (λ xs. stacks xs now.high now.capacity) (sym (unbound_at-same now.low c.args.place (omega arith) (sym c.in_default.ensures)))

pub returns-else-place-low_len : goal.returns-else-place-low_len
returns-else-place-low_len c =
    let now = c.args.area.now in
    let past = c.if-place-low_len.false in
    let size = c.low_len.ensures in
    ap (λ xs. stacks xs now.high now.capacity) (sym (changed_at-beyond _ now.low c.args.place (omega arith)))
