use Rattle.std.proofs.Common.{◌≡◌, length, Ok, ap, refl, arith}
use Rattle.iso_program.proofs.ResultLemmas.{behind_error}
use Rattle.iso_environments.proofs.PutLemmas.{goal_behind, goal_room, has_put, put_blocks, put_compounds, put_held, put_inside}
use Rattle.iso_machine.specs.LastCalls.{with_frame}
use Rattle.iso_machine.proofs.Moves.Goal.{at_code}
use Rattle.iso_machine.proofs.Moves.Last.{next_put, next_refused}
use Rattle.iso_machine.proofs.PlaceLemmas.{next_above, next_called, next_ends, next_low, next_read, next_readable, next_there, next_within}
use Rattle.iso_machine.proofs.goal_places.put_next.Goals as goal

pub code_at-at-requires : goal.code_at-at-requires
code_at-at-requires g c =
    rw c.as_slice.ensures.value
    (next_readable c.args.search.now c.requires.0 c.requires.1 c.args.place c.requires.3)

pub called_at-behind-requires-clause-goal : goal.called_at-behind-requires-clause-goal
called_at-behind-requires-clause-goal g c =
    let e = c.args.search.now in
    let count : c.len.result ≡ length e.lists.words.items = c.len.ensures in
    let at = c.code_at-at.result in
    let read = rw c.as_slice.ensures.value at c.code_at-at.ensures in
    next_called g.S.Store g.S.Cells.atom_word e c.requires.0 c.requires.1 c.args.place c.requires.3 c.len.result count at.code.now at.rest at.top at.behind read
    c.requires.2 c.requires.4

pub called_at-behind-requires-clause-address : goal.called_at-behind-requires-clause-address
called_at-behind-requires-clause-address g c =
    let e = c.args.search.now in
    let count : c.len.result ≡ length e.lists.words.items = c.len.ensures in
    let at = c.code_at-at.result in
    let read = rw c.as_slice.ensures.value at c.code_at-at.ensures in
    next_above g.S.Store g.S.Cells.atom_word e c.requires.0 c.requires.1 c.args.place c.requires.3 c.len.result count at.code.now at.rest at.top at.behind read
    c.requires.2 c.requires.4

pub overflow_sub-environment : goal.overflow_sub-environment
overflow_sub-environment g c =
    let e = c.args.search.now in
    let count : c.len.result ≡ length e.lists.words.items = c.len.ensures in
    let at = c.code_at-at.result in
    let read = rw c.as_slice.ensures.value at c.code_at-at.ensures in
    next_low g.S.Store g.S.Cells.atom_word e c.requires.0 c.requires.1 c.args.place c.requires.3 c.len.result count at.code.now at.rest at.top at.behind read
    c.requires.2 c.requires.4

pub offset_bounds-as_slice-at : goal.offset_bounds-as_slice-at
offset_bounds-as_slice-at g c =
    let e = c.args.search.now in
    let count : c.len.result ≡ length e.lists.words.items = c.len.ensures in
    let at = c.code_at-at.result in
    let read = rw c.as_slice.ensures.value at c.code_at-at.ensures in
    let within = next_within g.S.Store g.S.Cells.atom_word e c.requires.0 c.requires.1 c.args.place c.requires.3 c.len.result count at.code.now at.rest at.top at.behind read
    c.requires.2 c.requires.4 in
    let low = next_low g.S.Store g.S.Cells.atom_word e c.requires.0 c.requires.1 c.args.place c.requires.3 c.len.result count at.code.now at.rest at.top at.behind read
    c.requires.2 c.requires.4 in
    let same = ap length c.as_slice-2.ensures in
    omega (arith, within, low, same)

pub slice_bounds-environment-end : goal.slice_bounds-environment-end
slice_bounds-environment-end g c =
    let e = c.args.search.now in
    let count : c.len.result ≡ length e.lists.words.items = c.len.ensures in
    let at = c.code_at-at.result in
    let read = rw c.as_slice.ensures.value at c.code_at-at.ensures in
    let within = next_within g.S.Store g.S.Cells.atom_word e c.requires.0 c.requires.1 c.args.place c.requires.3 c.len.result count at.code.now at.rest at.top at.behind read
    c.requires.2 c.requires.4 in
    let low = next_low g.S.Store g.S.Cells.atom_word e c.requires.0 c.requires.1 c.args.place c.requires.3 c.len.result count at.code.now at.rest at.top at.behind read
    c.requires.2 c.requires.4 in
    let same = ap length c.as_slice-2.ensures in
    omega (arith, within, low, same)

pub put_words-requires-clause-blocks : goal.put_words-requires-clause-blocks
put_words-requires-clause-blocks g c =
    let e = c.args.search.now in
    let count : c.len.result ≡ length e.lists.words.items = c.len.ensures in
    let at = c.code_at-at.result in
    let read = rw c.as_slice.ensures.value at c.code_at-at.ensures in
    let h = next_read g.S.Store g.S.Cells.atom_word e c.requires.0 c.requires.1 c.args.place c.requires.3 c.len.result count at.code.now at.rest at.top at.behind read
    c.called_at-behind.result.0.now c.called_at-behind.result.1 c.called_at-behind.ensures _
    (at_code g.S.Store g.S.Cells.atom_word (with_frame e c.requires.0 c.requires.1) c.requires.1 refl c.requires.4) in
    rw c.as_slice-2.ensures (put_blocks h (g.S.Store.names e.store) (g.met.S.Cells.named e.store))

pub put_words-requires-clause-compounds : goal.put_words-requires-clause-compounds
put_words-requires-clause-compounds g c =
    let e = c.args.search.now in
    let count : c.len.result ≡ length e.lists.words.items = c.len.ensures in
    let at = c.code_at-at.result in
    let read = rw c.as_slice.ensures.value at c.code_at-at.ensures in
    let h = next_read g.S.Store g.S.Cells.atom_word e c.requires.0 c.requires.1 c.args.place c.requires.3 c.len.result count at.code.now at.rest at.top at.behind read
    c.called_at-behind.result.0.now c.called_at-behind.result.1 c.called_at-behind.ensures _
    (at_code g.S.Store g.S.Cells.atom_word (with_frame e c.requires.0 c.requires.1) c.requires.1 refl c.requires.4) in
    (put_compounds h (g.S.Store.names e.store) (g.met.S.Cells.named e.store))

pub put_words-requires-clause-inside : goal.put_words-requires-clause-inside
put_words-requires-clause-inside g c =
    let e = c.args.search.now in
    let count : c.len.result ≡ length e.lists.words.items = c.len.ensures in
    let at = c.code_at-at.result in
    let read = rw c.as_slice.ensures.value at c.code_at-at.ensures in
    let h = next_read g.S.Store g.S.Cells.atom_word e c.requires.0 c.requires.1 c.args.place c.requires.3 c.len.result count at.code.now at.rest at.top at.behind read
    c.called_at-behind.result.0.now c.called_at-behind.result.1 c.called_at-behind.ensures _
    (at_code g.S.Store g.S.Cells.atom_word (with_frame e c.requires.0 c.requires.1) c.requires.1 refl c.requires.4) in
    rw c.as_slice-2.ensures (put_inside h (g.S.Store.names e.store) (g.met.S.Cells.named e.store))

pub put_words-requires-clause-held : goal.put_words-requires-clause-held
put_words-requires-clause-held g c =
    let e = c.args.search.now in
    let count : c.len.result ≡ length e.lists.words.items = c.len.ensures in
    let at = c.code_at-at.result in
    let read = rw c.as_slice.ensures.value at c.code_at-at.ensures in
    let h = next_read g.S.Store g.S.Cells.atom_word e c.requires.0 c.requires.1 c.args.place c.requires.3 c.len.result count at.code.now at.rest at.top at.behind read
    c.called_at-behind.result.0.now c.called_at-behind.result.1 c.called_at-behind.ensures _
    (at_code g.S.Store g.S.Cells.atom_word (with_frame e c.requires.0 c.requires.1) c.requires.1 refl c.requires.4) in
    rw c.as_slice-2.ensures (put_held h (g.S.Store.names e.store) (g.met.S.Cells.named e.store))

pub returns-in_err-put_words-clause-stopped : goal.returns-in_err-put_words-clause-stopped
returns-in_err-put_words-clause-stopped g c = λ fs r s there stands.
    let e = c.args.search.now in
    let count : c.len.result ≡ length e.lists.words.items = c.len.ensures in
    let at = c.code_at-at.result in
    let read = rw c.as_slice.ensures.value at c.code_at-at.ensures in
    let goal_is = c.called_at-behind.result in
    let goes = c.called_at-behind.ensures in
    behind_error c.from_residual.result
    (next_refused g.S.Store g.S.Cells.atom_word e fs r c.put_words.new.store c.put_words.new.compounds
    c.put_words.new.words c.put_words.new.made goal_is.0.now
    (next_there g.S.Store g.S.Cells.atom_word e fs r c.args.place there c.len.result count at.code.now at.rest at.top at.behind read goal_is.0.now goal_is.1 goes)
    c.put_words.ensures.rest c.put_words.ensures.cells c.args.place there s stands
    (goal_room (next_read g.S.Store g.S.Cells.atom_word e fs r c.args.place there c.len.result count at.code.now at.rest at.top at.behind read goal_is.0.now goal_is.1 goes _
    (at_code g.S.Store g.S.Cells.atom_word (with_frame e fs r) r refl stands))))

pub returns-clause-put : goal.returns-clause-put
returns-clause-put g c = λ fs r s there stands.
    let e = c.args.search.now in
    let count : c.len.result ≡ length e.lists.words.items = c.len.ensures in
    let at = c.code_at-at.result in
    let read = rw c.as_slice.ensures.value at c.code_at-at.ensures in
    let goal_is = c.called_at-behind.result in
    let goes = c.called_at-behind.ensures in
    let on = c.in_ok-put_words.ensures in
    let new = c.put_words.new in
    next_put g.S.Store g.S.Cells.atom_word e fs r new.store new.compounds new.words new.made goal_is.0.now
    (next_there g.S.Store g.S.Cells.atom_word e fs r c.args.place there c.len.result count at.code.now at.rest at.top at.behind read goal_is.0.now goal_is.1 goes)
    on.rest on.cells c.args.place there (Ok (record { name = goal_is.0.now.name; behind = goal_is.1 })) on.adds
    (λ all list. has_put (next_read g.S.Store g.S.Cells.atom_word e fs r c.args.place there c.len.result count at.code.now at.rest at.top at.behind read goal_is.0.now goal_is.1 goes all list) (g.S.Store.names e.store)
    (g.met.S.Cells.named e.store) new.words.items (rw c.as_slice-2.ensures at on.puts) on.adds.words)
    (λ all list. goal_behind (next_read g.S.Store g.S.Cells.atom_word e fs r c.args.place there c.len.result count at.code.now at.rest at.top at.behind read goal_is.0.now goal_is.1 goes all list) (length new.words.items)
    on.puts.many)
    (next_ends g.S.Store g.S.Cells.atom_word e fs r c.args.place there c.len.result count at.code.now at.rest at.top at.behind read goal_is.0.now goal_is.1 goes) s stands
