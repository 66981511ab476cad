-- The rows before the next one are in.
use Rattle.std.proofs.Common.{◌≡◌, take}
use Rattle.iso_program.specs.Callables.{Indexes, callee_among}
use Rattle.iso_program.proofs.callables.of_rows.Given as goal

abbrev pub invariant-loop-row : goal.invariant-loop-row
invariant-loop-row g l = record {
  found : Indexes (g.S.Store.names l.store) l.callables.items (callee_among (take l.row-index l.rows));
  present : g.S.Store.present l.store ≡ g.S.Store.present l.fn.store;
}
