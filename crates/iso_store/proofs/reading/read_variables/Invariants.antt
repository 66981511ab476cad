-- The parts that were read are the values of their variables.
use Rattle.std.proofs.Common.{◌≡◌, ◌≤◌, ◌+◌, length}
use Rattle.iso_store.proofs.ReadUnread.{ReadFrom}
use Rattle.iso_store.proofs.reading.read_variables.Given as goal

abbrev pub invariant-loop-count : goal.invariant-loop-count
invariant-loop-count g l = record {
  within : l.count ≤ l.many;
  parts : l.at + l.many ≡ l.past + l.count;
  values : length l.values.items ≡ length l.fn.values.items;
  read : ReadFrom (g.S.Primitives.present l.store) l.word l.many (g.S.Primitives.names l.store) l.head (length l.fn.values.items) l.past l.fn.values.items l.values.items l.count l.at;
}

abbrev pub decreases-loop-count : goal.decreases-loop-count
decreases-loop-count g l = l.count
