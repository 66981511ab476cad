-- The first rows are in the table.
use Rattle.std.proofs.Common.{◌≡◌, take}
use Rattle.iso_atoms.specs.Texts.{KeepsTexts}
use Rattle.iso_store_core.specs.Presents.{KeepsMarks}
use Rattle.iso_arith.specs.Tables.{IsTable, rows_of}
use Rattle.iso_arith.proofs.tables.interned.Given as goal

abbrev pub invariant-loop-name : goal.invariant-loop-name
invariant-loop-name g l = record {
  table : IsTable (g.S.Store.names l.store) l.table.items (rows_of (take l.name-index l.rows));
  names : KeepsTexts (g.S.Store.names l.fn.store) (g.S.Store.names l.store);
  present : g.S.Store.present l.store ≡ g.S.Store.present l.fn.store;
  marks : KeepsMarks (g.S.Store.stands l.fn.store) (g.S.Store.stands l.store);
}
