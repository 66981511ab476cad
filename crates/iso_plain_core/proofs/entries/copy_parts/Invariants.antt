-- The parts before the next one are copied.
use Rattle.std.proofs.Common.{◌≡◌, length, take, drop}
use Rattle.iso_store_core.specs.Presents.{KeepsMarks, Grows}
use Rattle.iso_store_core.specs.Retaining.{CountsCells}
use Rattle.iso_plain_core.specs.Cells.{parts_cells}
use Rattle.iso_search_core.specs.Words.{Extends, word_terms}
use Rattle.iso_plain_core.specs.Entering.{PartsFit, Copies, Adds}
use Rattle.iso_plain_core.proofs.entries.copy_parts.Given as goal

abbrev pub invariant-loop-part : goal.invariant-loop-part
invariant-loop-part g l = record {
  names : g.S.Store.names l.store ≡ g.S.Store.names l.fn.store;
  fits : PartsFit (g.S.Store.names l.fn.store) (length l.variables) (drop l.part-index l.parts);
  copies : Copies (g.S.Store.names l.fn.store) (g.S.Store.present l.store) (word_terms (g.S.Store.present l.fn.store) l.variables) l.fn.nodes.items l.nodes.items (take l.part-index l.parts);
  extends : Extends (g.S.Store.present l.fn.store) (g.S.Store.present l.store) 0;
  nodes : Adds l.fn.nodes.items l.nodes.items;
  cells : CountsCells g.S.Store → Grows (g.S.Store.present l.fn.store) (g.S.Store.present l.store) (parts_cells (g.S.Store.names l.fn.store) (take l.part-index l.parts)) 0;
  marks : KeepsMarks (g.S.Store.stands l.fn.store) (g.S.Store.stands l.store);
}
