-- The parts before the next one are written.
use Rattle.std.proofs.Common.{◌≡◌, take}
use Rattle.iso_atoms.specs.Texts.{KeepsTexts}
use Rattle.iso_store_core.specs.Presents.{KeepsMarks}
use Rattle.iso_plain_core.specs.Nodes.{AreAlike}
use Rattle.iso_program.specs.Written.{IsWrittenFor}
use Rattle.iso_plain_core.proofs.patterns.written_parts.Given as goal

abbrev pub invariant-loop-part : goal.invariant-loop-part
invariant-loop-part g l = record {
  written : AreAlike (IsWrittenFor (g.S.Store.names l.store)) (take l.part-index l.parts) l.written.items;
  names : KeepsTexts (g.S.Store.names l.fn.store) (g.S.Store.names l.store);
  present : g.S.Store.present l.store ≡ g.S.Store.present l.fn.store;
  marks : KeepsMarks (g.S.Store.stands l.fn.store) (g.S.Store.stands l.store);
}
