-- The words so far are for what the first parts make.
use Rattle.std.proofs.Common.{◌≡◌, map}
use Rattle.iso_model.specs.Terms.Trees.{row}
use Rattle.iso_store_core.specs.Presents.{Gathers, KeepsNumbers, Grows, KeepsMarks}
use Rattle.iso_store_core.specs.Copying.{cells_of}
use Rattle.iso_store.specs.Plans.{start}
use Rattle.iso_store.proofs.PlanLemmas.{sketch_at}
use Rattle.iso_store.proofs.duplicates.make_plan.Given as goal

abbrev pub invariant-loop-part : goal.invariant-loop-part
invariant-loop-part g l = record {
  words : Gathers (g.S.Primitives.present l.fn.store) (g.S.Primitives.present l.store) l.words.items
      (sketch_at (g.S.Primitives.names l.fn.store) l.parts (start (map (g.S.Primitives.present l.fn.store).term l.fn.known.items)) l.part-index).terms;
  known : Gathers (g.S.Primitives.present l.fn.store) (g.S.Primitives.present l.store) l.known.items
      (sketch_at (g.S.Primitives.names l.fn.store) l.parts (start (map (g.S.Primitives.present l.fn.store).term l.fn.known.items)) l.part-index).known;
  numbers : KeepsNumbers (g.S.Primitives.present l.fn.store) (g.S.Primitives.present l.store);
  cells : Grows (g.S.Primitives.present l.fn.store) (g.S.Primitives.present l.store)
      (cells_of g.S.Primitives.atomic g.S.Primitives.width (row (sketch_at (g.S.Primitives.names l.fn.store) l.parts (start (map (g.S.Primitives.present l.fn.store).term l.fn.known.items)) l.part-index).terms)) 0;
  names : g.S.Primitives.names l.store ≡ g.S.Primitives.names l.fn.store;
  marks : KeepsMarks (g.S.Primitives.stands l.fn.store) (g.S.Primitives.stands l.store);
}
