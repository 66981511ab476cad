-- The first ones are unified.
use Rattle.std.proofs.Common.{◌≡◌, take}
use Rattle.iso_store_core.specs.Presents.{Grows, KeepsMarks}
use Rattle.iso_store.specs.Reading.{later_cells, UnifiesThese}
use Rattle.iso_store.proofs.heads.unify_later.Given as goal

abbrev pub invariant-loop-part : goal.invariant-loop-part
invariant-loop-part g l = record {
  unified : UnifiesThese (g.S.Primitives.present l.fn.store) (g.S.Primitives.present l.store) (g.S.Primitives.names l.fn.store) l.head l.words (take l.part-index l.later);
  cells : Grows (g.S.Primitives.present l.fn.store) (g.S.Primitives.present l.store) (later_cells (g.S.Primitives.names l.fn.store) l.head g.S.Primitives.atomic g.S.Primitives.width (take l.part-index l.later)) 0;
  names : g.S.Primitives.names l.store ≡ g.S.Primitives.names l.fn.store;
  marks : KeepsMarks (g.S.Primitives.stands l.fn.store) (g.S.Primitives.stands l.store);
}
