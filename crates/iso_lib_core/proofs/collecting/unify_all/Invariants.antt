-- The word was unified with the others so far.
use Rattle.std.proofs.Common.{◌≡◌, map, take, true}
use Rattle.iso_model.specs.Terms.Trees.{row}
use Rattle.iso_model.specs.Search.Walker.{repeated}
use Rattle.iso_store_core.specs.Presents.{KeepsMarks, IsUnification, meaning}
use Rattle.iso_store_core.specs.Retaining.{Takes}
use Rattle.iso_lib_core.proofs.collecting.unify_all.Given as goal

abbrev pub invariant-loop-other : goal.invariant-loop-other
invariant-loop-other g l = record {
  unified : IsUnification (g.S.Store.present l.fn.store) (g.S.Store.present l.store)
      (repeated (meaning (g.S.Store.present l.fn.store) l.word) (take l.other-index (map (meaning (g.S.Store.present l.fn.store)) l.others)))
      (row (take l.other-index (map (meaning (g.S.Store.present l.fn.store)) l.others))) true;
  cells : Takes g.S.Store l.fn.store l.store 0;
  names : g.S.Store.names l.store ≡ g.S.Store.names l.fn.store;
  marks : KeepsMarks (g.S.Store.stands l.fn.store) (g.S.Store.stands l.store);
}
