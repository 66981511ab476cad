-- So many variables are there.
use Rattle.std.proofs.Common.{◌≡◌}
use Rattle.iso_model.specs.Terms.Copies.{numbers_from}
use Rattle.iso_store_core.specs.Presents.{KeepsMarks}
use Rattle.iso_store_core.specs.Retaining.{Takes}
use Rattle.iso_search_core.specs.Words.{AreVariables, Extends}
use Rattle.iso_search_core.proofs.variables.new_variables.Given as goal

abbrev pub invariant-loop-made : goal.invariant-loop-made
invariant-loop-made g l = record {
  names : g.S.Store.names l.store ≡ g.S.Store.names l.fn.store;
  variables : AreVariables (g.S.Store.present l.store) l.variables.items (numbers_from (g.S.Store.present l.fn.store).next l._made);
  extends : Extends (g.S.Store.present l.fn.store) (g.S.Store.present l.store) l._made;
  cells : Takes g.S.Store l.fn.store l.store l._made;
  marks : KeepsMarks (g.S.Store.stands l.fn.store) (g.S.Store.stands l.store);
}
