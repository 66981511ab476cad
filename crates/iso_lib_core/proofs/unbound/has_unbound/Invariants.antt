-- None of the words so far is unbound.
use Rattle.std.proofs.Common.{◌≡◌, ◌<◌, map, drop}
use Rattle.std.specs.List.{list_any}
use Rattle.iso_atoms.specs.Texts.{EachOnce}
use Rattle.iso_model.specs.Terms.Types.{is_variable}
use Rattle.iso_store_core.specs.Presents.{meaning}
use Rattle.iso_lib_core.proofs.unbound.has_unbound.Given as goal

abbrev pub invariant-loop-word : goal.invariant-loop-word
invariant-loop-word g l = record {
  none : list_any is_variable (map (meaning (g.S.Store.present l.store)) l.words) ≡ list_any is_variable (drop l.word-index (map (meaning (g.S.Store.present l.store)) l.words));
  each_once : 0 < l.word-index → EachOnce (g.S.Store.names l.store);
}
