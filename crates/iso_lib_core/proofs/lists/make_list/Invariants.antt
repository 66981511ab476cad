-- The list so far is that of the words from this place on.
use Rattle.std.proofs.Common.{◌≡◌, ◌≤◌, ◌-◌, ◌*◌, true, length, map, drop, slice_get, Some}
use Rattle.iso_atoms.specs.Texts.{KeepsTexts}
use Rattle.iso_model.specs.Terms.Lists.{dot, list_of}
use Rattle.iso_store_core.specs.Presents.{KeepsWords, KeepsNumbers, KeepsMarks, meaning}
use Rattle.iso_store_core.specs.Retaining.{Takes}
use Rattle.iso_lib_core.proofs.lists.make_list.Given as goal

abbrev pub invariant-loop-index : goal.invariant-loop-index
invariant-loop-index g l = record {
  within : l.index ≤ length l.words;
  words : KeepsWords (g.S.Store.present l.fn.store) (g.S.Store.present l.store);
  substitution : (g.S.Store.present l.store).substitution ≡ (g.S.Store.present l.fn.store).substitution;
  holds : (g.S.Store.present l.store).holds l.list ≡ true;
  value : meaning (g.S.Store.present l.store) l.list ≡ list_of (drop l.index (map (meaning (g.S.Store.present l.fn.store)) l.words));
  numbers : KeepsNumbers (g.S.Store.present l.fn.store) (g.S.Store.present l.store);
  cells : Takes g.S.Store l.fn.store l.store (3 * (length l.words - l.index));
  names : KeepsTexts (g.S.Store.names l.fn.store) (g.S.Store.names l.store);
  dot : slice_get (g.S.Store.names l.store) l.dot ≡ Some dot;
  marks : KeepsMarks (g.S.Store.stands l.fn.store) (g.S.Store.stands l.store);
}

abbrev pub decreases-loop-index : goal.decreases-loop-index
decreases-loop-index g l = l.index
