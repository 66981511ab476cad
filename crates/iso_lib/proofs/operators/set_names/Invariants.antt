-- What is left is set in the copy.
use Rattle.std.proofs.Common.{◌≡◌, ◌-◌, ◌≤◌, map, length, drop}
use Rattle.iso_atoms.specs.Texts.{text_at}
use Rattle.iso_model.specs.Search.Settings.{set_names}
use Rattle.iso_lib.proofs.operators.set_names.Given as goal

abbrev pub invariant-loop-place : goal.invariant-loop-place
invariant-loop-place g l = record {
  within : l.place ≤ length l.names;
  set : set_names l.priority (text_at (g.S.Store.names l.store) l.fn.specifier) (map (text_at (g.S.Store.names l.store)) l.names) l.fn.ops
      ≡ set_names l.priority (text_at (g.S.Store.names l.store) l.fn.specifier) (drop l.place (map (text_at (g.S.Store.names l.store)) l.names)) l.copy;
}

abbrev pub decreases-loop-place : goal.decreases-loop-place
decreases-loop-place g l = length l.names - l.place
