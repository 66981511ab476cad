-- The first term so far has the first part.
use Rattle.std.proofs.Common.{length, ◌-◌, ◌≡◌, ℕ, List, [], take, get_or, ◌<◌, ◌≤◌}
use Rattle.std.specs.List.{All}
use Rattle.iso_store_core.specs.declared.patterns.Part.{Part}
use Rattle.iso_store_core.specs.Patterns.{IsNamed, after_parts}
use Rattle.iso_program.specs.Firsts.{Shows}
use Rattle.iso_program.proofs.firsts.first_part.Given as goal

abbrev pub invariant-loop-index : goal.invariant-loop-index
invariant-loop-index l = record {
  few : l.open ≤ l.index;
  within : l.first ≤ l.index;
  there : l.index ≤ length l.parts - 1;
  some : 0 < l.open → l.index < length l.parts;
  many : (names : List (List ℕ)) → length (after_parts names (take l.index l.parts) []) ≡ l.open;
  shows : (names : List (List ℕ)) → All (IsNamed names) l.parts → 0 < l.open → (k : Part) → k ≡ get_or l.parts l.first k → Shows names k (after_parts names (take l.index l.parts) []);
}

abbrev pub decreases-loop-index : goal.decreases-loop-index
decreases-loop-index l = length l.parts - l.index
