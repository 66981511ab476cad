-- The check goes on with the words that are left, and gives their texts behind those of the names so far.
use Rattle.std.proofs.Common.{◌≡◌, ◌-◌, ◌≤◌, ◌<◌, ◌++◌, ℕ, List, map, length, drop}
use Rattle.std.specs.List.{All}
use Rattle.iso_atoms.specs.Texts.{text_at}
use Rattle.iso_model.specs.Search.Settings.{Settled, with_texts}
use Rattle.iso_store_core.specs.Presents.{meaning}
use Rattle.iso_lib.proofs.operators.asked_names.Given as goal

abbrev pub invariant-loop-place : goal.invariant-loop-place
invariant-loop-place g l = record {
  within : l.place ≤ length l.words;
  atoms : All (λ a. a < length (g.S.Store.names l.store)) l.names.items;
  passes : (goes_on : List (List ℕ) → Settled) → with_texts (map (meaning (g.S.Store.present l.store)) l.words) goes_on
      ≡ with_texts (drop l.place (map (meaning (g.S.Store.present l.store)) l.words)) (λ texts. goes_on (map (text_at (g.S.Store.names l.store)) l.names.items ++ texts));
}

abbrev pub decreases-loop-place : goal.decreases-loop-place
decreases-loop-place g l = length l.words - l.place
