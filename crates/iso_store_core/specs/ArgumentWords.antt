-- Words that stand for the arguments of a term.
use Rattle.std.specs.Prelude.{◌≡◌, ℕ, ◌<◌, List, length, slice_index_or}
use Rattle.std.specs.List.{All}
use Rattle.iso_model.specs.Terms.Trees.{Tree}
use Rattle.iso_store_core.specs.Presents.{Present, Holds, meaning}
use Rattle.iso_store_core.specs.Arguments.{arity, argument}

-- The term has as many arguments as there are words, and each word stands for the argument at its place.
pub record AreArguments {W : Type 0} (p : Present W) (words : List W) (t : Tree) : Type 0 where
  pub count : length words ≡ arity t
  pub hold : All (λ w. Holds p w) words
  pub values : (k : ℕ) (d : W) → k < length words → meaning p (slice_index_or words k d) ≡ argument k t
