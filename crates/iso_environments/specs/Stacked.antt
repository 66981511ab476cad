-- A stack of words, as contracts see it.
use Rattle.std.specs.Prelude.{List}

-- the words, from the lowest on
pub record Stacked (W : Type 0) : Type 0 where
  pub items : List W
