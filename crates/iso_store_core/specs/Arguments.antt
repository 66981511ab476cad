-- The arguments of a compound, by their places.
use Rattle.std.specs.Prelude.{ℕ, zero, suc, List, [], ◌∷◌}
use Rattle.iso_model.specs.Terms.Trees.{Tree, End, More}
pub use Rattle.iso_model.specs.Terms.Arguments.{arguments, arity, member, argument, listed}

-- the members from this place on
abbrev pub members_from : ℕ → Tree → Tree
members_from zero t = t
members_from (suc i) (More t ts) = members_from i ts
members_from (suc i) t = End

-- the arguments of a compound, from this place on
abbrev pub arguments_from : ℕ → Tree → List Tree
arguments_from i t = listed (members_from i (arguments t))
