-- Laws of the standard order of terms.
use Rattle.std.specs.Prelude.{◌≡◌, ◌↔◌}
use Rattle.std.specs.declared.cmp.Ordering.TheVariants.{Equal}
use Rattle.std.specs.Cmp.{IsTotalOrder}
use Rattle.iso_model.specs.Terms.Trees.{Tree}
use Rattle.iso_model.specs.Terms.Order.{term_cmp}

-- either of two terms comes first or they stand alike, and what comes before a later one comes before it
abbrev pub OrderIsTotal : Type 0
OrderIsTotal = IsTotalOrder term_cmp

-- only identical terms stand alike
abbrev pub AlikeAreIdentical : Type 0
AlikeAreIdentical = (t u : Tree) → (term_cmp t u ≡ Equal) ↔ (t ≡ u)
