-- Variants (ISO/IEC 13211-1:1995, 7.1.6.1).
use Rattle.std.specs.Prelude.{◌≡◌, List, [], ◌∷◌}
use Rattle.iso_model.specs.Terms.Trees.{Tree}
use Rattle.iso_model.specs.Terms.Substitutions.{Subst, apply}

-- Each of two terms is an instance of the other: they are equal up to variables' numbers.
pub record AreVariants (t u : Tree) : Type 0 where
  pub there : Subst
  pub back : Subst
  pub makes : apply there t ≡ u
  pub unmakes : apply back u ≡ t

-- two lists whose members are variants, each of the other at its place
pub data VariantLists : List Tree → List Tree → Type 0 where
  no_members : VariantLists [] []
  members : {t u : Tree} {ts us : List Tree} → AreVariants t u → VariantLists ts us → VariantLists (t ∷ ts) (u ∷ us)
