-- Pairs of terms that are to be made equal, one after the other.
use Rattle.std.specs.Prelude.{◌≡◌, ◌↔◌, List, [], ◌∷◌, Option, Some}
use Rattle.std.specs.Option.{option_and_then}
use Rattle.iso_model.specs.Terms.Trees.{Tree, End, More}
use Rattle.iso_model.specs.Terms.Substitutions.{Subst, apply, Extends}
use Rattle.iso_model.specs.Terms.Unification.{unify_under}

pub record Pair : Type 0 where
  pub left : Tree
  pub right : Tree

abbrev pub solve : Subst → List Pair → Option Subst
solve s [] = Some s
solve s (p ∷ ps) = option_and_then (λ u. solve u ps) (unify_under s p.left p.right)

abbrev pub AreEqual : Subst → List Pair → Type 0
AreEqual t [] = Unit {0}
AreEqual t (p ∷ ps) = (apply t p.left ≡ apply t p.right) × AreEqual t ps

abbrev pub lefts : List Pair → Tree
lefts [] = End
lefts (p ∷ ps) = More p.left (lefts ps)

abbrev pub rights : List Pair → Tree
rights [] = End
rights (p ∷ ps) = More p.right (rights ps)

-- Under s the two lists ask for the same.
abbrev pub AreAlike : Subst → List Pair → List Pair → Type 0
AreAlike s ps qs = (t : Subst) → Extends s t → AreEqual t ps ↔ AreEqual t qs
