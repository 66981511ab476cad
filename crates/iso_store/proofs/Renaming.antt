-- Terms whose variables are numbered anew.
use Rattle.std.proofs.Common.{◌≡◌, ℕ, ◌+◌, ◌<◌, ◌&&◌, nat_le, List, length, refl, ap, ap₂, subst}
use Rattle.std.proofs.lemmas.Bool.{eqb-true}
use Rattle.iso_model.specs.Terms.Trees.{Tree, Variable, Integer, Name, Apply, End, More, count, arities_fit}
use Rattle.iso_model.specs.Terms.Substitutions.{Subst, apply}
use Rattle.iso_model.specs.Terms.Copies.{place_of}
use Rattle.iso_model.specs.Terms.Unification.Applied.{occurs_from}
use Rattle.iso_model.specs.Terms.Unification.Listed.{Covers}
use Rattle.iso_store_core.specs.Copying.{cells_of}
use Rattle.iso_store_core.specs.Patterns.{HasPlaces}
use Rattle.iso_store.proofs.Placing.{place-within}

module _ (g : ℕ → ℕ) where
  abbrev renaming : Subst
  renaming x = Variable (g x)

  count-renamed : (t : Tree) → count (apply renaming t) ≡ count t
  count-renamed (Variable n) = refl
  count-renamed (Integer z) = refl
  count-renamed (Name a) = refl
  count-renamed (Apply f ts) = refl
  count-renamed End = refl
  count-renamed (More t ts) = ap (λ n. n + 1) (count-renamed ts)

  pub arities-renamed : (t : Tree) → arities_fit (apply renaming t) ≡ arities_fit t
  arities-renamed (Variable n) = refl
  arities-renamed (Integer z) = refl
  arities-renamed (Name a) = refl
  arities-renamed (Apply f ts) = ap₂ (λ n b. nat_le 1 n && (nat_le n 255 && b)) (count-renamed ts) (arities-renamed ts)
  arities-renamed End = refl
  arities-renamed (More t ts) = ap₂ ◌&&◌ (arities-renamed t) (arities-renamed ts)

  pub cells-renamed : (atomic : ℕ) (width : ℕ → ℕ) (t : Tree) → cells_of atomic width (apply renaming t) ≡ cells_of atomic width t
  cells-renamed atomic width (Variable n) = refl
  cells-renamed atomic width (Integer z) = refl
  cells-renamed atomic width (Name a) = refl
  cells-renamed atomic width (Apply f ts) = ap₂ (λ n m. width n + m) (count-renamed ts) (cells-renamed atomic width ts)
  cells-renamed atomic width End = refl
  cells-renamed atomic width (More t ts) = ap₂ ◌+◌ (cells-renamed atomic width t) (cells-renamed atomic width ts)

-- each variable of the term has its place among those that cover it
pub places-covered : (vs : List ℕ) (t : Tree) → Covers vs t → HasPlaces (length vs) (apply (λ x. Variable (place_of x vs)) t)
places-covered vs t covers y o =
    let from = occurs_from (λ x. Variable (place_of x vs)) t y o in
    subst (λ k. k < length vs) (eqb-true (place_of from.0 vs) y from.2) (place-within vs from.0 (covers from.0 from.1))
