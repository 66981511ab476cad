-- Laws of variables and of substitutions.
use Rattle.std.specs.Prelude.{◌≡◌, ℕ, ◌==◌, ◌↔◌, IsTrue}
use Rattle.std.specs.List.{IsDistinct}
use Rattle.iso_model.specs.Terms.Trees.{Tree}
use Rattle.iso_model.specs.Terms.Variables.{occurs, is_in, variables}
use Rattle.iso_model.specs.Terms.Substitutions.{Subst, apply, compose}

-- the list of a term's variables has those that occur in it, each once
abbrev pub ListedAreOccurring : Type 0
ListedAreOccurring = (t : Tree) (x : ℕ) → is_in x (variables t) ≡ occurs x t

abbrev pub ListedOnce : Type 0
ListedOnce = (t : Tree) → IsDistinct ◌==◌ (variables t)

-- to apply a composition is to apply one substitution and then the other
abbrev pub ComposedApplies : Type 0
ComposedApplies = (s t : Subst) (u : Tree) → apply (compose s t) u ≡ apply t (apply s u)

-- composing three substitutions needs no brackets
abbrev pub ComposingInAnyOrder : Type 0
ComposingInAnyOrder = (r s t : Subst) → compose (compose r s) t ≡ compose r (compose s t)

-- two substitutions make the same of a term exactly where they agree on the variables that occur in it
abbrev pub ImagesAgree : Type 0
ImagesAgree = (s t : Subst) (u : Tree) → (apply s u ≡ apply t u) ↔ ((x : ℕ) → IsTrue (occurs x u) → s x ≡ t x)

-- the variables of an image are those of the values of the term's variables
abbrev pub VariablesOfImage : Type 0
VariablesOfImage =
    (s : Subst) (u : Tree) (y : ℕ) → IsTrue (occurs y (apply s u)) ↔ ((x : ℕ) × IsTrue (occurs x u) × IsTrue (occurs y (s x)))
