-- Unifiers (ISO/IEC 13211-1:1995, 7.3.1). It is own that no variable occurs in its own value, and which variable of a
-- class names it.
use Rattle.std.specs.Prelude.{◌≡◌, ◌≢◌, Option, Some, None}
use Rattle.iso_model.specs.Terms.Trees.{Tree}
use Rattle.iso_model.specs.Terms.Substitutions.{Subst, apply, Extends, BindsToOlder}

-- The most general unifier of two terms: it makes them equal, each substitution that makes them equal extends it,
-- and each class of variables that it makes equal is named by its least number.
pub record Unifier (a b : Tree) (s : Subst) : Type 0 where
  pub equal : apply s a ≡ apply s b
  pub most_general : (t : Subst) → apply t a ≡ apply t b → Extends s t
  pub least : BindsToOlder s

-- no substitution makes the two terms equal
abbrev pub NeverEqual : Tree → Tree → Type 0
NeverEqual a b = (t : Subst) → apply t a ≢ apply t b

-- what a search for a unifier of two terms may answer: their unifier, or nothing where they are never equal
abbrev pub IsUnifierOf : Tree → Tree → Option Subst → Type 0
IsUnifierOf a b (Some s) = Unifier a b s
IsUnifierOf a b None = NeverEqual a b
