-- Unification (ISO/IEC 13211-1:1995, 7.3): the unifier of two terms where there is one, chosen by the proof in
-- `Exists`.
pub mod Applied
pub mod Composed
pub mod Bindings
pub mod Listed
pub mod Exists
use Rattle.std.specs.Prelude.{◌≡◌, ◌⊎◌, Option, Some, None}
use Rattle.std.specs.Option.{option_map}
use mathlib.Core.Logic.{inl, inr}
use Rattle.iso_model.specs.Terms.Trees.{Tree}
use Rattle.iso_model.specs.Terms.Substitutions.{Subst, apply, compose}
use Rattle.iso_model.specs.Terms.Unifiers.{Unifier, NeverEqual, IsUnifierOf}
use Exists.{Answer, Solved, solved_unifier, exists_or_not}

-- the substitution that a search for a unifier found
abbrev pub answer_of : {a b : Tree} → Answer a b → Option Subst
answer_of (inl found) = Some found.0
answer_of (inr never) = None

-- The unifier of two terms, or nothing where they are never equal. All that is known of it is its law, `UnifierOrNone`.
unfoldable pub unifier_of : Tree → Tree → Option Subst
unifier_of a b = answer_of (exists_or_not a b)

-- unifying two terms under the substitution r: the unifier of what they are under r, composed with r
abbrev pub unify_under : Subst → Tree → Tree → Option Subst
unify_under r a b = option_map (compose r) (unifier_of (apply r a) (apply r b))

answer_is : (a b : Tree) (found : Answer a b) → IsUnifierOf a b (answer_of found)
answer_is a b (inl found) = solved_unifier found.1
answer_is a b (inr never) = never

-- it is their unifier, or they are never equal
pub unifier_of_is : (a b : Tree) → IsUnifierOf a b (unifier_of a b)
unfolding unifier_of
unifier_of_is a b = answer_is a b (exists_or_not a b)
