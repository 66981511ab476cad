-- Laws of unifiers, and of unifying under a substitution.
use Rattle.std.specs.Prelude.{◌≤◌, ◌<◌, ◌≡◌, ◌≢◌, ℕ, List, IsTrue, IsFalse, IfSome, MatchOption}
use Rattle.std.specs.Option.{option_and_then}
use Rattle.iso_model.specs.Terms.Trees.{Tree, Variable, Apply, More}
use Rattle.iso_model.specs.Terms.Variables.{occurs}
use Rattle.iso_model.specs.Terms.Substitutions.{Subst, apply, compose, Extends, BindsToOlder, IsSubstitution}
use Rattle.iso_model.specs.Terms.Unifiers.{Unifier, NeverEqual, IsUnifierOf}
use Rattle.iso_model.specs.Terms.Unification.{unifier_of, unify_under}

-- two terms have at most one unifier
abbrev pub AtMostOneUnifier : Type 0
AtMostOneUnifier = (a b : Tree) (s t : Subst) → Unifier a b s → Unifier a b t → s ≡ t

-- two terms have a unifier, or no substitution makes them equal
abbrev pub UnifierOrNone : Type 0
UnifierOrNone = (a b : Tree) → IsUnifierOf a b (unifier_of a b)

-- each substitution that makes two terms equal comes from their unifier by a further substitution
abbrev pub UnifierIsMostGeneral : Type 0
UnifierIsMostGeneral = (a b : Tree) (s t : Subst) → Unifier a b s → apply t a ≡ apply t b → (u : Subst) × (t ≡ compose s u)

-- a unifier binds finitely many variables, and none of its terms has a variable that it binds
abbrev pub UnifierIsSubstitution : Type 0
UnifierIsSubstitution = (a b : Tree) (s : Subst) → Unifier a b s → IsSubstitution s

-- A unifier concerns the variables of its two terms alone: any other is left alone, and stands in no other variable's
-- value.
pub record Concerns (a b : Tree) (s : Subst) : Type 0 where
  pub bound : (x : ℕ) → IsFalse (occurs x a) → IsFalse (occurs x b) → s x ≡ Variable x
  pub values : (x n : ℕ) → IsFalse (occurs x a) → IsFalse (occurs x b) → IsTrue (occurs x (s n)) → n ≡ x

abbrev pub UnifierConcernsItsTerms : Type 0
UnifierConcernsItsTerms = (a b : Tree) (s : Subst) → Unifier a b s → Concerns a b s

-- a variable and a term in which it stands deeper have no unifier
abbrev pub NoUnifierInside : Type 0
NoUnifierInside = (x : ℕ) (t : Tree) → IsTrue (occurs x t) → t ≢ Variable x → NeverEqual (Variable x) t

-- What unifying a and b under r gives: a substitution that extends r and makes them equal, the most general one.
pub record UnifiesUnder (r : Subst) (a b : Tree) (u : Subst) : Type 0 where
  pub substitution : IsSubstitution u
  pub extends : Extends r u
  pub equal : apply u a ≡ apply u b
  pub most_general : (t : Subst) → Extends r t → apply t a ≡ apply t b → Extends u t

-- no substitution that extends r makes the two terms equal
abbrev pub NeverEqualUnder : Subst → Tree → Tree → Type 0
NeverEqualUnder r a b = (t : Subst) → Extends r t → apply t a ≢ apply t b

abbrev pub UnifyingUnder : Type 0
UnifyingUnder = (r : Subst) (a b : Tree) → IsSubstitution r → MatchOption (unify_under r a b) (NeverEqualUnder r a b) (UnifiesUnder r a b)

-- unifying under the substitution that binds nothing is finding the unifier
abbrev pub UnifyingUnderNothing : Type 0
UnifyingUnderNothing = (a b : Tree) → unify_under Variable a b ≡ unifier_of a b

-- which term stands first makes no difference
abbrev pub UnifyingEitherWay : Type 0
UnifyingEitherWay = (r : Subst) (a b : Tree) → unify_under r a b ≡ unify_under r b a

-- compounds of one name are unified by their arguments
abbrev pub UnifyingArguments : Type 0
UnifyingArguments = (r : Subst) (f : List ℕ) (a b : Tree) → unify_under r (Apply f a) (Apply f b) ≡ unify_under r a b

-- lists of terms are unified member by member, each pair under what came of those before
abbrev pub UnifyingInTurn : Type 0
UnifyingInTurn =
    (r : Subst) (a b c d : Tree) → unify_under r (More a c) (More b d) ≡ option_and_then (λ u. unify_under u c d) (unify_under r a b)

-- unifying keeps that variables stand for older ones
abbrev pub UnifyingKeepsAge : Type 0
UnifyingKeepsAge = (r : Subst) (a b : Tree) → BindsToOlder r → IfSome (unify_under r a b) BindsToOlder

-- A substitution of the variables below k: it binds no other, and its terms have no other.
pub record StaysBelow (k : ℕ) (s : Subst) : Type 0 where
  pub bound : (n : ℕ) → k ≤ n → s n ≡ Variable n
  pub values : (n m : ℕ) → n < k → IsTrue (occurs m (s n)) → m < k

-- all variables of the term are below k
abbrev pub AllBelow : ℕ → Tree → Type 0
AllBelow k t = (x : ℕ) → IsTrue (occurs x t) → x < k

-- unifying terms of variables below k binds only those
abbrev pub UnifyingStaysBelow : Type 0
UnifyingStaysBelow = (k : ℕ) (r : Subst) (a b : Tree) → StaysBelow k r → AllBelow k a → AllBelow k b → IfSome (unify_under r a b) (StaysBelow k)
