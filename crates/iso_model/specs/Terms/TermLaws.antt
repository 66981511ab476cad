-- Laws of which trees are terms.
use Rattle.std.specs.Prelude.{◌≡◌, ℕ, IsTrue, IfSome}
use Rattle.iso_model.specs.declared.terms.Term.{Term}
use Rattle.iso_model.specs.Terms.Trees.{Tree, arities_fit}
use Rattle.iso_model.specs.Terms.TermOf.{term_of}
use Rattle.iso_model.specs.Terms.Sorts.{is_term}
use Rattle.iso_model.specs.Terms.Variables.{occurs}
use Rattle.iso_model.specs.Terms.Substitutions.{Subst, apply}
use Rattle.iso_model.specs.Terms.Unifiers.{Unifier, NeverEqual}
use Rattle.iso_model.specs.Terms.Unification.{unify_under}
use Rattle.iso_model.specs.Terms.Clashes.{clash}
use Rattle.iso_model.specs.Terms.Copies.{copy_from}

-- what a Rust term means is a term exactly where each compound in it has 1 to 255 arguments
abbrev pub MeaningIsTerm : Type 0
MeaningIsTerm = (t : Term) → is_term (term_of t) ≡ arities_fit (term_of t)

-- a term stays one where its variables are replaced by terms
abbrev pub ImageIsTerm : Type 0
ImageIsTerm = (s : Subst) (t : Tree) → IsTrue (is_term t) → ((n : ℕ) → IsTrue (occurs n t) → IsTrue (is_term (s n))) → IsTrue (is_term (apply s t))

-- the unifier of two terms gives terms to all variables
abbrev pub UnifierGivesTerms : Type 0
UnifierGivesTerms = (a b : Tree) (s : Subst) → Unifier a b s → IsTrue (is_term a) → IsTrue (is_term b) → (n : ℕ) → IsTrue (is_term (s n))

-- and so does unifying two terms under a substitution that gives terms
abbrev pub UnifyingGivesTerms : Type 0
UnifyingGivesTerms =
    (r : Subst) (a b : Tree) → IsTrue (is_term a) → IsTrue (is_term b) → ((n : ℕ) → IsTrue (is_term (r n)))
    → IfSome (unify_under r a b) (λ u. (n : ℕ) → IsTrue (is_term (u n)))

-- a copy of a term is a term
abbrev pub CopyIsTerm : Type 0
CopyIsTerm = (t : Tree) (n : ℕ) → IsTrue (is_term t) → IsTrue (is_term (copy_from t n))

-- terms that clash have no unifier
abbrev pub NoUnifierAtClash : Type 0
NoUnifierAtClash = (a b : Tree) → IsTrue (is_term a) → IsTrue (is_term b) → IsTrue (clash a b) → NeverEqual a b
