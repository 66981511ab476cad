-- Terms that are pairs of a witness and an item.
use Rattle.std.proofs.Common.{◌≡◌, ◌≢◌, ℕ, List, [], ◌∷◌, ◌++◌, length, codes, true, false, refl, ap, sym, ◌∙◌, subst, arith}
use Rattle.std.specs.Str.{bytes_eq}
use Rattle.std.proofs.lemmas.Bool.{false≢true}
use Rattle.std.proofs.lemmas.Slice.Eq.{bytes_eq-Decides}
use Rattle.iso_model.specs.declared.terms.Term.{Term}
use Rattle.iso_model.specs.Terms.Trees.{Tree, Apply}
use Rattle.iso_model.specs.Terms.TermOf.{term_of, row_of}
use Rattle.iso_model.specs.Search.Groups.{pair, is_solution}

-- a compound with two arguments is one by its name
pub pair_two : (f : List ℕ) (xs : List Term) → length xs ≡ 2 → is_solution (Apply f (row_of xs)) ≡ bytes_eq f (codes "-")
pair_two f [] two = absurd (omega (arith, two))
pair_two f (x ∷ []) two = absurd (omega (arith, two))
pair_two f (x ∷ y ∷ []) two = refl
pair_two f (x ∷ y ∷ z ∷ xs) two = absurd (omega (arith, two))

-- and one with more or fewer is none
pub pair_other : (f : List ℕ) (xs : List Term) → (length xs ≡ 2 → ⊥) → is_solution (Apply f (row_of xs)) ≡ false
pair_other f [] other = refl
pair_other f (x ∷ []) other = refl
pair_other f (x ∷ y ∷ []) other = absurd (other refl)
pair_other f (x ∷ y ∷ z ∷ xs) other = refl

named_pair : (f : List ℕ) (w t : Term) → is_solution (Apply f (row_of (w ∷ t ∷ []))) ≡ true
    → pair (term_of w) (term_of t) ≡ Apply f (row_of (w ∷ t ∷ []))
named_pair f w t is =
    ap (λ (n : List ℕ). Apply n (row_of (w ∷ t ∷ []))) (sym ((bytes_eq-Decides f (codes "-")).0 is))

-- a pair's two parts are its last two arguments
pub pair_parts : (f : List ℕ) (more : List Term) (w t : Term)
    → is_solution (Apply f (row_of ((more ++ w ∷ []) ++ t ∷ []))) ≡ true
    → pair (term_of w) (term_of t) ≡ Apply f (row_of ((more ++ w ∷ []) ++ t ∷ []))
pair_parts f [] w t is = named_pair f w t is
pair_parts f (m ∷ []) w t is = absurd (false≢true is)
pair_parts f (m ∷ n ∷ []) w t is = absurd (false≢true is)
pair_parts f (m ∷ n ∷ k ∷ more) w t is = absurd (false≢true is)
