-- The tree that a Rust term means is a term where its compounds have 1 to 255 arguments.
use Rattle.std.proofs.Common.{◌≡◌, List, [], ◌∷◌, map, refl, ap, ap₂, subst, ◌&&◌, nat_le}
use Rattle.iso_model.specs.declared.terms.Term.{Term}
use Rattle.iso_model.specs.declared.terms.Term.TheOpen.{Term-F}
use Rattle.iso_model.specs.declared.terms.Term.TheViews.{roll-Term}
use Rattle.iso_model.specs.declared.terms.Term.TheFolds.{fold-roll-Term, ind-Term, map-Term}
use Rattle.iso_model.specs.Terms.Trees.{Tree, count, arities_fit}
use Rattle.iso_model.specs.Terms.TermOf.{term_of, row_of, term_step}
use Rattle.iso_model.specs.Terms.Sorts.{is_term, is_row}

abbrev AsItFits : Term → Type 0
AsItFits t = is_term (term_of t) ≡ arities_fit (term_of t)

-- a term with that fact
abbrev Fitting : Type 0
Fitting = (t : Term) × AsItFits t

members : (us : List Fitting) → is_row (row_of (map (λ u. u.0) us)) ≡ arities_fit (row_of (map (λ u. u.0) us))
members [] = refl
members (u ∷ us) = ap₂ ◌&&◌ u.1 (members us)

from_parts : (y : Term-F Fitting) → AsItFits (roll-Term (map-Term Fitting Term (λ u. u.0) y))
from_parts (Term-F.Var n) = rw (fold-roll-Term Tree term_step (Term-F.Var n)) refl
from_parts (Term-F.Int z) = rw (fold-roll-Term Tree term_step (Term-F.Int z)) refl
from_parts (Term-F.Atom a) = rw (fold-roll-Term Tree term_step (Term-F.Atom a)) refl
from_parts (Term-F.Compound f v) =
    let n = count (row_of (map (λ u. u.0) v.items)) in
    rw (fold-roll-Term Tree term_step (map-Term Fitting Term (λ u. u.0) (Term-F.Compound f v)))
    (ap (λ b. nat_le 1 n && (nat_le n 255 && b)) (members v.items))

pub meaning_is_term : (t : Term) → is_term (term_of t) ≡ arities_fit (term_of t)
meaning_is_term t = ind-Term AsItFits (λ x y e. subst (λ z. AsItFits (roll-Term z)) e (from_parts y)) t
