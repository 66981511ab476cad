-- What a Rust term means has no list of terms but as the arguments of a compound.
use Rattle.std.proofs.Common.{◌≡◌, ◌&&◌, Bool, true, false, List, [], ◌∷◌, map, refl, subst}
use Rattle.iso_model.specs.declared.terms.Term.{Term}
use Rattle.iso_model.specs.declared.terms.Term.TheOpen.{Term-F}
use Rattle.iso_model.specs.declared.terms.Term.TheViews.{roll-Term}
use Rattle.iso_model.specs.declared.terms.Term.TheFolds.{fold-roll-Term, ind-Term, map-Term}
use Rattle.iso_model.specs.Terms.Trees.{Tree, Variable, Integer, Name, Apply, End, More}
use Rattle.iso_model.specs.Terms.TermOf.{term_of, row_of, term_step}

abbrev mutual
  pub is_shaped : Tree → Bool
  is_shaped (Variable n) = true
  is_shaped (Integer z) = true
  is_shaped (Name a) = true
  is_shaped (Apply f ts) = is_shaped_row ts
  is_shaped End = false
  is_shaped (More t ts) = false

  pub is_shaped_row : Tree → Bool
  is_shaped_row (Variable n) = false
  is_shaped_row (Integer z) = false
  is_shaped_row (Name a) = false
  is_shaped_row (Apply f ts) = false
  is_shaped_row End = true
  is_shaped_row (More t ts) = is_shaped t && is_shaped_row ts

abbrev HasShape : Term → Type 0
HasShape t = is_shaped (term_of t) ≡ true

abbrev Shaped : Type 0
Shaped = (t : Term) × HasShape t

members : (us : List Shaped) → is_shaped_row (row_of (map (λ u. u.0) us)) ≡ true
members [] = refl
members (u ∷ us) = rw u.1 (members us)

from_parts : (y : Term-F Shaped) → HasShape (roll-Term (map-Term Shaped Term (λ u. u.0) y))
from_parts (Term-F.Var n) = rw (fold-roll-Term Tree term_step (Term-F.Var n)) refl
from_parts (Term-F.Int z) = rw (fold-roll-Term Tree term_step (Term-F.Int z)) refl
from_parts (Term-F.Atom a) = rw (fold-roll-Term Tree term_step (Term-F.Atom a)) refl
from_parts (Term-F.Compound f v) = rw (fold-roll-Term Tree term_step (map-Term Shaped Term (λ u. u.0) (Term-F.Compound f v))) (members v.items)

term_shaped : (t : Term) → is_shaped (term_of t) ≡ true
term_shaped t = ind-Term HasShape (λ x y e. subst (λ z. HasShape (roll-Term z)) e (from_parts y)) t

pub row_shaped : (ts : List Term) → is_shaped_row (row_of ts) ≡ true
row_shaped [] = refl
row_shaped (t ∷ ts) = rw (term_shaped t) (row_shaped ts)
