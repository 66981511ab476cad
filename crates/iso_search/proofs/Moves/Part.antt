-- Goals that take atoms apart, as the engine comes to them.
use Rattle.std.proofs.Common.{◌≡◌, ℕ, List, [], ◌∷◌, map, true, Ok, Err, refl, ap, sym, ◌∙◌, subst, Vec, Global}
use Rattle.std.specs.Prelude.{Result}
use Rattle.std.specs.List.{All}
use Rattle.iso_model.specs.Terms.Trees.{arities_fit, row, Tree}
use Rattle.iso_model.specs.Terms.Arguments.{arity}
use Rattle.iso_model.specs.declared.kinds.AtomPart.{AtomPart}
use Rattle.iso_model.specs.declared.pauses.Ball.{Ball}
use Rattle.iso_lib_core.specs.declared.outcomes.Fault.{Fault}
use Rattle.iso_search_core.specs.Offers.{goal_arguments, rights_of, row_offer}
use Rattle.iso_model.specs.Search.Walker.{offered, settled, State}
use Rattle.iso_model.specs.Terms.TermOf.{term_of}
use Rattle.iso_model.specs.Search.AtomParts.{part_arity}
use Rattle.iso_model.specs.Search.Settlements as walker
use Rattle.iso_model.specs.Search.Settlements.{Settled, Refuses, Offers, constant_offer}
use Rattle.iso_model.specs.declared.kinds.AtomPart.TheVariants.{Concat, Sub}
use Rattle.iso_lib.specs.Settlements.{arguments_from}
use Rattle.iso_lib_core.specs.declared.outcomes.Fault.TheVariants as fault
use Rattle.iso_text.specs.Parts.{part_row, parts_in, arguments_row, AreOf, IsParted}
use Rattle.iso_text.specs.declared.parts.Part.{Part}
use Rattle.iso_text.specs.declared.parts.Parts.{Parts}
use Rattle.iso_search_core.specs.declared.offers.Offers.TheVariants as rows
use Rattle.iso_search_core.specs.declared.offers.OfferedRow.TheVariants as offered_row
use Rattle.iso_search.proofs.Moves.Offer.{refused_is}

-- Rows are offered.
pub record OffersParts (built_in : AtomPart) (t : Tree) (x : Settled) (kept : Vec Parts Global) : Type 0 where
  pub made : ℕ
  pub is : x ≡ Offers (arguments_row built_in t) (map (λ p. constant_offer made (part_row t p)) (parts_in kept.items))
  pub each : All (AreOf t) kept.items

module _ (built_in : AtomPart) (t : Tree) (x : Settled) (r : Result (Vec Parts Global) Fault) (h : IsParted built_in t x r) where
  pub parts_are : (kept : Vec Parts Global) → r ≡ Ok kept → OffersParts built_in t x kept
  parts_are kept is =
      let own : IsParted built_in t x (Ok kept) = subst (IsParted built_in t x) is h in
      record { made = own.0; is = own.1; each = own.2 }

  pub parts_raise : (ball : Ball) → r ≡ Err (fault.Raise ball) → (x ≡ Refuses (term_of ball.term.value)) × (arities_fit (term_of ball.term.value) ≡ true)
  parts_raise ball is = refused_is x ball (subst (IsParted built_in t x) is h)

-- the rows as they are kept
rights_are : (made : ℕ) (t : Tree) (ps : List Part) → map (row_offer made t) (map offered_row.Part ps) ≡ map (λ p. constant_offer made (part_row t p)) ps
rights_are made t [] = refl
rights_are made t (p ∷ ps) = ap (λ (os : List walker.Offer). constant_offer made (part_row t p) ∷ os) (rights_are made t ps)

arguments_are : (built_in : AtomPart) (t : Tree) → arity t ≡ part_arity built_in → goal_arguments t ≡ arguments_row built_in t
arguments_are Concat t many = ap (λ (n : ℕ). row (arguments_from 0 n t)) many
arguments_are Sub t many = ap (λ (n : ℕ). row (arguments_from 0 n t)) many

pub parted_offers : (built_in : AtomPart) (t : Tree) (x : Settled) (kept : Vec Parts Global) (s : State) (h : OffersParts built_in t x kept) → arity t ≡ part_arity built_in
    → offered (goal_arguments t) (rights_of h.made t (rows.Parts kept)) s.list s ≡ settled x s.list s
parted_offers built_in t x kept s h many =
    ap (λ (l : Tree). offered l (rights_of h.made t (rows.Parts kept)) s.list s) (arguments_are built_in t many)
    ∙ (ap (λ (rs : List walker.Offer). offered (arguments_row built_in t) rs s.list s) (rights_are h.made t (parts_in kept.items)) ∙ ap (λ (y : Settled). settled y s.list s) (sym h.is))
