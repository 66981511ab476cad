-- What a goal of sub_atom/5 comes to.
use Rattle.std.proofs.Common.{◌≡◌, ◌&&◌, ℕ, List, [], ◌∷◌, map, length, chars, pos, negsuc, Vec, Global, Ok, Err, refl, ap, ap₂, sym, ◌∙◌, subst}
use Rattle.std.proofs.lemmas.List.Elements.{filter_agree}
use Rattle.std.specs.List.{All, filter}
use Rattle.iso_model.specs.Terms.Trees.{Tree, Integer, Name, row}
use Rattle.iso_model.specs.Terms.Arguments.{argument, arity}
use Rattle.iso_model.specs.Search.AtomParts as model
use Rattle.iso_model.specs.Search.AtomParts.{sub_settled, with_atom, with_count, sub_key, fits, is_number, is_name, parts_offered}
use Rattle.iso_model.specs.Search.Settlements.{Settled, Offers, Offer}
use Rattle.iso_model.specs.declared.kinds.AtomPart.TheVariants.{Sub}
use Rattle.iso_lib_core.specs.Checks.{IsRefused, PassesTo}
use Rattle.iso_lib_core.specs.declared.outcomes.Fault.{Fault}
use Rattle.iso_lib_core.specs.declared.outcomes.Fault.TheVariants as fault
use Rattle.iso_text.specs.declared.parts.Parts.{Parts}
use Rattle.iso_text.specs.Parts.{AreOf, IsParted, part_offer, parts_in}
use Rattle.iso_text.specs.Bounds.{count_of, name_of, asked_of, allows, allows_text, suits}

number_same : (t : Tree) (n : ℕ) → is_number t n ≡ allows (count_of t) n
number_same (Integer (pos m)) n = refl
number_same (Integer (negsuc m)) n = refl
number_same t n = refl

name_same : (t : Tree) (b : List ℕ) → is_name t b ≡ allows_text (name_of t) b
name_same (Name a) b = refl
name_same t b = refl

fits_same : (t : Tree) (cs : List ℕ) (p : model.Part) → fits (argument 1 t) (argument 2 t) (argument 3 t) (argument 4 t) cs p ≡ suits (asked_of t) (name_of (argument 4 t)) cs p
fits_same t cs p =
    (λ i. number_same (argument 1 t) p.before i && (number_same (argument 2 t) p.length i && (number_same (argument 3 t) (model.behind cs p) i && name_same (argument 4 t) (model.part_text cs p) i)))

-- each part that suits
pub sub_parted : (t : Tree) (text : List ℕ) (kept : Vec Parts Global) → arity t ≡ 5 → argument 0 t ≡ Name text
    → ((s : Settled) → with_atom (argument 4 t) sub_key (with_count (argument 1 t) (with_count (argument 2 t) (with_count (argument 3 t) s))) ≡ s)
    → map (part_offer 8 t) (parts_in kept.items) ≡ map (model.part_offer text) (filter (suits (asked_of t) (name_of (argument 4 t)) (chars text)) (model.all_parts (length (chars text)))) → All (AreOf t) kept.items
    → IsParted Sub t (sub_settled (argument 0 t) (argument 1 t) (argument 2 t) (argument 3 t) (argument 4 t)) (Ok kept)
sub_parted t text kept five is pass offers places = (
  8,
  ap (λ (u : Tree). sub_settled u (argument 1 t) (argument 2 t) (argument 3 t) (argument 4 t)) is
      ∙ pass (parts_offered text (argument 1 t) (argument 2 t) (argument 3 t) (argument 4 t))
      ∙ ap (λ (ps : List model.Part). Offers (row (Name text ∷ argument 1 t ∷ argument 2 t ∷ argument 3 t ∷ argument 4 t ∷ [])) (map (model.part_offer text) ps))
      (filter_agree (fits (argument 1 t) (argument 2 t) (argument 3 t) (argument 4 t) (chars text)) (suits (asked_of t) (name_of (argument 4 t)) (chars text)) (fits_same t (chars text)) (model.all_parts (length (chars text))))
      ∙ ap₂ (λ (u : Tree) (os : List Offer). Offers (row (u ∷ argument 1 t ∷ argument 2 t ∷ argument 3 t ∷ argument 4 t ∷ [])) os) (sym is) (sym offers),
  places,
)

-- a check that comes first raised its error
pub passes_raised : {I J : Type 0} (A B : Type 0) (f : I → Settled) (g : A → I → Settled) (h : J → Settled) (k : B → J → Settled) (e : Fault) → (choose : J → I) → ((j : J) → h j ≡ f (choose j)) → PassesTo f g (Err e) → PassesTo h k (Err e)
passes_raised A B f g h k (fault.Raise ball) choose same raised = λ j. subst (λ s. IsRefused s ball) (sym (same j)) (raised (choose j))
passes_raised A B f g h k fault.Full choose same raised = raised
passes_raised A B f g h k fault.NoMemory choose same raised = raised
