-- Control constructs by the arguments of a compound.
use Rattle.std.proofs.Common.{◌≡◌, ◌<◌, ◌≤◌, ℕ, List, [], ◌∷◌, map, length, refl, sym, ap, ap₂, ◌∙◌, arith, true, inl, inr, Some, None, codes, String, Vec, Global, get_or}
use Rattle.std.specs.String.{string_bytes}
use Rattle.std.specs.Str.{bytes_eq}
use Rattle.std.proofs.lemmas.Bool.{cases_Bool}
use Rattle.std.proofs.lemmas.List.{length-map}
use Rattle.std.proofs.lemmas.Slice.Eq.{bytes_eq-Decides}
use Rattle.iso_model.specs.declared.terms.Term.{Term}
use Rattle.iso_model.specs.declared.terms.Term.TheVariants.{Compound}
use Rattle.iso_model.specs.Terms.Trees.{Tree, Apply, row}
use Rattle.iso_model.specs.Terms.TermOf.{term_of, row_of}
use Rattle.iso_model.specs.Search.Bodies.{two}
use Rattle.iso_model.proofs.OnTerms.RowLemmas.{term_of_compound}
use Rattle.iso_prep.specs.declared.connectives.Connective.{Connective}
use Rattle.iso_prep.specs.declared.connectives.Connective.TheVariants.{And, Or, If}
use Rattle.iso_prep.specs.Connectives.{text_of, connective_of, control_of}

is_text : (f a : List ℕ) → bytes_eq f a ≡ true → f ≡ a
is_text f a h = (bytes_eq-Decides f a).0 h

-- a connective is found by its text alone
pub named_by_text : (f : List ℕ) (k : Connective) → connective_of f ≡ Some k → f ≡ text_of k
named_by_text f k e =
    elim (cases_Bool (bytes_eq f (codes ","))) [
      | inl comma ↦ (let d : Some And ≡ Some k = rw comma at e in let same : And ≡ k = cc in is_text f (codes ",") comma ∙ ap text_of same)
      | inr no_comma ↦ elim (cases_Bool (bytes_eq f (codes ";"))) [
        | inl bar ↦ (let d : Some Or ≡ Some k = rw (no_comma, bar) at e in let same : Or ≡ k = cc in is_text f (codes ";") bar ∙ ap text_of same)
        | inr no_bar ↦ elim (cases_Bool (bytes_eq f (codes "->"))) [
          | inl arrow ↦ (let d : Some If ≡ Some k = rw (no_comma, no_bar, arrow) at e in let same : If ≡ k = cc in is_text f (codes "->") arrow ∙ ap text_of same)
          | inr other ↦ (let d : None ≡ Some k = rw (no_comma, no_bar, other) at e in cc)
        ]
      ]
    ]

-- a list of two items, by what is read of it
pub two_items : {X : Type 0} (xs : List X) (a b : X) → 2 ≤ length xs → length xs < 3 → a ≡ get_or xs 0 a → b ≡ get_or xs 1 b → xs ≡ a ∷ b ∷ []
two_items [] a b h k i j = absurd (omega arith)
two_items (x ∷ []) a b h k i j = absurd (omega arith)
two_items (x ∷ y ∷ []) a b h k i j = ap₂ (λ v w. v ∷ w ∷ []) (sym i) (sym j)
two_items (x ∷ y ∷ z ∷ xs) a b h k i j = absurd (omega arith)

pub control_of_compound : (t : Term) (f : String Global) (v : Vec Term Global) (a b : Term) (k : Connective) → t ≡ Compound f v → v.items ≡ a ∷ b ∷ [] → connective_of (string_bytes f) ≡ Some k
    → term_of t ≡ two (text_of k) (term_of a) (term_of b)
control_of_compound t f v a b k is items e = ap term_of is ∙ term_of_compound f v ∙ ap₂ (λ g us. Apply g (row_of us)) (named_by_text (string_bytes f) k e) items

-- what has another number of arguments is no control construct
control_of_others : (f : List ℕ) (ts : List Tree) → (length ts ≡ 2 → ⊥) → control_of (Apply f (row ts)) ≡ None
control_of_others f [] h = refl
control_of_others f (a ∷ []) h = refl
control_of_others f (a ∷ b ∷ []) h = absurd (h refl)
control_of_others f (a ∷ b ∷ c ∷ ts) h = refl

pub no_control : (t : Term) (f : String Global) (v : Vec Term Global) → t ≡ Compound f v → (length v.items ≡ 2 → ⊥) → control_of (term_of t) ≡ None
no_control t f v is other = ap control_of (ap term_of is ∙ term_of_compound f v) ∙ control_of_others (string_bytes f) (map term_of v.items) (λ e. other (sym (length-map v.items term_of) ∙ e))
