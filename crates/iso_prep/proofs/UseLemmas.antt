-- The uses of variables, gone through row by row.
use Rattle.std.proofs.Common.{◌≡◌, ℕ, List, [], ◌∷◌, ◌++◌, refl, sym, ap, ◌∙◌, String, Vec, Global}
use Rattle.std.specs.Borrow.{Bor}
use Rattle.iso_model.specs.declared.terms.Term.{Term}
use Rattle.iso_model.specs.declared.terms.Term.TheVariants.{Compound}
use Rattle.iso_model.specs.Terms.TermOf.{term_of, row_of}
use Rattle.iso_model.proofs.OnTerms.RowLemmas.{term_of_compound}
use Rattle.iso_prep.specs.declared.uses.Use.{Use}
use Rattle.iso_prep.specs.Uses.{with_term, with_rows}

rows_push : (place : ℕ) (rows : List (Bor (List Term))) (row : Bor (List Term)) (us : List Use) → with_rows place (rows ++ row ∷ []) us ≡ with_rows place rows (with_term place (row_of row.now) us)
rows_push place [] row us = refl
rows_push place (r ∷ rows) row us = ap (with_term place (row_of r.now)) (rows_push place rows row us)

-- one row more
module _ (place : ℕ) (rows more : List (Bor (List Term))) (row : Bor (List Term)) (e : more ≡ rows ++ row ∷ []) where
  pub rows_more : (us : List Use) → with_rows place more us ≡ with_rows place rows (with_term place (row_of row.now) us)
  rows_more us = ap (λ rs. with_rows place rs us) e ∙ rows_push place rows row us

  -- a compound's arguments
  pub rows_arguments : (t : Term) (f : String Global) (v : Vec Term Global) → t ≡ Compound f v → row.now ≡ v.items → (us : List Use) → with_rows place more us ≡ with_rows place rows (with_term place (term_of t) us)
  rows_arguments t f v is same us =
      rows_more us ∙ ap (λ ts. with_rows place rows (with_term place (row_of ts) us)) same ∙ ap (λ u. with_rows place rows (with_term place u us)) (sym (ap term_of is ∙ term_of_compound f v))

-- a row was split, and its first term gone through
pub rows_split : (place : ℕ) (rows more last : List (Bor (List Term))) (terms : List Term) (others : Bor (List Term)) (first : Term) → terms ≡ first ∷ others.now → more ≡ rows ++ others ∷ []
    → (us after : List Use) → with_rows place last after ≡ with_rows place more (with_term place (term_of first) us) → with_rows place last after ≡ with_rows place rows (with_term place (row_of terms) us)
rows_split place rows more last terms others first split e us after is = is ∙ rows_more place rows more others e (with_term place (term_of first) us) ∙ rw split refl
