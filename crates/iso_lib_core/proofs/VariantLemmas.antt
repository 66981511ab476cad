-- Terms written out part by part.
use Rattle.std.proofs.Common.{◌≡◌, ℕ, List, [], ◌∷◌, ◌++◌, map, length, sym, ap, ap₂, ◌∙◌, String, Vec, Global}
use Rattle.std.specs.Borrow.{Bor}
use Rattle.std.specs.String.{string_bytes}
use Rattle.std.proofs.lemmas.List.{append_assoc, append-nil, map-append}
use Rattle.iso_model.specs.declared.terms.Term.{Term}
use Rattle.iso_model.specs.declared.terms.Term.TheVariants.{Compound}
use Rattle.iso_model.specs.Terms.TermOf.{term_of, row_of}
use Rattle.iso_model.proofs.OnTerms.RowLemmas.{count_row_of, term_of_compound}
use Rattle.iso_lib_core.specs.declared.variants.Piece.{Piece}
use Rattle.iso_lib_core.specs.declared.variants.Piece.TheVariants as piece
use Rattle.iso_lib_core.specs.Variants.{Sign, OfCompound, signs, sign_of, rows_signs}

signs_push : (rows : List (Bor (List Term))) (row : Bor (List Term)) → rows_signs (rows ++ row ∷ []) ≡ signs (row_of row.now) ++ rows_signs rows
signs_push [] row = sym (append-nil (signs (row_of row.now)))
signs_push (r ∷ rows) row = ap (λ xs. xs ++ signs (row_of r.now)) (signs_push rows row) ∙ append_assoc (signs (row_of row.now)) (rows_signs rows) (signs (row_of r.now))

-- one row more
pub signs_more : (rows more : List (Bor (List Term))) (row : Bor (List Term)) → more ≡ rows ++ row ∷ [] → rows_signs more ≡ signs (row_of row.now) ++ rows_signs rows
signs_more rows more row e = ap rows_signs e ∙ signs_push rows row

-- a compound was written out, and its arguments are left
pub signs_compound : (ps qs : List Piece) (rows more : List (Bor (List Term))) (row : Bor (List Term)) (t : Term) (f g : String Global) (v : Vec Term Global) (n : ℕ)
    → qs ≡ ps ++ piece.Compound g n ∷ [] → string_bytes g ≡ string_bytes f → n ≡ length v.items → more ≡ rows ++ row ∷ [] → row.now ≡ v.items → t ≡ Compound f v
    → map sign_of qs ++ rows_signs more ≡ map sign_of ps ++ (signs (term_of t) ++ rows_signs rows)
signs_compound ps qs rows more row t f g v n pushed text many e same is =
    let here : OfCompound (string_bytes g) n ≡ OfCompound (string_bytes f) n = ap (λ a. OfCompound a n) text in
    let counted = ap (λ k. OfCompound (string_bytes f) k) (many ∙ sym (count_row_of v.items)) in
    let parts : signs (term_of t) ≡ sign_of (piece.Compound g n) ∷ signs (row_of v.items) =
    ap signs (ap term_of is ∙ term_of_compound f v) ∙ ap (λ s. s ∷ signs (row_of v.items)) (sym (here ∙ counted)) in
    ap₂ (λ xs ys. xs ++ ys) (ap (map sign_of) pushed ∙ map-append sign_of ps (piece.Compound g n ∷ [])) (signs_more rows more row e ∙ ap (λ us. signs (row_of us) ++ rows_signs rows) same)
    ∙ append_assoc (map sign_of ps) (sign_of (piece.Compound g n) ∷ []) (signs (row_of v.items) ++ rows_signs rows)
    ∙ ap (λ xs. map sign_of ps ++ (xs ++ rows_signs rows)) (sym parts)

-- the first term of a row was written out, and the others are left
pub signs_split : (ps : List Piece) (xs : List Sign) (rows more : List (Bor (List Term))) (others : Bor (List Term)) (terms : List Term) (first : Term)
    → terms ≡ first ∷ others.now → more ≡ rows ++ others ∷ [] → xs ≡ map sign_of ps ++ (signs (term_of first) ++ rows_signs more)
    → xs ≡ map sign_of ps ++ (signs (row_of terms) ++ rows_signs rows)
signs_split ps xs rows more others terms first split e is =
    is ∙ ap (λ ys. map sign_of ps ++ (signs (term_of first) ++ ys)) (signs_more rows more others e)
    ∙ ap (λ ys. map sign_of ps ++ ys) (sym (append_assoc (signs (term_of first)) (signs (row_of others.now)) (rows_signs rows)))
    ∙ ap (λ us. map sign_of ps ++ (signs (row_of us) ++ rows_signs rows)) (sym split)
