-- The variables of rows of terms that are gone through one after the other.
use Rattle.std.proofs.Common.{◌≡◌, ℕ, ◌+◌, ◌*◌, ◌<◌, List, [], ◌∷◌, ◌++◌, length, take, refl, ap, ◌∙◌, arith, String, Vec, Global, sum_by}
use Rattle.std.specs.Borrow.{Bor}
use Rattle.std.proofs.lemmas.List.Sums.{sum_by-append}
use Rattle.iso_model.specs.declared.terms.Term.{Term}
use Rattle.iso_model.specs.declared.terms.Term.TheVariants.{Compound}
use Rattle.iso_model.specs.Terms.TermOf.{term_of, row_of}
use Rattle.iso_model.specs.Terms.Sizes.{size}
use Rattle.iso_model.specs.Terms.Variables.{distinct_from}
use Rattle.iso_model.proofs.OnTerms.RowLemmas.{term_of_compound}
use Rattle.iso_model.specs.Terms.Rows.{rows_seen, row_load}

seen-push : (seen : List ℕ) (rows : List (Bor (List Term))) (row : Bor (List Term)) → rows_seen seen (rows ++ row ∷ []) ≡ rows_seen (distinct_from seen (row_of row.now)) rows
seen-push seen [] row = refl
seen-push seen (r ∷ rows) row = ap (λ s. distinct_from s (row_of r.now)) (seen-push seen rows row)

-- one row more
module _ (rows more : List (Bor (List Term))) (row : Bor (List Term)) (e : more ≡ rows ++ row ∷ []) where
  pub rows_seen-more : (seen : List ℕ) → rows_seen seen more ≡ rows_seen (distinct_from seen (row_of row.now)) rows
  rows_seen-more seen = ap (rows_seen seen) e ∙ seen-push seen rows row

  pub row_load-more : sum_by row_load more ≡ 1 + 2 * size (row_of row.now) + sum_by row_load rows
  row_load-more =
      let whole = ap (sum_by row_load) e ∙ sum_by-append row_load rows (row ∷ []) in
      omega arith

  -- a compound's arguments
  module _ (t : Term) (f : String Global) (v : Vec Term Global) (is : t ≡ Compound f v) (same : row.now ≡ v.items) where
    pub rows_seen-arguments : (seen : List ℕ) → rows_seen seen more ≡ rows_seen (distinct_from seen (term_of t)) rows
    rows_seen-arguments seen = rows_seen-more seen ∙ rw (is, term_of_compound f v, same) refl

    pub row_load-arguments : sum_by row_load more < 2 * size (term_of t) + sum_by row_load rows
    row_load-arguments =
        let all = row_load-more in
        let whole = ap size (ap term_of is ∙ term_of_compound f v) in
        let inner = ap (λ us. size (row_of us)) same in
        omega arith

-- a row was split, and its first term gone through
module _ (rows more last : List (Bor (List Term))) (terms : List Term) (others : Bor (List Term)) (first : Term) (split : terms ≡ first ∷ others.now) (e : more ≡ rows ++ others ∷ []) where
  pub rows_seen-split : (seen after : List ℕ) → rows_seen after last ≡ rows_seen (distinct_from seen (term_of first)) more → rows_seen after last ≡ rows_seen (distinct_from seen (row_of terms)) rows
  rows_seen-split seen after is = is ∙ rows_seen-more rows more others e (distinct_from seen (term_of first)) ∙ rw split refl

  pub row_load-split : sum_by row_load last < 2 * size (term_of first) + sum_by row_load more → sum_by row_load last < 1 + 2 * size (row_of terms) + sum_by row_load rows
  row_load-split less =
      let same = row_load-more rows more others e in
      let whole = ap (λ z. size (row_of z)) split in
      omega arith

-- what stands in front stays there
pub kept_on : {X : Type 0} (a b c : List X) → take (length a) b ≡ a → take (length b) c ≡ b → take (length a) c ≡ a
kept_on [] b c p q = refl
kept_on (x ∷ a) [] c p q = cc
kept_on (x ∷ a) (y ∷ b) [] p q = cc
kept_on (x ∷ a) (y ∷ b) (z ∷ c) p q =
    let inner : take (length a) b ≡ a = cc in
    let outer : take (length b) c ≡ b = cc in
    let rest = kept_on a b c inner outer in cc
