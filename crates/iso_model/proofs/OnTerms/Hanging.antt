-- A list of terms that is taken apart gets lighter: its last term goes, or the others hang as the first argument of that one.
use Rattle.std.proofs.Common.{◌≡◌, Some, slice_get, ℕ, zero, suc, ◌+◌, ◌-◌, ◌<◌, List, [], ◌∷◌, ◌++◌, length, map, take, set, get_or, length-take, refl, ap, sym, ◌∙◌, arith, String, Vec, Global}
use Rattle.std.specs.String.{string_bytes}
use Rattle.std.proofs.lemmas.List.{map-append, length-map}
use Rattle.iso_model.specs.declared.terms.Term.{Term}
use Rattle.iso_model.specs.declared.terms.Term.TheVariants.{Compound}
use Rattle.iso_model.specs.Terms.Trees.{Tree, Apply, row}
use Rattle.iso_model.specs.Terms.TermOf.{term_of, row_of}
use Rattle.iso_model.specs.Terms.Sizes.{size, light_size}
use Rattle.iso_model.proofs.OnTerms.RowLemmas.{term_of_compound}

size-push : (us : List Tree) (u : Tree) → size (row (us ++ u ∷ [])) ≡ size (row us) + size u
size-push [] u = omega arith
size-push (t ∷ us) u = omega (arith, size-push us u)

light-push : (us : List Tree) (u : Tree) → 0 < size u → 0 < light_size u → light_size (row us) < light_size (row (us ++ u ∷ []))
light-push [] u some light = omega arith
light-push (t ∷ us) u some light = omega (arith, size-push us u)

-- a term more at the end, which has a size
pub light_size-push : (ts : List Term) (t : Term) → 0 < size (term_of t) → 0 < light_size (term_of t) → light_size (row_of ts) < light_size (row_of (ts ++ t ∷ []))
light_size-push ts t some light =
    let more = light-push (map term_of ts) (term_of t) some light in
    let whole : row_of (ts ++ t ∷ []) ≡ row (map term_of ts ++ term_of t ∷ []) = ap row (map-append term_of ts (t ∷ [])) in
    rw whole more

pub light_size-compound : (f : String Global) (v : Vec Term Global) → (0 < size (term_of (Compound f v))) × (0 < light_size (term_of (Compound f v)))
light_size-compound f v =
    let whole = term_of_compound f v in
    let all = ap size whole in
    let light = ap light_size whole in
    (omega arith, omega arith)

set-last : (i : ℕ) (ts : List Term) (t : Term) → length ts ≡ suc i → set ts i t ≡ take i ts ++ t ∷ []
set-last i [] t size = absurd (omega arith)
set-last zero (u ∷ []) t size = refl
set-last zero (u ∷ v ∷ ts) t size = absurd (omega arith)
set-last (suc i) (u ∷ ts) t size = ap (λ xs. u ∷ xs) (set-last i ts t (omega arith))

hung-trees : (f : List ℕ) (us : List Tree) (a : Tree) (ts : List Tree) → 0 < length us → 1 + light_size (row (us ++ a ∷ [])) + size (row ts) < light_size (row (us ++ Apply f (row (a ∷ ts)) ∷ []))
hung-trees f [] a ts some = absurd (omega arith)
hung-trees f (u ∷ us) a ts some = omega (arith, size-push us a, size-push us (Apply f (row (a ∷ ts))))

-- the others hang as a compound in the first place, behind which the other arguments stand
pub light_size-hung : (i j : ℕ) (f : String Global) (v w : Vec Term Global) (others : List Term) (x a d : Term) → j ≡ i → length others ≡ suc i → 0 < i → 0 < length v.items → a ≡ get_or v.items 0 d → w.items ≡ set others i a →
    light_size (row_of (set (set v.items 0 x) 0 (Compound f w))) < light_size (row_of (take j others ++ Compound f v ∷ []))
light_size-hung i j f v w others x a d same size some whole first hung = rw same (of_items v.items refl whole first)
  where
    of_items : (items : List Term) → v.items ≡ items → 0 < length items → a ≡ get_or items 0 d → light_size (row_of (set (set items 0 x) 0 (Compound f w))) < light_size (row_of (take i others ++ Compound f v ∷ []))
    of_items [] is none e = absurd (omega arith)
    of_items (u ∷ ts) is more e =
        let left = ap light_size (term_of_compound f w) in
        let items : w.items ≡ take i others ++ a ∷ [] = hung ∙ set-last i others a size in
        let inner : row_of w.items ≡ row (map term_of (take i others) ++ term_of a ∷ []) = ap row_of items ∙ ap row (map-append term_of (take i others) (a ∷ [])) in
        let compound : term_of (Compound f v) ≡ Apply (string_bytes f) (row (term_of a ∷ map term_of ts)) = term_of_compound f v ∙ ap (λ us. Apply (string_bytes f) (row_of us)) is ∙ ap (λ b. Apply (string_bytes f) (row (term_of b ∷ map term_of ts))) (sym e) in
        let right : row_of (take i others ++ Compound f v ∷ []) ≡ row (map term_of (take i others) ++ Apply (string_bytes f) (row (term_of a ∷ map term_of ts)) ∷ []) =
        ap row (map-append term_of (take i others) (Compound f v ∷ [])) ∙ ap (λ b. row (map term_of (take i others) ++ b ∷ [])) compound in
        let filled : 0 < length (map term_of (take i others)) = omega (arith, length-map (take i others) term_of, length-take i others) in
        let less = hung-trees (string_bytes f) (map term_of (take i others)) (term_of a) (map term_of ts) filled in
        let lower = left ∙ ap (λ us. 1 + light_size us) inner in
        rw right (omega arith)

-- the last term, taken out of its place
last-taken : (i : ℕ) (ts : List Term) (t x d : Term) → length ts ≡ suc i → t ≡ get_or ts i d → take i (set ts i x) ++ t ∷ [] ≡ ts
last-taken i [] t x d size is = absurd (omega arith)
last-taken zero (u ∷ []) t x d size is = ap (λ v. v ∷ []) is
last-taken zero (u ∷ v ∷ ts) t x d size is = absurd (omega arith)
last-taken (suc i) (u ∷ ts) t x d size is = ap (λ us. u ∷ us) (last-taken i ts t x d (omega arith) is)

pub last-replaced : (ts : List Term) (n k : ℕ) (t x d : Term) → length ts ≡ n → k ≡ n → 0 < n → t ≡ get_or ts (k - 1) d → take (n - 1) (set ts (k - 1) x) ++ t ∷ [] ≡ ts
last-replaced ts n k t x d size same some is = rw same (last-taken (n - 1) ts t x d (omega arith) (rw same at is))

pub slice_get-set : (ts : List Term) (i j : ℕ) (t : Term) → j ≡ i → i < length ts → slice_get (set ts i t) j ≡ Some t
slice_get-set [] i j t same within = absurd (omega arith)
slice_get-set (u ∷ ts) zero j t same within = rw same refl
slice_get-set (u ∷ ts) (suc i) j t same within = rw same (slice_get-set ts i i t refl (omega arith))
