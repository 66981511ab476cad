-- Lists of copies.
use Rattle.std.proofs.Common.{◌≡◌, ℕ, List, [], ◌∷◌, ◌++◌, true, ◌&&◌, ◌+◌, nat_le, map, refl, ap, ap₂, ◌∙◌}
use Rattle.std.proofs.lemmas.Bool.{and_parts}
use Rattle.std.specs.Cmp.Derive.{both_true}
use Rattle.iso_model.specs.Terms.Trees.{Tree, Variable, Apply, More, count, row, arities_fit}
use Rattle.iso_model.specs.Terms.Substitutions.{apply}
use Rattle.iso_model.specs.Terms.Variables.{variables}
use Rattle.iso_model.specs.Terms.Copies.{copy_from, place_of}
use Rattle.iso_model.specs.Terms.Lists.{dot, list_before}

-- the last element is the first of the tail
pub list_before-last : (ts : List Tree) (t tail : Tree) → list_before (ts ++ t ∷ []) tail ≡ list_before ts (Apply dot (row (t ∷ tail ∷ [])))
list_before-last [] t tail = refl
list_before-last (u ∷ ts) t tail = ap (λ x. Apply dot (row (u ∷ x ∷ []))) (list_before-last ts t tail)

pub map-last : {X Y : Type 0} (f : X → Y) (xs : List X) (x : X) → map f (xs ++ x ∷ []) ≡ map f xs ++ f x ∷ []
map-last f [] x = refl
map-last f (y ∷ xs) x = ap (λ (ys : List _). f y ∷ ys) (map-last f xs x)

-- a store can hold a list where it can hold each element and the tail
pub list_fits : (ts : List Tree) (t tail : Tree) → arities_fit (list_before ts tail) ≡ true → arities_fit t ≡ true → arities_fit (list_before (ts ++ t ∷ []) tail) ≡ true
list_fits [] t tail fits one = both_true one (both_true fits refl)
list_fits (u ∷ ts) t tail fits one =
    let both = and_parts (arities_fit u) (arities_fit (list_before ts tail) && true) fits in
    let behind = (and_parts (arities_fit (list_before ts tail)) true both.1).0 in
    both_true both.0 (both_true (list_fits ts t tail behind one) refl)

count-copy : (s : ℕ → ℕ) (t : Tree) → count (apply (λ x. Variable (s x)) t) ≡ count t
count-copy s (More t ts) = ap (λ n. n + 1) (count-copy s ts)
count-copy s t = refl

arities-copy : (s : ℕ → ℕ) (t : Tree) → arities_fit (apply (λ x. Variable (s x)) t) ≡ arities_fit t
arities-copy s (Apply f ts) = ap₂ (λ n b. nat_le 1 n && (nat_le n 255 && b)) (count-copy s ts) (arities-copy s ts)
arities-copy s (More t ts) = ap₂ (λ a b. a && b) (arities-copy s t) (arities-copy s ts)
arities-copy s t = refl

-- and a copy of a term that it can hold
pub copy_fits : (t : Tree) (n : ℕ) → arities_fit t ≡ true → arities_fit (copy_from t n) ≡ true
copy_fits t n fits = arities-copy (λ x. n + place_of x (variables t)) t ∙ fits
