-- Lists, one element further.
use Rattle.std.proofs.Common.{◌≡◌, ◌<◌, ◌+◌, ℕ, Bool, true, false, List, [], ◌∷◌, ◌++◌, map, take, length, get_or, ap, ◌∙◌, refl, sym}
use Rattle.std.specs.List.{filter}
use Rattle.std.proofs.lemmas.List.{map-append, take_more, append-nil}
use Rattle.std.proofs.lemmas.List.Elements.{filter-append}

pub map_more : {A B : Type 0} (f : A → B) (xs : List A) (k : ℕ) (d : A) → k < length xs → map f (take (k + 1) xs) ≡ map f (take k xs) ++ f (get_or xs k d) ∷ []
map_more f xs k d within = ap (map f) (take_more xs k d within) ∙ map-append f (take k xs) (get_or xs k d ∷ [])

filter_yes : {A : Type 0} (p : A → Bool) (xs : List A) (x : A) → p x ≡ true → filter p (xs ++ x ∷ []) ≡ filter p xs ++ x ∷ []
filter_yes p xs x h = filter-append p xs (x ∷ []) ∙ rw h refl

filter_no : {A : Type 0} (p : A → Bool) (xs : List A) (x : A) → p x ≡ false → filter p (xs ++ x ∷ []) ≡ filter p xs
filter_no p xs x h = filter-append p xs (x ∷ []) ∙ rw h (append-nil (filter p xs))

-- what a loop found that keeps the elements that pass a test, one element further
pub found_more : {A B : Type 0} (f : A → B) (p : B → Bool) (xs : List A) (k : ℕ) (d : A) (old new : List A) → k < length xs → p (f (get_or xs k d)) ≡ true → new ≡ old ++ get_or xs k d ∷ []
    → map f old ≡ filter p (map f (take k xs)) → map f new ≡ filter p (map f (take (k + 1) xs))
found_more f p xs k d old new within passes is had =
    ap (map f) is ∙ map-append f old (get_or xs k d ∷ []) ∙ ap (λ ys. ys ++ f (get_or xs k d) ∷ []) had
    ∙ sym (filter_yes p (map f (take k xs)) (f (get_or xs k d)) passes) ∙ ap (filter p) (sym (map_more f xs k d within))

pub found_same : {A B : Type 0} (f : A → B) (p : B → Bool) (xs : List A) (k : ℕ) (d : A) (old : List A) → k < length xs → p (f (get_or xs k d)) ≡ false
    → map f old ≡ filter p (map f (take k xs)) → map f old ≡ filter p (map f (take (k + 1) xs))
found_same f p xs k d old within fails had = had ∙ sym (filter_no p (map f (take k xs)) (f (get_or xs k d)) fails) ∙ ap (filter p) (sym (map_more f xs k d within))
