-- Keys among others.
use Rattle.std.proofs.Common.{◌≡◌, ◌<◌, ◌+◌, ℕ, Bool, true, false, ◌&&◌, ◌||◌, ◌==◌, List, [], ◌∷◌, ◌++◌, if◌then◌else◌, length, take, get_or, fold, ap, ap₂, ◌∙◌, refl, sym}
use Rattle.std.specs.List.{list_any}
use Rattle.std.specs.Str.{bytes_eq}
use Rattle.std.proofs.lemmas.Bool.Decides.{same_from_decides, Decides-eqb, Decides-like}
use Rattle.std.proofs.lemmas.List.{map-append}
use Rattle.std.proofs.lemmas.List.Sums.{fold-append}
use Rattle.std.proofs.lemmas.Slice.Eq.{bytes_eq-Decides}
use Rattle.indexmap.specs.IndexSet.{insert_key}
use Rattle.iso_model.specs.Search.Keys as model
use Rattle.iso_lint_core.specs.declared.keys.Key.{Key}
use Rattle.iso_lint.specs.Findings.{noted, noted_unknown, unknown_of}
use Rattle.iso_lint_core.specs.KeyViews.{key_view, keys_view}
use Rattle.iso_lint.specs.Tables.{key_eq}
use Rattle.iso_lint.proofs.ListLemmas.{map_more}

same_text : (a b : List ℕ) → bytes_eq a b ≡ bytes_eq b a
same_text a b =
    let turned = Decides-like (bytes_eq b a) sym sym (bytes_eq-Decides b a) in
    same_from_decides {P = a ≡ b} (bytes_eq a b) (bytes_eq b a) (bytes_eq-Decides a b) turned

same_number : (m n : ℕ) → (m == n) ≡ (n == m)
same_number m n =
    let turned = Decides-like (n == m) sym sym (Decides-eqb n m) in
    same_from_decides {P = m ≡ n} (m == n) (n == m) (Decides-eqb m n) turned

other_way : (a b : Bool) → a && b ≡ b && a
other_way true true = refl
other_way true false = refl
other_way false true = refl
other_way false false = refl

same : (j k : Key) → key_eq k j ≡ model.same_key (key_view j) (key_view k)
same j k =
    other_way (bytes_eq k.name.now j.name.now) (k.arity == j.arity)
    ∙ ap₂ (λ a b. a && b) (same_number k.arity j.arity) (same_text k.name.now j.name.now)

among : (keys : List Key) (k : Key)
    → list_any (key_eq k) keys ≡ list_any (λ j. model.same_key j (key_view k)) (keys_view keys)
among [] k = refl
among (j ∷ keys) k = ap₂ (λ a b. a || b) (same j k) (among keys k)

one_more : (b : Bool) (keys : List Key) (k : Key)
    → keys_view (if b then keys else keys ++ k ∷ []) ≡ (if b then keys_view keys else keys_view keys ++ key_view k ∷ [])
one_more true keys k = refl
one_more false keys k = map-append key_view keys (k ∷ [])

-- what is put into a set is noted
pub noted_more : (keys : List Key) (k : Key)
    → keys_view (insert_key key_eq keys k) ≡ noted (keys_view keys) (key_view k)
noted_more keys k =
    one_more (list_any (key_eq k) keys) keys k
    ∙ ap (λ b. if b then keys_view keys else keys_view keys ++ key_view k ∷ []) (among keys k)

-- those that aren't known, one further
pub unknown_later : (known : List model.Key) (keys : List Key) (i : ℕ) (d : Key) (old new : List model.Key)
    → i < length keys → new ≡ noted_unknown known old (key_view (get_or keys i d))
    → old ≡ unknown_of known (keys_view (take i keys)) → new ≡ unknown_of known (keys_view (take (i + 1) keys))
unknown_later known keys i d old new within is had =
    let note = noted_unknown known in
    let more = key_view (get_or keys i d) in
    let behind = fold-append note [] (keys_view (take i keys)) (more ∷ []) in
    is ∙ ap (λ found. note found more) had ∙ sym (ap (fold note []) (map_more key_view keys i d within) ∙ behind)
