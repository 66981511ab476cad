-- Places, a stretch of bytes further.
use Rattle.std.proofs.Common.{◌≡◌, ◌≤◌, ◌+◌, ◌-◌, ℕ, List, [], ◌∷◌, ◌++◌, take, drop, length, refl, ap, sym, ◌∙◌, arith, min}
use Rattle.std.proofs.lemmas.Grind.{common_steps}
use Rattle.std.proofs.lemmas.List.{take-append-drop, drop-take, take_min}
use Rattle.iso_lint.specs.declared.places.Place.{Place}
use Rattle.iso_lint.specs.Places.{behind, behind_all, place, place_at}

fold-append : (p : Place) (xs ys : List ℕ) → behind_all p (xs ++ ys) ≡ behind_all (behind_all p xs) ys
fold-append p [] ys = refl
fold-append p (x ∷ xs) ys = fold-append (behind p x) xs ys

take-further : (text : List ℕ) (from end : ℕ) → from ≤ end → take from text ++ take (end - from) (drop from text) ≡ take end text
take-further text from end le =
    let more : end ≡ from + (end - from) = omega arith in
    let rest : drop from (take end text) ≡ take (end - from) (drop from text) = ap (λ n. drop from (take n text)) more ∙ drop-take from (end - from) text in
    grind (arith, common_steps, take-append-drop from (take end text), rest)

pub goes_on_from : (text : List ℕ) (from end : ℕ) → from ≤ end → behind_all (place_at text from) (take (end - from) (drop from text)) ≡ place_at text end
goes_on_from text from end le = sym (fold-append (place 1 1) (take from text) (take (end - from) (drop from text))) ∙ ap (behind_all (place 1 1)) (take-further text from end le)

-- what stands behind the end stands at it
pub place_at_end : (text : List ℕ) (start : ℕ) → place_at text (min start (length text)) ≡ place_at text start
place_at_end text start = ap (behind_all (place 1 1)) (take_min start text)
