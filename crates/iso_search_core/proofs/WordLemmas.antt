-- Words that come to a store: new variables, and terms made with words for their variables.
use Rattle.std.proofs.Common.{◌≡◌, ℕ, zero, suc, ◌+◌, ◌<◌, List, [], ◌∷◌, length, map, refl, ap, ap₂, ◌∙◌, arith, ◌++◌, true, ◌≤◌, take}
use Rattle.std.specs.List.{All}
use Rattle.std.proofs.lemmas.List.Elements.{All-nil, All-cons}
use Rattle.iso_model.specs.Terms.Trees.{Tree, Variable}
use Rattle.iso_model.specs.Terms.Substitutions.{apply}
use Rattle.iso_model.specs.Terms.Copies.{renamed, numbers_from}
use Rattle.iso_model.specs.Terms.Unification.Applied.{apply_same}
use Rattle.iso_store_core.specs.Presents.{Present, Holds, KeepsWords, Makes, MovesOn}
use Rattle.iso_store_core.specs.Patterns.{HasPlaces, at_places}
use Rattle.iso_search_core.specs.Words.{AreVariables, no_word, one_word, word_terms, Extends}
use Rattle.iso_program.proofs.WordLemmas.{words_same, words_on}

-- ---- a store that grows

pub extends_none : {W : Type 0} (p : Present W) → Extends p p 0
extends_none p = record { words = words_same p; substitution = refl; next = omega arith }

-- a word that comes with a new number
pub extends_new : {W : Type 0} {p q r : Present W} {w : W} {t : Tree} {n : ℕ} → Extends p q n → Makes q r w t → MovesOn q r 1 → Extends p r (n + 1)
extends_new {p = p} {q = q} {r = r} {n = n} e m k = record {
  words = words_on e.words m.words;
  substitution = m.substitution ∙ e.substitution;
  next = (let a = k.next in let b = e.next in omega arith);
}

pub extends_on : {W : Type 0} {p q r : Present W} {m n : ℕ} → Extends p q m → Extends q r n → Extends p r (m + n)
extends_on {p = p} {q = q} {r = r} {m = m} {n = n} a b = record {
  words = words_on a.words b.words;
  substitution = b.substitution ∙ a.substitution;
  next = (let x = a.next in let y = b.next in omega arith);
}

-- a variable more, of the next number
pub variables_push : {W : Type 0} {q : Present W} (ws : List W) (w : W) (n k : ℕ) → AreVariables q ws (numbers_from n k) → q.holds w ≡ true → q.term w ≡ Variable (n + k)
    → AreVariables q (ws ++ w ∷ []) (numbers_from n (k + 1))
variables_push {q = q} [] w n zero no_word holds is =
    let here : q.term w ≡ Variable n = is ∙ ap Variable (omega arith) in
    one_word holds here no_word
variables_push (v ∷ ws) w n zero h holds is = elim h [ ]
variables_push [] w n (suc k) h holds is = elim h [ ]
variables_push {q = q} (v ∷ ws) w n (suc k) (one_word there same others) holds is =
    let next : n + suc k ≡ n + 1 + k = omega arith in
    let count : suc k + 1 ≡ suc (k + 1) = omega arith in
    rw count (one_word there same (variables_push ws w (n + 1) k others holds (is ∙ ap Variable next)))

pub take_all : {X : Type 0} (xs : List X) (i : ℕ) → length xs ≤ i → take i xs ≡ xs
take_all [] zero h = refl
take_all [] (suc i) h = refl
take_all (x ∷ xs) zero h = absurd (omega arith)
take_all (x ∷ xs) (suc i) h = ap (λ (ys : List _). x ∷ ys) (take_all xs i (omega arith))

-- as many words as numbers
pub variables_length : {W : Type 0} {p : Present W} {ws : List W} {ns : List ℕ} → AreVariables p ws ns → length ws ≡ length ns
variables_length no_word = refl
variables_length (one_word holds named others) = ap suc (variables_length others)

-- in a store that keeps its words
pub variables_more : {W : Type 0} {p q : Present W} {ws : List W} {ns : List ℕ} → KeepsWords p q → AreVariables p ws ns → AreVariables q ws ns
variables_more keeps no_word = no_word
variables_more keeps (one_word {w = w} holds is others) = one_word (keeps.stand w holds) (keeps.terms w holds ∙ is) (variables_more keeps others)

-- ---- words that stand on

pub words_hold : {W : Type 0} {p q : Present W} (ws : List W) → KeepsWords p q → All (λ w. Holds p w) ws → All (λ w. Holds q w) ws
words_hold ws keeps h = λ k d within. keeps.stand _ (h k d within)

pub words_kept : {W : Type 0} {p q : Present W} (ws : List W) → KeepsWords p q → All (λ w. Holds p w) ws → map q.term ws ≡ map p.term ws
words_kept [] keeps h = refl
words_kept (w ∷ ws) keeps h = ap₂ ◌∷◌ (keeps.terms w (h 0 w (omega arith))) (words_kept ws keeps (λ k d within. h (suc k) d (omega (arith, within))))

-- ---- words for new variables

-- the term of a variable's word, by its place
place_at : {W : Type 0} {p : Present W} (ws : List W) (first k : ℕ) → AreVariables p ws (numbers_from first (length ws)) → k < length ws → at_places (map p.term ws) k ≡ Variable (first + k)
place_at [] first k h within = absurd (omega arith)
place_at (w ∷ ws) first zero (one_word holds is others) within =
    let number : first ≡ first + 0 = omega arith in
    is ∙ ap Variable number
place_at (w ∷ ws) first (suc k) (one_word holds is others) within =
    let number : first + 1 + k ≡ first + suc k = omega arith in
    place_at ws (first + 1) k others (omega arith) ∙ ap Variable number

pub renamed_as : {W : Type 0} {p : Present W} (ws : List W) (first : ℕ) (t : Tree) → AreVariables p ws (numbers_from first (length ws)) → HasPlaces (length ws) t → apply (word_terms p ws) t ≡ renamed first t
renamed_as ws first t h below = apply_same _ _ t (λ x o. place_at ws first x h (below x o))

pub variables_hold : {W : Type 0} {p : Present W} (ws : List W) {ns : List ℕ} → AreVariables p ws ns → All (λ w. Holds p w) ws
variables_hold {p = p} [] no_word = All-nil (λ w. Holds p w)
variables_hold {p = p} (w ∷ ws) (one_word holds is others) = All-cons (λ w. Holds p w) w ws holds (variables_hold ws others)
