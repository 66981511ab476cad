-- Words that are made one after another, and the terms that they were made with.
use Rattle.std.proofs.Common.{◌≡◌, ℕ, zero, suc, ◌+◌, ◌<◌, ◌≤◌, List, [], ◌∷◌, ◌++◌, length, map, get_or, true, false, refl, ap, ap₂, sym, ◌∙◌, subst, arith, IfOk, OnOk, Result, Ok, Err}
use Rattle.std.proofs.lemmas.List.{length-map, map-append}
use Rattle.iso_model.specs.Terms.Trees.{Tree, Variable, End}
use Rattle.iso_model.specs.Terms.Variables.{occurs, variables, variable_count}
use Rattle.iso_model.specs.Terms.Copies.{place_of, copy_from, numbers_from}
use Rattle.iso_model.specs.Terms.Unification.Applied.{apply_same}
use Rattle.iso_model.specs.Terms.Unification.Listed.{distinct_covers}
use Rattle.iso_model.specs.Terms.Substitutions.{apply}
use Rattle.iso_store.specs.Placed.{placed_terms}
use Rattle.iso_store.proofs.Placing.{place-within}
use Rattle.iso_store_core.specs.Presents.{Present, Gathers, KeepsWords, KeepsNumbers, TakesNumber, TakesFrom, MovesOn, Makes, Grows}

pub keeps-none : {W : Type 0} (p : Present W) → KeepsWords p p
keeps-none p = record { stand = λ w h. h; terms = λ w h. refl }

pub keeps-then : {W : Type 0} {p q r : Present W} → KeepsWords p q → KeepsWords q r → KeepsWords p r
keeps-then first second = record {
  stand = λ w h. second.stand w (first.stand w h);
  terms = λ w h. second.terms w (first.stand w h) ∙ first.terms w h;
}

-- words that stood have their terms still
pub terms-kept : {W : Type 0} {p q : Present W} → KeepsWords p q → (ws : List W) → ((k : ℕ) (d : W) → k < length ws → p.holds (get_or ws k d) ≡ true) → map q.term ws ≡ map p.term ws
terms-kept keeps [] hold = refl
terms-kept keeps (w ∷ ws) hold = ap₂ ◌∷◌ (keeps.terms w (hold 0 w (omega arith))) (terms-kept keeps ws (λ k d h. hold (suc k) d (omega arith)))

hold-push : {W : Type 0} (p : Present W) (ws : List W) (w : W) → ((k : ℕ) (d : W) → k < length ws → p.holds (get_or ws k d) ≡ true) → p.holds w ≡ true → (k : ℕ) (d : W) → k < length (ws ++ w ∷ []) → p.holds (get_or (ws ++ w ∷ []) k d) ≡ true
hold-push p [] w hold here zero d h = here
hold-push p [] w hold here (suc k) d h = absurd (omega arith)
hold-push p (v ∷ ws) w hold here zero d h = hold 0 d (omega arith)
hold-push p (v ∷ ws) w hold here (suc k) d h = hold-push p ws w (λ i e below. hold (suc i) e (omega arith)) here k d (omega arith)

pub gathers-more : {W : Type 0} {p q r : Present W} {ws : List W} {ts : List Tree} {w : W} {t : Tree} → Gathers p q ws ts → Makes q r w t → Gathers p r (ws ++ w ∷ []) (ts ++ t ∷ [])
gathers-more {W} {p} {q} {r} {ws} {ts} {w} {t} so made = record {
  words = keeps-then so.words made.words;
  substitution = made.substitution ∙ so.substitution;
  hold = hold-push r ws w (λ k d h. made.words.stand (get_or ws k d) (so.hold k d h)) made.holds;
  terms =
      let before = terms-kept made.words ws so.hold ∙ so.terms in
      map-append r.term ws (w ∷ []) ∙ ap₂ ◌++◌ before (ap (λ u. u ∷ []) made.term);
}

pub numbers-then : {W : Type 0} {p q r : Present W} → KeepsNumbers p q → KeepsNumbers q r → KeepsNumbers p r
numbers-then first second = record { next = second.next ∙ first.next; taken = λ n. second.taken n ∙ first.taken n }

pub grows-none : {W : Type 0} (p : Present W) → Grows p p 0 0
grows-none p = record { cells = omega arith; variables = omega arith; keeps = omega arith; keeps_variables = omega arith; limit = refl; within = λ h. h }

pub grows-both : {W : Type 0} {p q r : Present W} {m n v w : ℕ} (k x : ℕ) → Grows p q m v → Grows q r n w → m + n ≤ k → v + w ≤ x → Grows p r k x
grows-both k x first second within fewer = record {
  cells = let a = first.cells in let b = second.cells in omega arith;
  variables = let a = first.variables in let b = second.variables in omega arith;
  keeps = let a = first.keeps in let b = second.keeps in omega arith;
  keeps_variables = let a = first.keeps_variables in let b = second.keeps_variables in omega arith;
  limit = second.limit ∙ first.limit;
  within = λ h. second.within (first.within h);
}

-- no variable comes in the second step
pub grows-on : {W : Type 0} {p q r : Present W} {m n v : ℕ} (k : ℕ) → Grows p q m v → Grows q r n 0 → m + n ≤ k → Grows p r k v
grows-on {W} {p} {q} {r} {m} {n} {v} k first second within = grows-both k v first second within (omega arith)

pub gathers-length : {W : Type 0} {p q : Present W} {ws : List W} {ts : List Tree} → Gathers p q ws ts → length ws ≡ length ts
gathers-length {W} {p} {q} {ws} {ts} so = sym (length-map ws q.term) ∙ ap length so.terms

pub numbers_from-more : (n k : ℕ) → numbers_from n (suc k) ≡ numbers_from n k ++ (n + k) ∷ []
numbers_from-more n zero = ap (λ m. m ∷ []) (omega arith)
numbers_from-more n (suc k) =
    let here : n + 1 + k ≡ n + suc k = omega arith in
    ap (λ ms. n ∷ ms) (numbers_from-more (n + 1) k ∙ ap (λ m. numbers_from (n + 1) k ++ m ∷ []) here)

-- one more variable, of the next number
pub gathers-variable : {W : Type 0} {p q r : Present W} {ws : List W} {w : W} (first k : ℕ) → Gathers p q ws (map Variable (numbers_from first k)) → Makes q r w (Variable (first + k)) → Gathers p r (ws ++ w ∷ []) (map Variable (numbers_from first (suc k)))
gathers-variable {W} {p} {q} {r} {ws} {w} first k so made =
    let terms : map Variable (numbers_from first k) ++ Variable (first + k) ∷ [] ≡ map Variable (numbers_from first (suc k)) =
    sym (ap (map Variable) (numbers_from-more first k) ∙ map-append Variable (numbers_from first k) ((first + k) ∷ [])) in
    subst (Gathers p r (ws ++ w ∷ [])) terms (gathers-more so made)

pub takes-more : {W : Type 0} {p q r : Present W} (first k : ℕ) → TakesFrom p q first → TakesNumber q r (first + k) → TakesFrom p r first
takes-more first k so taken = record {
  next = taken.next ∙ so.next;
  others = λ n below. taken.others n (λ e. omega arith) ∙ so.others n below;
}

-- the numbers above stay free
pub free-more : {W : Type 0} {q r : Present W} (first k : ℕ) → TakesNumber q r (first + k) → ((n : ℕ) → first + k ≤ n → q.taken n ≡ false) → (n : ℕ) → first + suc k ≤ n → r.taken n ≡ false
free-more first k taken free n above = taken.others n (λ e. omega arith) ∙ free n (omega arith)

numbers-at : (n k i : ℕ) → i < k → get_or (map Variable (numbers_from n k)) i End ≡ Variable (n + i)
numbers-at n zero i below = absurd (omega arith)
numbers-at n (suc k) zero below = ap Variable (omega arith)
numbers-at n (suc k) (suc i) below =
    let here : n + 1 + i ≡ n + suc i = omega arith in
    numbers-at (n + 1) k i (omega arith) ∙ ap Variable here

-- with variables numbered from n on at the places, a term is its copy from n
pub copied-from : (t : Tree) (n k : ℕ) → k ≡ variable_count t → apply (placed_terms (map Variable (numbers_from n k)) (variables t)) t ≡ copy_from t n
copied-from t n k same = apply_same (placed_terms (map Variable (numbers_from n k)) (variables t)) (λ x. Variable (n + place_of x (variables t))) t at
  where
    at : (x : ℕ) → occurs x t ≡ true → placed_terms (map Variable (numbers_from n k)) (variables t) x ≡ Variable (n + place_of x (variables t))
    at x o =
        let inside = distinct_covers [] t x o in
        let below = place-within (variables t) x inside in
        numbers-at n k (place_of x (variables t)) (omega arith)

-- what building comes to: numbers reserved, variables made, and then the term
pub built-made : {W E : Type 0} {p q r : Present W} (u : Present W) {ws : List W} (first k : ℕ) (vs : List ℕ) (t : Tree) → KeepsWords p q → q.substitution ≡ p.substitution → first ≡ p.next → Gathers q r ws (map Variable (numbers_from first k)) → vs ≡ variables t → k ≡ length vs →
    (result : Result W E) → IfOk result (λ w. Makes r u w (apply (placed_terms (map r.term ws) vs) t)) → IfOk result (λ w. Makes p u w (copy_from t p.next))
built-made {W} {E} {p} {q} {r} u {ws} first k vs t words same number so list size (Ok w) made = record {
  words = keeps-then (keeps-then words so.words) made.words;
  substitution = made.substitution ∙ so.substitution ∙ same;
  holds = made.holds;
  term =
      made.term ∙ ap (λ ts. apply (placed_terms ts vs) t) so.terms ∙ ap (λ xs. apply (placed_terms (map Variable (numbers_from first k)) xs) t) list
      ∙ copied-from t first k (size ∙ ap length list) ∙ ap (copy_from t) number;
}
built-made u first k vs t words same number so list size (Err e) made = made

pub length-numbers_from : (n k : ℕ) → length (numbers_from n k) ≡ k
length-numbers_from n zero = refl
length-numbers_from n (suc k) = let inner = length-numbers_from (n + 1) k in omega arith

pub variables-count : {W : Type 0} {p q : Present W} {ws : List W} (first k : ℕ) → Gathers p q ws (map Variable (numbers_from first k)) → length ws ≡ k
variables-count first k so = gathers-length so ∙ length-map (numbers_from first k) Variable ∙ length-numbers_from first k

-- a number reserved, and its variable made
pub moved-on : {W E : Type 0} {p q : Present W} (r : Present W) (number : ℕ) (result : Result W E) → number ≡ p.next → MovesOn p q 1 → OnOk result (TakesNumber q r number) → OnOk result (MovesOn p r 1)
moved-on r number (Ok w) is moved taken = record {
  next = taken.next ∙ moved.next;
  taken = λ n below. taken.others n (λ e. omega arith) ∙ moved.taken n below;
}
moved-on r number (Err e) is moved taken = taken

pub grows-within : {W : Type 0} {p q : Present W} {m v : ℕ} (k : ℕ) → Grows p q m v → m ≤ k → Grows p q k v
grows-within k grows more = record {
  cells = let a = grows.cells in omega arith;
  variables = grows.variables;
  keeps = grows.keeps;
  keeps_variables = grows.keeps_variables;
  limit = grows.limit;
  within = grows.within;
}

-- a word that is made after a change that keeps words and bindings
pub made-after : {W E : Type 0} {p q : Present W} (r : Present W) (t u : Tree) (result : Result W E) → KeepsWords p q → q.substitution ≡ p.substitution → t ≡ u → IfOk result (λ w. Makes q r w t) → IfOk result (λ w. Makes p r w u)
made-after r t u (Ok w) words same is makes = record { words = keeps-then words makes.words; substitution = makes.substitution ∙ same; holds = makes.holds; term = makes.term ∙ is }
made-after r t u (Err e) words same is makes = makes
