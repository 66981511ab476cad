-- What is left to do of a copy, as steps.
use Rattle.std.proofs.Common.{◌≡◌, ℕ, ◌+◌, ◌-◌, ◌*◌, ◌<◌, List, [], ◌∷◌, ◌++◌, length, map, take, drop, get_or, refl, ap, ap₂, sym, ◌∙◌, arith, append_assoc, ◌≤◌, Result, Ok, Err, OnOk, String, Vec, Global}
use Rattle.std.specs.Borrow.{Bor}
use Rattle.std.specs.String.{string_bytes}
use Rattle.std.proofs.lemmas.List.{map-append, length-map, take_rest, take-map, drop-map}
use Rattle.iso_model.specs.declared.terms.Term.{Term}
use Rattle.iso_model.specs.declared.terms.Term.TheVariants.{Compound}
use Rattle.iso_model.specs.declared.terms.Task.{Task}
use Rattle.iso_model.specs.declared.terms.Task.TheVariants.{Copy, Build}
use Rattle.iso_model.specs.Terms.Trees.{Tree, Apply, More, row}
use Rattle.iso_model.specs.Terms.TermOf.{term_of}
use Rattle.iso_model.specs.Terms.Sizes.{size}
use Rattle.iso_model.specs.Terms.Substitutions.{Subst, apply}
use Rattle.iso_model.specs.Terms.Building.{Give, Gather, with_step, with_steps, steps_load}
use Rattle.iso_model.specs.Terms.Copying.{step_of}
use Rattle.iso_model.proofs.OnTerms.RowLemmas.{term_of_compound}
use Rattle.iso_model.proofs.OnTerms.BuildingLemmas.{with_steps-more, steps_load-more, with_steps-opened, steps_load-opened}

pub apply-row : (s : Subst) (xs : List Tree) → apply s (row xs) ≡ row (map (apply s) xs)
apply-row s [] = refl
apply-row s (x ∷ xs) = ap (λ z. More (apply s x) z) (apply-row s xs)

-- a compound is left to be copied by its arguments
module _ (s : Subst) (xs ys zs : List Task) (name : Bor (List ℕ)) (n : ℕ) (terms : Bor (List Term)) (t : Term) (f : String Global) (v : Vec Term Global) (is : t ≡ Compound f v)
    (text : name.now ≡ string_bytes f) (many : n ≡ length v.items) (items : terms.now ≡ v.items) (first : ys ≡ xs ++ Build name n ∷ []) (second : zs ≡ ys ++ Copy terms ∷ []) where
  arguments : List Tree
  arguments = map (apply s) (map term_of v.items)

  whole : Apply (string_bytes f) (row arguments) ≡ apply s (term_of t)
  unfolding arguments
  whole = ap (Apply (string_bytes f)) (sym (apply-row s (map term_of v.items))) ∙ sym (ap (apply s) (ap term_of is ∙ term_of_compound f v))

  counts : n ≡ length arguments
  unfolding arguments
  counts = many ∙ sym (length-map (map term_of v.items) (apply s) ∙ length-map v.items term_of)

  gives : step_of s (Copy terms) ≡ Give arguments
  unfolding arguments
  gives = ap (λ us. Give (map (apply s) (map term_of us))) items

  pub with_steps-copied : (ts : List Tree) → with_steps (map (step_of s) zs) ts ≡ with_steps (map (step_of s) xs) (ts ++ apply s (term_of t) ∷ [])
  with_steps-copied ts =
      with_steps-opened (step_of s) xs ys zs (Build name n) (Copy terms) (string_bytes f) n arguments (ap (λ a. Gather a n) text) gives counts first second ts
      ∙ ap (λ u. with_steps (map (step_of s) xs) (ts ++ u ∷ [])) whole

  pub steps_load-copied : steps_load (map (step_of s) zs) < 2 * size (apply s (term_of t)) + steps_load (map (step_of s) xs)
  steps_load-copied =
      rw (sym whole) (steps_load-opened (step_of s) xs ys zs (Build name n) (Copy terms) (string_bytes f) n arguments (ap (λ a. Gather a n) text) gives counts first second)

-- terms by the first one and the others
pub row_split : {X : Type 0} (xs : List X) (first : X) (others : List X) → 1 ≤ length xs → first ≡ get_or xs 0 first → others ≡ take (length xs - 1) (drop 1 xs) → xs ≡ first ∷ others
row_split [] first others low is rest = absurd (omega arith)
row_split (x ∷ z) first others low is rest = rw (rest, is, take_rest (x ∷ z) 1) refl

-- the others are left to be copied, and the first one was
module _ (s : Subst) (xs ys : List Task) (terms : List Term) (others : Bor (List Term)) (first : Term) (split : terms ≡ first ∷ others.now) (more : ys ≡ xs ++ Copy others ∷ []) where
  pub with_steps-first : (ts us : List Tree) → us ≡ with_steps (map (step_of s) ys) (ts ++ apply s (term_of first) ∷ [])
      → us ≡ with_steps (map (step_of s) xs) (ts ++ map (apply s) (map term_of terms))
  with_steps-first ts us done =
      done ∙ with_steps-more (step_of s) xs ys (Copy others) more (ts ++ apply s (term_of first) ∷ [])
      ∙ ap (with_steps (map (step_of s) xs))
      (append_assoc ts (apply s (term_of first) ∷ []) (map (apply s) (map term_of others.now)) ∙ ap (λ us. ts ++ map (apply s) (map term_of us)) (sym split))

  pub steps_load-first : (n : ℕ) → n < 2 * size (apply s (term_of first)) + steps_load (map (step_of s) ys)
      → n < 1 + 2 * size (row (map (apply s) (map term_of terms))) + steps_load (map (step_of s) xs)
  steps_load-first n less =
      let all = ap (λ us. size (row (map (apply s) (map term_of us)))) split in
      let left = steps_load-more (step_of s) xs ys (Copy others) more in
      omega arith

pub on_ok_by : {T E P Q : Type 0} (r : Result T E) → OnOk r P → (P → Q) → OnOk r Q
on_ok_by (Ok x) p f = f p
on_ok_by (Err e) p f = tt

-- a compound of the last copies
pub map-built : (xs ys zs : List Term) (f : String Global) (text : List ℕ) (n : ℕ) (v : Vec Term Global) → ys ≡ take (length xs - n) xs → v.items ≡ drop (length xs - n) xs → string_bytes f ≡ text → zs ≡ ys ++ Compound f v ∷ [] → map term_of zs ≡ with_step (Gather text n) (map term_of xs)
map-built xs ys zs f text n v kept taken same more =
    let long : length (map term_of xs) - n ≡ length xs - n = ap (λ k. k - n) (length-map xs term_of) in
    let front : map term_of ys ≡ take (length (map term_of xs) - n) (map term_of xs) = ap (map term_of) kept ∙ sym (take-map term_of (length xs - n) xs) ∙ ap (λ k. take k (map term_of xs)) (sym long) in
    let end : map term_of v.items ≡ drop (length (map term_of xs) - n) (map term_of xs) = ap (map term_of) taken ∙ sym (drop-map term_of (length xs - n) xs) ∙ ap (λ k. drop k (map term_of xs)) (sym long) in
    ap (map term_of) more ∙ map-append term_of ys (Compound f v ∷ []) ∙ ap₂ (λ ts u. ts ++ u ∷ []) front (term_of_compound f v ∙ ap₂ (λ a us. Apply a (row us)) same end)
