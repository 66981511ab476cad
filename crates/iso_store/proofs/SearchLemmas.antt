-- What is left to do of a search for a variable.
use Rattle.std.proofs.Common.{◌≡◌, ℕ, ◌+◌, ◌*◌, ◌<◌, List, [], ◌∷◌, ◌++◌, Bool, true, false, ◌||◌, refl, ap, sym, ◌∙◌, subst, arith, append_assoc, sum_by, Some, IsSome, inl, inr, ◌==◌, if◌then◌else◌}
use Rattle.std.proofs.lemmas.Bool.{cases_eq, ne_eqb}
use Rattle.std.proofs.lemmas.List.Sums.{sum_by-append}
use Rattle.iso_model.specs.Terms.Trees.{Tree, Apply, row, count}
use Rattle.iso_model.specs.Terms.Sorts.{is_term}
use Rattle.iso_model.specs.Terms.Sizes.{size}
use Rattle.iso_model.specs.Terms.Variables.{occurs}
use Rattle.iso_store.specs.declared.notes.Notes.{Notes}
use Rattle.iso_store.specs.declared.occurs.Task.{Task}
use Rattle.iso_store.specs.declared.occurs.Task.TheVariants.{Search, Leave}
use Rattle.iso_store_core.specs.Presents.{Present, meaning}
use Rattle.iso_store_core.specs.Arguments.{arity, argument, arguments_from}
use Rattle.iso_store.specs.Notes.{noted}
use Rattle.iso_store.specs.Searching.{IsClear, load, found, AreSound}
use Rattle.iso_store.proofs.ArgumentLemmas.{arguments-more, arguments-last, arguments-whole}

pub or_false : (b : Bool) → b || false ≡ b
or_false true = refl
or_false false = refl

module _ {W : Type 0} (p : Present W) where
  pub load-push : (xs ys : List (Task W)) (k : Task W) → ys ≡ xs ++ k ∷ [] → sum_by (load p) ys ≡ load p k + sum_by (load p) xs
  load-push xs ys k more =
      let whole = ap (sum_by (load p)) more ∙ sum_by-append (load p) xs (k ∷ []) in
      omega arith

  module _ (at : ℕ → Tree) (x : ℕ) where
    pub found-append : (now : Bool) (xs ys : List (Task W)) → found p at x now (xs ++ ys) ≡ found p at x (found p at x now ys) xs
    found-append now [] ys = refl
    found-append now (Search w i n ∷ xs) ys = ap (λ b. b || occurs x (row (arguments_from i (meaning p w)))) (found-append now xs ys)
    found-append now (Leave k ∷ xs) ys = found-append now xs ys

    -- what was found makes the whole true
    pub found-true : (xs : List (Task W)) → found p at x true xs ≡ true
    found-true [] = refl
    found-true (Search w i n ∷ xs) = ap (λ b. b || occurs x (row (arguments_from i (meaning p w)))) (found-true xs)
    found-true (Leave k ∷ xs) = found-true xs

    pub sound-append : (now : Bool) (xs ys : List (Task W)) → AreSound p at x (found p at x now ys) xs → AreSound p at x now ys → AreSound p at x now (xs ++ ys)
    sound-append now [] ys front end = end
    sound-append now (Search w i n ∷ xs) ys front end = sound-append now xs ys front end
    sound-append now (Leave k ∷ xs) ys front end = (λ none. front.0 (sym (found-append now xs ys) ∙ none), sound-append now xs ys front.1 end)

    pub sound-parts : (now : Bool) (xs ys : List (Task W)) → AreSound p at x now (xs ++ ys) → AreSound p at x (found p at x now ys) xs × AreSound p at x now ys
    sound-parts now [] ys sound = (tt, sound)
    sound-parts now (Search w i n ∷ xs) ys sound = sound-parts now xs ys sound
    sound-parts now (Leave k ∷ xs) ys sound =
        let parts = sound-parts now xs ys sound.1 in
        ((λ none. sound.0 (found-append now xs ys ∙ none), parts.0), parts.1)

    -- a compound is left to be searched by its arguments
    module _ (xs ys zs : List (Task W)) (word : W) (k n : ℕ) (f : List ℕ) (ts : Tree) (is : meaning p word ≡ Apply f ts) (many : count ts ≡ n) (sort : is_term (meaning p word) ≡ true) (here : at k ≡ meaning p word)
        (first : ys ≡ xs ++ Leave k ∷ []) (second : zs ≡ ys ++ Search word 0 n ∷ []) where
      whole : Apply f (row (arguments_from 0 (meaning p word))) ≡ meaning p word
      whole = arguments-whole f n (meaning p word) ts is many sort

      both : zs ≡ xs ++ Leave k ∷ Search word 0 n ∷ []
      both = second ∙ ap (λ us. us ++ Search word 0 n ∷ []) first ∙ append_assoc xs (Leave k ∷ []) (Search word 0 n ∷ [])

      inner : found p at x false (Search word 0 n ∷ []) ≡ occurs x (meaning p word)
      inner = ap (occurs x) whole

      pub found-compound : found p at x false zs ≡ found p at x (occurs x (meaning p word)) xs
      found-compound = ap (found p at x false) both ∙ found-append false xs (Leave k ∷ Search word 0 n ∷ []) ∙ ap (λ b. found p at x b xs) inner

      pub sound-compound : AreSound p at x (occurs x (meaning p word)) xs → AreSound p at x false zs
      sound-compound sound =
          rw both
          (sound-append false xs (Leave k ∷ Search word 0 n ∷ [])
          (subst (λ b. AreSound p at x b xs) (sym inner) sound)
          (λ none. ap (occurs x) here ∙ sym inner ∙ none, tt))

      pub load-compound : sum_by (load p) zs < 2 * size (meaning p word) + sum_by (load p) xs
      load-compound =
          let outer = load-push ys zs (Search word 0 n) second in
          let inner = load-push xs ys (Leave k) first in
          let all = ap size whole in
          omega arith

    -- an argument is searched, and the others behind it are left to be
    module _ (xs : List (Task W)) (word : W) (i n : ℕ) (below : i < n) (many : arity (meaning p word) ≡ n) (t : Tree) (is : t ≡ argument i (meaning p word)) where
      pub occurs-last : i + 1 ≡ n → occurs x (row (arguments_from i (meaning p word))) ≡ occurs x t
      occurs-last last = ap (λ us. occurs x (row us)) (arguments-last i n (meaning p word) t below many is last) ∙ or_false (occurs x t)

      pub found-argument : (ys : List (Task W)) → ys ≡ xs ++ Search word (i + 1) n ∷ [] → found p at x (occurs x t) ys ≡ found p at x (occurs x (row (arguments_from i (meaning p word)))) xs
      found-argument ys more =
          ap (found p at x (occurs x t)) more ∙ found-append (occurs x t) xs (Search word (i + 1) n ∷ [])
          ∙ ap (λ us. found p at x (occurs x (row us)) xs) (sym (arguments-more i n (meaning p word) t below many is))

      pub sound-argument : (ys : List (Task W)) → ys ≡ xs ++ Search word (i + 1) n ∷ [] → AreSound p at x (occurs x (row (arguments_from i (meaning p word)))) xs → AreSound p at x (occurs x t) ys
      sound-argument ys more sound =
          rw more
          (sound-append (occurs x t) xs (Search word (i + 1) n ∷ []) (subst (λ us. AreSound p at x (occurs x (row us)) xs) (arguments-more i n (meaning p word) t below many is) sound) tt)

    -- a place is left: x is in no term there either
    pub clear-more : (old new : Notes Unit) (k : ℕ) → IsClear at x old → occurs x (at k) ≡ false → ((j : ℕ) → noted new j ≡ (if j == k then Some tt else noted old j)) → IsClear at x new
    clear-more old new k clear here more j some =
        elim (cases_eq j k) [
          | inl same ↦ ap (λ i. occurs x (at i)) same ∙ here
          | inr other ↦ clear j (subst IsSome (more j ∙ rw (ne_eqb j k other) refl) some)
        ]
