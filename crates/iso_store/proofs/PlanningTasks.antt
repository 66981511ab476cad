-- What is left to do of planning a copy.
use Rattle.std.proofs.Common.{◌≡◌, ℕ, ◌+◌, ◌-◌, ◌<◌, List, [], ◌∷◌, ◌++◌, length, drop, true, refl, ap, sym, ◌∙◌, subst, arith, append_assoc, length-append}
use Rattle.std.proofs.Math.Seq.{drop-append_seam}
use Rattle.iso_atoms.specs.Texts.{text_at}
use Rattle.iso_model.specs.Terms.Trees.{Tree, Apply, row, count}
use Rattle.iso_model.specs.Terms.Sorts.{is_term}
use Rattle.iso_model.specs.Terms.Building.{with_step, with_steps}
use Rattle.iso_model.proofs.OnTerms.BuildingLemmas.{with_gathered}
use Rattle.iso_store.specs.declared.plans.Task.{Task}
use Rattle.iso_store.specs.declared.plans.Task.TheVariants.{Plan, Make}
use Rattle.iso_store_core.specs.Presents.{Present, meaning}
use Rattle.iso_store_core.specs.Arguments.{arity, argument, arguments_from}
use Rattle.iso_store.specs.Planning.{IsGathered, AreDue, step_of, steps_of}
use Rattle.iso_store.proofs.ArgumentLemmas.{arguments-whole, arguments-count}
use Rattle.iso_store.proofs.TaskLemmas.{arguments-on}

module _ {W : Type 0} (p : Present W) (names : List (List ℕ)) where
  pub steps-append : (xs ys : List (Task W)) (now : List Tree) → with_steps (steps_of p names (xs ++ ys)) now ≡ with_steps (steps_of p names xs) (with_steps (steps_of p names ys) now)
  steps-append [] ys now = refl
  steps-append (x ∷ xs) ys now = ap (with_step (step_of p names x)) (steps-append xs ys now)

  -- ---- the compounds that are due
  module _ (at : ℕ → Tree) where
    due-append : (now : List Tree) (xs ys : List (Task W)) → AreDue p names at (with_steps (steps_of p names ys) now) xs → AreDue p names at now ys → AreDue p names at now (xs ++ ys)
    due-append now [] ys front end = end
    due-append now (Plan w i n ∷ xs) ys front end = due-append now xs ys front end
    due-append now (Make f n k ∷ xs) ys front end = (subst (λ s. IsGathered (text_at names f) n s (at k)) (sym (steps-append xs ys now)) front.0, due-append now xs ys front.1 end)

    pub due-parts : (now : List Tree) (xs ys : List (Task W)) → AreDue p names at now (xs ++ ys) → AreDue p names at (with_steps (steps_of p names ys) now) xs × AreDue p names at now ys
    due-parts now [] ys due = (tt, due)
    due-parts now (Plan w i n ∷ xs) ys due = due-parts now xs ys due
    due-parts now (Make f n k ∷ xs) ys due =
        let parts = due-parts now xs ys due.1 in
        ((subst (λ s. IsGathered (text_at names f) n s (at k)) (steps-append xs ys now) due.0, parts.0), parts.1)

    module _ (xs ys zs : List (Task W)) (word : W) (name n k : ℕ) (ts : Tree) (is : meaning p word ≡ Apply (text_at names name) ts) (many : count ts ≡ n) (sort : is_term (meaning p word) ≡ true) (here : at k ≡ meaning p word)
        (first : ys ≡ xs ++ Make name n k ∷ []) (second : zs ≡ ys ++ Plan word 0 n ∷ []) where
      pub due-compound : (now : List Tree) → AreDue p names at (now ++ meaning p word ∷ []) xs → AreDue p names at now zs
      due-compound now due =
          let both = second ∙ ap (λ us. us ++ Plan word 0 n ∷ []) first ∙ append_assoc xs (Make name n k ∷ []) (Plan word 0 n ∷ []) in
          let args = arguments_from 0 (meaning p word) in
          let size = arguments-count (text_at names name) n (meaning p word) ts is many in
          let all = arguments-whole (text_at names name) n (meaning p word) ts is many sort in
          let seam : length (now ++ args) - n ≡ length now = omega (arith, length-append now args) in
          let last : drop (length (now ++ args) - n) (now ++ args) ≡ args = ap (λ j. drop j (now ++ args)) seam ∙ drop-append_seam now args in
          let term = here ∙ sym all ∙ ap (λ us. Apply (text_at names name) (row us)) (sym last) in
          let after : now ++ meaning p word ∷ [] ≡ with_steps (steps_of p names (Make name n k ∷ Plan word 0 n ∷ [])) now = ap (λ t. now ++ t ∷ []) (sym all) ∙ sym (with_gathered (text_at names name) n now args size) in
          rw both (due-append now xs (Make name n k ∷ Plan word 0 n ∷ []) (subst (λ s. AreDue p names at s xs) after due) ((term, ap is_term here ∙ sort), tt))

    module _ (xs : List (Task W)) (word : W) (i n : ℕ) (below : i < n) (many : arity (meaning p word) ≡ n) (t : Tree) (is : t ≡ argument i (meaning p word)) where
      pub due-argument : (ts : List Tree) (ys : List (Task W)) → ys ≡ xs ++ Plan word (i + 1) n ∷ [] → AreDue p names at (ts ++ arguments_from i (meaning p word)) xs → AreDue p names at (ts ++ t ∷ []) ys
      due-argument ts ys more due = rw more (due-append (ts ++ t ∷ []) xs (Plan word (i + 1) n ∷ []) (subst (λ s. AreDue p names at s xs) (sym (arguments-on i n (meaning p word) t below many is ts)) due) tt)
