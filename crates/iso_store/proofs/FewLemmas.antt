-- A variable in the arguments of compounds that are looked through without notes.
use Rattle.std.proofs.Common.{◌≡◌, ℕ, List, [], ◌∷◌, ◌++◌, Bool, true, false, ◌||◌, ap, sym, ◌∙◌}
use Rattle.iso_model.specs.Terms.Trees.{Tree, Apply, row, count}
use Rattle.iso_model.specs.Terms.Sorts.{is_term}
use Rattle.iso_model.specs.Terms.Variables.{occurs}
use Rattle.iso_store.specs.declared.occurs.Task.{Task}
use Rattle.iso_store.specs.declared.occurs.Task.TheVariants.{Search, Leave}
use Rattle.iso_store_core.specs.Presents.{Present, Holds, meaning}
use Rattle.iso_store_core.specs.Arguments.{arguments, arity, arguments_from}
use Rattle.iso_store.specs.Searching.{IsThere, found}
use Rattle.iso_store.proofs.ArgumentLemmas.{row_of_term, arguments-whole, listed-end}
use Rattle.iso_store.proofs.SearchLemmas.{or_false, found-append, found-true}

module _ {W : Type 0} (p : Present W) where
  -- what the task speaks of is there, and was made as a compound
  abbrev pub IsMade : Task W → Type 0
  IsMade (Search word index count) = IsThere p (Search word index count) × (arity (p.term word) ≡ count)
  IsMade (Leave place) = Unit {0}

  -- a compound with all its arguments
  module _ (word : W) (n : ℕ) (f : List ℕ) (ts : Tree) (is : meaning p word ≡ Apply f ts) (many : count ts ≡ n) (sort : is_term (meaning p word) ≡ true) where
    pub whole-there : Holds p word → IsThere p (Search word 0 n)
    whole-there holds =
        let some = (row_of_term f ts (rw is at sort)).0 in
        (holds, rw many at some, rw is many)

    pub whole-found : (at : ℕ → Tree) (x : ℕ) (b : Bool) (xs : List (Task W)) → found p at x (occurs x (meaning p word)) xs ≡ b → found p at x false (xs ++ Search word 0 n ∷ []) ≡ b
    whole-found at x b xs so =
        found-append p at x false xs (Search word 0 n ∷ []) ∙ ap (λ t. found p at x (occurs x t) xs) (arguments-whole f n (meaning p word) ts is many sort) ∙ so

  -- the arguments from a place on are looked through, where this says whether x is in anything that is left
  module _ (at : ℕ → Tree) (x : ℕ) (xs : List (Task W)) (word : W) (i n : ℕ) (all : Bool) (so : found p at x false (xs ++ Search word i n ∷ []) ≡ all) where
    here : found p at x (occurs x (row (arguments_from i (meaning p word)))) xs ≡ all
    here = sym (found-append p at x false xs (Search word i n ∷ [])) ∙ so

    -- it is there
    pub found-there : occurs x (row (arguments_from i (meaning p word))) ≡ true → true ≡ all
    found-there sees = sym (found-true p at x xs) ∙ ap (λ b. found p at x b xs) (sym sees) ∙ here

    -- it is in none
    pub found-none : occurs x (row (arguments_from i (meaning p word))) ≡ false → found p at x false xs ≡ all
    found-none sees = ap (λ b. found p at x b xs) (sym sees) ∙ here

    -- it is in none before the compound t, behind which the place k is
    module _ (t : Tree) (k : ℕ) (sees : occurs x (row (arguments_from i (meaning p word))) ≡ occurs x (row (t ∷ arguments_from k (meaning p word)))) where
      pub found-into : (ys : List (Task W)) → ys ≡ xs ++ Search word k n ∷ [] → found p at x (occurs x t) ys ≡ all
      found-into ys more =
          ap (found p at x (occurs x t)) more
          ∙ found-append p at x (occurs x t) xs (Search word k n ∷ [])
          ∙ ap (λ b. found p at x b xs) (sym sees)
          ∙ here

      pub found-last : k ≡ n → arity (meaning p word) ≡ n → found p at x (occurs x t) xs ≡ all
      found-last last many =
          let none : occurs x t || occurs x (row (arguments_from k (meaning p word))) ≡ occurs x t =
          ap (λ us. occurs x t || occurs x (row us)) (listed-end k (arguments (meaning p word)) (many ∙ sym last)) ∙ or_false (occurs x t) in
          ap (λ b. found p at x b xs) (sym none ∙ sym sees) ∙ here
