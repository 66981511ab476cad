-- What is left to do of a term, as steps: its arguments from a place on are given, and a compound gathers all.
use Rattle.std.proofs.Common.{◌≡◌, ℕ, ◌+◌, ◌*◌, ◌<◌, List, [], ◌∷◌, ◌++◌, map, true, ap, sym, ◌∙◌, arith, append_assoc}
use Rattle.iso_model.specs.Terms.Trees.{Tree, Apply, row, count}
use Rattle.iso_model.specs.Terms.Sorts.{is_term}
use Rattle.iso_model.specs.Terms.Sizes.{size}
use Rattle.iso_model.specs.Terms.Building.{Step, Give, Gather, with_step, with_steps, step_load, steps_load}
use Rattle.iso_model.proofs.OnTerms.BuildingLemmas.{with_steps-more, steps_load-more, with_steps-opened, steps_load-opened}
use Rattle.iso_store_core.specs.Arguments.{arity, argument, arguments_from}
use Rattle.iso_store.proofs.ArgumentLemmas.{arguments-more, arguments-last, arguments-whole, arguments-count}

-- an argument comes, and the others behind it are left
module _ (i n : ℕ) (m t : Tree) (below : i < n) (many : arity m ≡ n) (is : t ≡ argument i m) where
  pub arguments-on : (ts : List Tree) → (ts ++ t ∷ []) ++ arguments_from (i + 1) m ≡ ts ++ arguments_from i m
  arguments-on ts = append_assoc ts (t ∷ []) (arguments_from (i + 1) m) ∙ ap (λ vs. ts ++ vs) (sym (arguments-more i n m t below many is))

  -- the rest of a load is what else is to be done
  pub load-last : (k rest : ℕ) → k < 2 * size t + rest → k < 1 + 2 * size (row (arguments_from i m)) + rest
  load-last k rest less =
      let whole = ap (λ us. size (row us)) (arguments-more i n m t below many is) in
      omega arith

  pub load-more : (k rest next : ℕ) → next ≡ 1 + 2 * size (row (arguments_from (i + 1) m)) + rest → k < 2 * size t + next → k < 1 + 2 * size (row (arguments_from i m)) + rest
  load-more k rest next all less =
      let whole = ap (λ us. size (row us)) (arguments-more i n m t below many is) in
      omega arith

  module _ {T : Type 0} (step : T → Step) (xs : List T) where
    pub steps-last : (ts us : List Tree) → i + 1 ≡ n → us ≡ with_steps (map step xs) (ts ++ t ∷ []) → us ≡ with_steps (map step xs) (ts ++ arguments_from i m)
    steps-last ts us last done = done ∙ ap (λ vs. with_steps (map step xs) (ts ++ vs)) (sym (arguments-last i n m t below many is last))

    module _ (ys : List T) (x : T) (more : ys ≡ xs ++ x ∷ []) (gives : step x ≡ Give (arguments_from (i + 1) m)) where
      pub steps-argument : (ts us : List Tree) → us ≡ with_steps (map step ys) (ts ++ t ∷ []) → us ≡ with_steps (map step xs) (ts ++ arguments_from i m)
      steps-argument ts us done = done ∙ with_steps-more step xs ys x more (ts ++ t ∷ []) ∙ ap (λ j. with_steps (map step xs) (with_step j (ts ++ t ∷ []))) gives ∙ ap (with_steps (map step xs)) (arguments-on ts)

      pub load-argument : (k : ℕ) → k < 2 * size t + steps_load (map step ys) → k < 1 + 2 * size (row (arguments_from i m)) + steps_load (map step xs)
      load-argument k less = load-more k (steps_load (map step xs)) (steps_load (map step ys)) (steps_load-more step xs ys x more ∙ ap (λ j. step_load j + steps_load (map step xs)) gives) less

-- a compound is left to be put together by its arguments
module _ {T : Type 0} (step : T → Step) (xs ys zs : List T) (x y : T) (m : Tree) (f : List ℕ) (n : ℕ) (ts : Tree) (is : m ≡ Apply f ts) (many : count ts ≡ n) (sort : is_term m ≡ true)
    (gathers : step x ≡ Gather f n) (gives : step y ≡ Give (arguments_from 0 m)) (first : ys ≡ xs ++ x ∷ []) (second : zs ≡ ys ++ y ∷ []) where
  pub steps-compound : (us : List Tree) → with_steps (map step zs) us ≡ with_steps (map step xs) (us ++ m ∷ [])
  steps-compound us =
      with_steps-opened step xs ys zs x y f n (arguments_from 0 m) gathers gives (arguments-count f n m ts is many) first second us
      ∙ ap (λ t. with_steps (map step xs) (us ++ t ∷ [])) (arguments-whole f n m ts is many sort)

  pub load-compound : steps_load (map step zs) < 2 * size m + steps_load (map step xs)
  load-compound =
      let less = steps_load-opened step xs ys zs x y f n (arguments_from 0 m) gathers gives (arguments-count f n m ts is many) first second in
      let same = ap size (arguments-whole f n m ts is many sort) in
      omega arith
