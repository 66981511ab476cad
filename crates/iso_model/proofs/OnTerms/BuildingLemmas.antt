-- Steps that put terms together.
use Rattle.std.proofs.Common.{◌≡◌, ℕ, ◌+◌, ◌-◌, ◌*◌, ◌<◌, List, [], ◌∷◌, ◌++◌, length, map, take, drop, refl, ap, ap₂, ◌∙◌, arith, length-append}
use Rattle.std.proofs.Math.Seq.{take-append_seam, drop-append_seam}
use Rattle.std.proofs.lemmas.List.{map-append}
use Rattle.iso_model.specs.Terms.Trees.{Tree, Apply, row}
use Rattle.iso_model.specs.Terms.Sizes.{size}
use Rattle.iso_model.specs.Terms.Building.{Step, Give, Gather, with_step, with_steps, step_load, steps_load}

with_steps-push : (ks : List Step) (k : Step) (ts : List Tree) → with_steps (ks ++ k ∷ []) ts ≡ with_steps ks (with_step k ts)
with_steps-push [] k ts = refl
with_steps-push (j ∷ ks) k ts = ap (with_step j) (with_steps-push ks k ts)

steps_load-push : (ks : List Step) (k : Step) → steps_load (ks ++ k ∷ []) ≡ step_load k + steps_load ks
steps_load-push [] k = omega arith
steps_load-push (j ∷ ks) k = omega (arith, steps_load-push ks k)

-- the terms that came last, as the arguments of a compound
pub with_gathered : (f : List ℕ) (n : ℕ) (ts us : List Tree) → n ≡ length us → with_step (Gather f n) (ts ++ us) ≡ ts ++ Apply f (row us) ∷ []
with_gathered f n ts us same =
    let seam : length (ts ++ us) - n ≡ length ts = omega (arith, length-append ts us) in
    ap₂ (λ xs ys. xs ++ Apply f (row ys) ∷ []) (ap (λ k. take k (ts ++ us)) seam ∙ take-append_seam ts us) (ap (λ k. drop k (ts ++ us)) seam ∙ drop-append_seam ts us)

-- where each of the tasks is such a step
module _ {X : Type 0} (f : X → Step) where
  -- one task more
  module _ (xs ys : List X) (x : X) (more : ys ≡ xs ++ x ∷ []) where
    steps-more : map f ys ≡ map f xs ++ f x ∷ []
    steps-more = ap (map f) more ∙ map-append f xs (x ∷ [])

    pub with_steps-more : (ts : List Tree) → with_steps (map f ys) ts ≡ with_steps (map f xs) (with_step (f x) ts)
    with_steps-more ts = ap (λ ks. with_steps ks ts) steps-more ∙ with_steps-push (map f xs) (f x) ts

    pub steps_load-more : steps_load (map f ys) ≡ step_load (f x) + steps_load (map f xs)
    steps_load-more = ap steps_load steps-more ∙ steps_load-push (map f xs) (f x)

  -- two tasks more: a compound is left to be put together by its arguments
  module _ (xs ys zs : List X) (x y : X) (name : List ℕ) (n : ℕ) (us : List Tree) (first : f x ≡ Gather name n) (second : f y ≡ Give us) (count : n ≡ length us) (one : ys ≡ xs ++ x ∷ []) (other : zs ≡ ys ++ y ∷ []) where
    pub with_steps-opened : (ts : List Tree) → with_steps (map f zs) ts ≡ with_steps (map f xs) (ts ++ Apply name (row us) ∷ [])
    with_steps-opened ts =
        with_steps-more ys zs y other ts ∙ with_steps-more xs ys x one (with_step (f y) ts)
        ∙ ap (with_steps (map f xs)) (ap₂ (λ k j. with_step k (with_step j ts)) first second ∙ with_gathered name n ts us count)

    pub steps_load-opened : steps_load (map f zs) < 2 * size (Apply name (row us)) + steps_load (map f xs)
    steps_load-opened =
        let outer = steps_load-more ys zs y other in
        let inner = steps_load-more xs ys x one in
        let gather = ap step_load first in
        let give = ap step_load second in
        omega arith
