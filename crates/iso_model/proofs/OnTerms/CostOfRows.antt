-- The measure of unification, on lists of terms that are to be made equal one after another.
use Rattle.std.proofs.Common.{◌≡◌, ℕ, zero, suc, ◌+◌, ◌≤◌, ◌<◌, List, [], ◌∷◌, ◌++◌, length, map, ◌⊎◌, inl, inr, refl, sym, ap, ap₂, ◌∙◌, arith}
use Rattle.std.proofs.lemmas.List.{map-append, length-map}
use Rattle.iso_model.specs.Terms.Trees.{Tree, Variable, Apply, End, More, row}
use Rattle.iso_model.specs.Terms.Substitutions.{Subst, apply, compose}
use Rattle.iso_model.specs.Terms.Unifiers.{Unifier}
use Rattle.iso_model.specs.Terms.Unification.Applied.{apply_apply, apply_none}
use Rattle.iso_model.specs.Terms.Unification.Composed.{unifier_same, unifier_more, unifier_apply}
use Rattle.iso_model.specs.Terms.Unification.Exists.{solved_unifier, exists_or_not}
use Rattle.iso_model.proofs.OnTerms.Cost.{cost, cost_first, cost_arguments, cost_more, cost_never}

pub apply-row : (s : Subst) (us : List Tree) → apply s (row us) ≡ row (map (apply s) us)
apply-row s [] = refl
apply-row s (u ∷ us) = ap (More (apply s u)) (apply-row s us)

apply-both : (s : Subst) (us vs : List Tree) → apply s (row (us ++ vs)) ≡ row (map (apply s) us ++ map (apply s) vs)
apply-both s us vs = apply-row s (us ++ vs) ∙ ap row (map-append (apply s) us vs)

-- Some terms before others cost no more than these alone, and then the others under their unifier.
abbrev InTurn : List Tree → List Tree → List Tree → List Tree → Type 0
InTurn ts us cs ds =
    (cost (row (ts ++ cs)) (row (us ++ ds)) ≤ cost (row ts) (row us))
    ⊎ ((s : Subst) × Unifier (row ts) (row us) s × (cost (row (ts ++ cs)) (row (us ++ ds)) ≤ cost (row ts) (row us) + cost (apply s (row cs)) (apply s (row ds))))

-- the first terms are made equal by t
module _ (x y : Tree) (ts us cs ds : List Tree) (t : Subst) (u : Unifier x y t) where
  whole : cost (row ((x ∷ ts) ++ cs)) (row ((y ∷ us) ++ ds)) ≡ cost x y + cost (row (map (apply t) ts ++ map (apply t) cs)) (row (map (apply t) us ++ map (apply t) ds)) + 1
  whole = cost_more x y (row (ts ++ cs)) (row (us ++ ds)) t u ∙ ap₂ (λ a b. cost x y + cost a b + 1) (apply-both t ts cs) (apply-both t us ds)

  alone : cost (row (x ∷ ts)) (row (y ∷ us)) ≡ cost x y + cost (row (map (apply t) ts)) (row (map (apply t) us)) + 1
  alone = cost_more x y (row ts) (row us) t u ∙ ap₂ (λ a b. cost x y + cost a b + 1) (apply-row t ts) (apply-row t us)

  then_rest : InTurn (map (apply t) ts) (map (apply t) us) (map (apply t) cs) (map (apply t) ds) → InTurn (x ∷ ts) (y ∷ us) cs ds
  then_rest (inl low) = let a = whole in let b = alone in inl (omega arith)
  then_rest (inr found) =
      let r = found.0 in
      let v : Unifier (apply t (row ts)) (apply t (row us)) r = rw (apply-row t ts, apply-row t us) found.1 in
      let left : apply r (row (map (apply t) cs)) ≡ apply (compose t r) (row cs) = ap (apply r) (sym (apply-row t cs)) ∙ apply_apply t r (row cs) in
      let right : apply r (row (map (apply t) ds)) ≡ apply (compose t r) (row ds) = ap (apply r) (sym (apply-row t ds)) ∙ apply_apply t r (row ds) in
      let same : cost (apply r (row (map (apply t) cs))) (apply r (row (map (apply t) ds))) ≡ cost (apply (compose t r) (row cs)) (apply (compose t r) (row ds)) = ap₂ cost left right in
      let low = found.2 in
      let a = whole in
      let b = alone in
      inr (compose t r, unifier_more u v, omega arith)

in_turn : (n : ℕ) (ts us cs ds : List Tree) → length ts ≡ n → length us ≡ n → InTurn ts us cs ds
in_turn zero [] [] cs ds p q =
    let same : cost (apply Variable (row cs)) (apply Variable (row ds)) ≡ cost (row cs) (row ds) = ap₂ cost (apply_none (row cs)) (apply_none (row ds)) in
    inr (Variable, unifier_same End, omega arith)
in_turn zero [] (u ∷ us) cs ds p q = absurd (omega arith)
in_turn zero (t ∷ ts) us cs ds p q = absurd (omega arith)
in_turn (suc n) [] us cs ds p q = absurd (omega arith)
in_turn (suc n) (t ∷ ts) [] cs ds p q = absurd (omega arith)
in_turn (suc n) (x ∷ ts) (y ∷ us) cs ds p q =
    elim (exists_or_not x y) [
      | inl found ↦
          let r = found.0 in
          let rest = in_turn n (map (apply r) ts) (map (apply r) us) (map (apply r) cs) (map (apply r) ds) (length-map ts (apply r) ∙ omega arith) (length-map us (apply r) ∙ omega arith) in
          then_rest x y ts us cs ds r (solved_unifier found.1) rest
      | inr never ↦
          let a = cost_never x y (row (ts ++ cs)) (row (us ++ ds)) never in
          let b = cost_never x y (row ts) (row us) never in
          inl (omega arith)
    ]

-- the arguments of two compounds take their place
pub cost_opened : (f : List ℕ) (ts us cs ds : List Tree) → length ts ≡ length us → cost (row (ts ++ cs)) (row (us ++ ds)) < cost (row (Apply f (row ts) ∷ cs)) (row (Apply f (row us) ∷ ds))
cost_opened f ts us cs ds same = of_turn (in_turn (length us) ts us cs ds same refl)
  where
    of_turn : InTurn ts us cs ds → cost (row (ts ++ cs)) (row (us ++ ds)) < cost (row (Apply f (row ts) ∷ cs)) (row (Apply f (row us) ∷ ds))
    of_turn (inl low) =
        let a = cost_first (Apply f (row ts)) (Apply f (row us)) (row cs) (row ds) in
        let b = cost_arguments f f (row ts) (row us) in
        omega arith
    of_turn (inr found) =
        let a = cost_more (Apply f (row ts)) (Apply f (row us)) (row cs) (row ds) found.0 (unifier_apply f found.1) in
        let b = cost_arguments f f (row ts) (row us) in
        let low = found.2 in
        omega arith
