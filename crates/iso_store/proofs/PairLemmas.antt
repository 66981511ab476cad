-- What was bound so far while the arguments of two compounds are met pair by pair.
use Rattle.std.proofs.Common.{◌≡◌, ◌≢◌, ℕ, ◌+◌, ◌*◌, ◌<◌, ◌≤◌, List, [], ◌∷◌, ◌++◌, length, Bool, true, false, refl, sym, subst, arith, ◌⊎◌, inl, inr, if◌then◌else◌}
use Rattle.std.proofs.lemmas.Bool.{cases_eq}
use Rattle.iso_model.specs.Terms.Trees.{Tree, Variable, row}
use Rattle.iso_model.specs.Terms.Substitutions.{Subst, compose}
use Rattle.iso_model.specs.Terms.Unifiers.{Unifier, NeverEqual}
use Rattle.iso_model.specs.Terms.Unification.Composed.{unifier_same, unifier_sym}
use Rattle.iso_store.specs.declared.notes.Notes.{Notes}
use Rattle.iso_store.specs.declared.unify.Met.{Met}
use Rattle.iso_store.specs.declared.unify.Met.TheVariants.{Equal, Never, Compounds}
use Rattle.iso_store.specs.declared.unify.Task.{Task}
use Rattle.iso_store.specs.declared.unify.Task.TheVariants.{Arguments}
use Rattle.iso_store_core.specs.Presents.{Present, meaning, Binds, IsUnification}
use Rattle.iso_store_core.specs.Arguments.{argument}
use Rattle.iso_store.specs.Met.{IsMet}
use Rattle.iso_store.specs.Unifying.{LeftBy, Measures, IsCompound, ones, others, AreJoined, Stands, Steps}
use Rattle.iso_store.proofs.Bound.{binds-none, binds-then}
use Rattle.iso_store.proofs.LeftLemmas.{left-none, left-then}
use Rattle.iso_store.proofs.UnifyLemmas.{stands-last, steps-last, stands-more, steps-more, stands-solved, steps-solved}

-- Way from p to q: something was bound, and of the old tasks the new ones are left, which are no more to do.
pub record Leads {W : Type 0} (p q : Present W) (old new : List (Task W)) : Type 0 where
  pub bound : (s : Subst) × LeftBy (ones p [] old) (others p [] old) (ones q [] new) (others q [] new) s × Binds p q s
  pub most : (m : List Tree → List Tree → ℕ) → Measures m → 3 * m (ones q [] new) (others q [] new) + length new ≤ 3 * m (ones p [] old) (others p [] old) + length old

module _ {W : Type 0} where
  pub leads-none : (p : Present W) (old : List (Task W)) → Leads p p old old
  leads-none p old = record { bound = (Variable, left-none (ones p [] old) (others p [] old), binds-none p); most = λ m measures. omega arith }

  module _ {p q : Present W} {old mid : List (Task W)} (before : Leads p q old mid) where
    pub leads-steps : {r : Present W} {new : List (Task W)} → Steps q r [] [] mid new → Steps p r [] [] old new
    leads-steps step = record {
      bound = (compose before.bound.0 step.bound.0, left-then before.bound.1 step.bound.1, binds-then before.bound.2 step.bound.2);
      falls = λ m measures.
          let most = before.most m measures in
          let less = step.falls m measures in
          omega arith;
    }

    pub leads-never : NeverEqual (row (ones q [] mid)) (row (others q [] mid)) → NeverEqual (row (ones p [] old)) (row (others p [] old))
    leads-never never = before.bound.1.never never

  pub steps-lead : {p q : Present W} {old new : List (Task W)} → Steps p q [] [] old new → Leads p q old new
  steps-lead step = record {
    bound = step.bound;
    most = λ m measures. let less = step.falls m measures in omega arith;
  }

-- ---- what is left behind a pair
-- the tasks ys are xs, and behind them the arguments from i on, where there are any
abbrev pub Behind : {W : Type 0} → W → W → ℕ → ℕ → List (Task W) → List (Task W) → Type 0
Behind w v i n xs ys = ((i ≡ n) × (ys ≡ xs)) ⊎ ((i < n) × (ys ≡ xs ++ Arguments w v i n ∷ []))

pub some-behind : {W : Type 0} (w v : W) (i n : ℕ) (xs : List (Task W)) → i < n → (ys : List (Task W)) × Behind w v (i + 1) n xs ys
some-behind w v i n xs below =
    elim (cases_eq (i + 1) n) [
      | inl last ↦ (xs, inl (last, refl))
      | inr more ↦ (xs ++ Arguments w v (i + 1) n ∷ [], inr (omega arith, refl))
    ]

pub stands-noted : {W : Type 0} {p : Present W} {at now : ℕ → Tree} {old new : Notes W} {us vs : List Tree} {xs : List (Task W)} → Stands p at old us vs xs → AreJoined p now new → Stands p now new us vs xs
stands-noted stands joins = record { pairs = stands.pairs; sound = stands.sound; joins = joins }

module _ {W : Type 0} (p : Present W) (xs ys : List (Task W)) (w v : W) (i n : ℕ) (below : i < n) (left : IsCompound n (meaning p w)) (right : IsCompound n (meaning p v)) (a b : Tree)
    (one : a ≡ argument i (meaning p w)) (other : b ≡ argument i (meaning p v)) where
  pub stands-behind : Behind w v (i + 1) n xs ys → (at : ℕ → Tree) (joined : Notes W) → Stands p at joined [] [] (xs ++ Arguments w v i n ∷ []) → Stands p at joined (a ∷ []) (b ∷ []) ys
  stands-behind (inl last) at joined stands = subst (Stands p at joined (a ∷ []) (b ∷ [])) (sym last.1) (stands-last p xs w v i n below left right a b one other last.0 at joined stands)
  stands-behind (inr more) at joined stands = stands-more p xs w v i n below left right a b one other ys more.1 at joined more.0 stands

  pub steps-behind : Behind w v (i + 1) n xs ys → (q : Present W) (new : List (Task W)) → Steps p q (a ∷ []) (b ∷ []) ys new → Steps p q [] [] (xs ++ Arguments w v i n ∷ []) new
  steps-behind (inl last) q new steps = steps-last p xs w v i n below left right a b one other last.0 q new (subst (λ ks. Steps p q (a ∷ []) (b ∷ []) ks new) last.1 steps)
  steps-behind (inr more) q new steps = steps-more p xs w v i n below left right a b one other ys more.1 q new steps

  -- the pair is equal now
  module _ {q : Present W} (behind : Behind w v (i + 1) n xs ys) (at : ℕ → Tree) (old : Notes W) (stands : Stands p at old [] [] (xs ++ Arguments w v i n ∷ [])) (met : IsUnification p q a b true) where
    pub stands-equal : (now : ℕ → Tree) (new : Notes W) → AreJoined q now new → Stands q now new [] [] ys
    stands-equal now new joins = stands-solved met.2 at now old new a b ys met.1.equal (stands-behind behind at old stands) joins

    pub steps-equal : Steps p q [] [] (xs ++ Arguments w v i n ∷ []) ys
    steps-equal = let before = stands-behind behind at old stands in steps-behind behind q ys (steps-solved met.2 a b met.1 ys before.pairs)

-- ---- what came of two terms
-- a variable was bound, where they are not known to be unequal
pub bound-met : (b : Bool) (m : Met) → m ≡ (if b then Equal else Never) → m ≢ Never → b ≡ true
bound-met true m is some = refl
bound-met false m is some = absurd (some is)

-- they were equal before
pub met-same : {W : Type 0} (p : Present W) (a b : Tree) → a ≡ b → IsMet p p a b Equal
met-same p a b equal = (Variable, subst (λ t. Unifier a t Variable) equal (unifier_same a), binds-none p)

-- they met the other way round
pub swapped-met : {W : Type 0} (p q : Present W) (a b : Tree) (answer : Bool) (m : Met) → m ≡ (if answer then Equal else Never) → IsUnification p q b a answer → IsMet p q a b m
swapped-met p q a b true m is h = rw is (h.0, unifier_sym h.1, h.2)
swapped-met p q a b false m is h = rw is (λ s e. h s (sym e))

-- they may be equal yet
pub equal-met : (m : Met) → m ≡ Equal → m ≢ Never
equal-met m is never = absurd (cc)

pub compounds-met : (n : ℕ) (m : Met) → m ≡ Compounds n → m ≢ Never
compounds-met n m is never = absurd (cc)
