-- What is at a place of a list that grows, or is changed at a place.
use Rattle.std.proofs.Common.{◌≡◌, ◌≢◌, ℕ, zero, suc, ◌<◌, List, [], ◌∷◌, ◌++◌, length, take, set, refl, ap, arith, Some, ◌⊎◌, inl, inr}
use Rattle.std.specs.List.{slice_get}

module _ {X : Type 0} where
  -- what is in a longer list is in the list, or comes last
  pub slice_get-pushed : (cs : List X) (c x : X) (w : ℕ) → slice_get (cs ++ c ∷ []) w ≡ Some x → (slice_get cs w ≡ Some x) ⊎ ((w ≡ length cs) × (c ≡ x))
  slice_get-pushed [] c x zero h = inr (refl, cc)
  slice_get-pushed [] c x (suc w) h = absurd (cc)
  slice_get-pushed (d ∷ cs) c x zero h = inl h
  slice_get-pushed (d ∷ cs) c x (suc w) h = elim (slice_get-pushed cs c x w h) [ inl e ↦ inl e | inr e ↦ inr (ap suc e.0, e.1) ]

  pub slice_get-push : (cs : List X) (c : X) (w : ℕ) → w < length cs → slice_get (cs ++ c ∷ []) w ≡ slice_get cs w
  slice_get-push [] c w h = absurd (omega arith)
  slice_get-push (d ∷ cs) c zero h = refl
  slice_get-push (d ∷ cs) c (suc w) h = slice_get-push cs c w (omega arith)

  pub slice_get-append : (cs ds : List X) (w : ℕ) → w < length cs → slice_get (cs ++ ds) w ≡ slice_get cs w
  slice_get-append [] ds w h = absurd (omega arith)
  slice_get-append (c ∷ cs) ds zero h = refl
  slice_get-append (c ∷ cs) ds (suc w) h = slice_get-append cs ds w (omega arith)

  pub slice_get-last : (cs : List X) (c : X) → slice_get (cs ++ c ∷ []) (length cs) ≡ Some c
  slice_get-last [] c = refl
  slice_get-last (d ∷ cs) c = slice_get-last cs c

  pub slice_get-set : (cs : List X) (e w : ℕ) (v : X) → w ≢ e → slice_get (set cs e v) w ≡ slice_get cs w
  slice_get-set [] e w v h = refl
  slice_get-set (c ∷ cs) zero zero v h = absurd (h refl)
  slice_get-set (c ∷ cs) zero (suc w) v h = refl
  slice_get-set (c ∷ cs) (suc e) zero v h = refl
  slice_get-set (c ∷ cs) (suc e) (suc w) v h = slice_get-set cs e w v (λ q. h (ap suc q))

  pub slice_get-here : (cs : List X) (e : ℕ) (v x : X) → slice_get cs e ≡ Some x → slice_get (set cs e v) e ≡ Some v
  slice_get-here [] e v x h = absurd (cc)
  slice_get-here (c ∷ cs) zero v x h = refl
  slice_get-here (c ∷ cs) (suc e) v x h = slice_get-here cs e v x h

  -- what is among the first elements is in the list
  pub slice_get-taken : (k : ℕ) (cs : List X) (w : ℕ) (x : X) → slice_get (take k cs) w ≡ Some x → slice_get cs w ≡ Some x
  slice_get-taken zero cs w x h = absurd (cc)
  slice_get-taken (suc k) [] w x h = h
  slice_get-taken (suc k) (c ∷ cs) zero x h = h
  slice_get-taken (suc k) (c ∷ cs) (suc w) x h = slice_get-taken k cs w x h
