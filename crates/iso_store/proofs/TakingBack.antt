-- Taking changes of a list back: what it leaves alone, and what a mark brings back after each change.
use Rattle.std.proofs.Common.{◌≡◌, ◌≢◌, ℕ, zero, suc, ◌<◌, ◌≤◌, List, [], ◌∷◌, ◌++◌, length, take, drop, set, get_or, refl, ap, sym, ◌∙◌, arith, length-take, Some}
use Rattle.std.specs.List.{slice_get}
use Rattle.std.proofs.lemmas.List.{drop-append-le, take-take, take-append-drop, drop_all, take_all}
use Rattle.iso_store.specs.TakenBack.{changed_at, back}

-- ---- a change at a place
module _ {X : Type 0} (f : X → X) where
  pub changed_at-set : (xs : List X) (e : ℕ) (d : X) → e < length xs → changed_at f xs e ≡ set xs e (f (get_or xs e d))
  changed_at-set [] e d h = absurd (omega arith)
  changed_at-set (x ∷ xs) zero d h = refl
  changed_at-set (x ∷ xs) (suc e) d h = ap (λ ys. x ∷ ys) (changed_at-set xs e d (omega arith))

  pub changed_at-there : (xs : List X) (e : ℕ) (x : X) → slice_get xs e ≡ Some x → changed_at f xs e ≡ set xs e (f x)
  changed_at-there [] e x h = refl
  changed_at-there (y ∷ xs) zero x h = let is : y ≡ x = cc in ap (λ z. f z ∷ xs) is
  changed_at-there (y ∷ xs) (suc e) x h = ap (λ ys. y ∷ ys) (changed_at-there xs e x h)

  -- a change that is none
  pub changed_at-same : (xs : List X) (e : ℕ) (x : X) → slice_get xs e ≡ Some x → f x ≡ x → changed_at f xs e ≡ xs
  changed_at-same [] e x h same = refl
  changed_at-same (y ∷ xs) zero x h same = let is : y ≡ x = cc in ap (λ z. z ∷ xs) (ap f is ∙ same ∙ sym is)
  changed_at-same (y ∷ xs) (suc e) x h same = ap (λ ys. y ∷ ys) (changed_at-same xs e x h same)

  pub changed_at-beyond : (xs : List X) (e : ℕ) → length xs ≤ e → changed_at f xs e ≡ xs
  changed_at-beyond [] e h = refl
  changed_at-beyond (x ∷ xs) zero h = absurd (omega arith)
  changed_at-beyond (x ∷ xs) (suc e) h = ap (λ ys. x ∷ ys) (changed_at-beyond xs e (omega arith))

  pub changed_at-length : (xs : List X) (e : ℕ) → length (changed_at f xs e) ≡ length xs
  changed_at-length [] e = refl
  changed_at-length (x ∷ xs) zero = refl
  changed_at-length (x ∷ xs) (suc e) = omega (arith, changed_at-length xs e)

  pub take-changed_at : (k : ℕ) (xs : List X) (e : ℕ) → take k (changed_at f xs e) ≡ changed_at f (take k xs) e
  take-changed_at zero xs e = refl
  take-changed_at (suc k) [] e = refl
  take-changed_at (suc k) (x ∷ xs) zero = refl
  take-changed_at (suc k) (x ∷ xs) (suc e) = ap (λ ys. x ∷ ys) (take-changed_at k xs e)

  -- what no change makes was there
  pub changed_at-was : (xs : List X) (e w : ℕ) (y : X) → ((x : X) → Some (f x) ≢ Some y) → slice_get (changed_at f xs e) w ≡ Some y → slice_get xs w ≡ Some y
  changed_at-was [] e w y never h = h
  changed_at-was (x ∷ xs) zero zero y never h = absurd (never x h)
  changed_at-was (x ∷ xs) zero (suc w) y never h = h
  changed_at-was (x ∷ xs) (suc e) zero y never h = h
  changed_at-was (x ∷ xs) (suc e) (suc w) y never h = changed_at-was xs e w y never h

  -- what was written is changed to what was there
  pub changed-back : (xs : List X) (e : ℕ) (x y : X) → slice_get xs e ≡ Some x → f y ≡ x → changed_at f (set xs e y) e ≡ xs
  changed-back [] e x y h was = refl
  changed-back (z ∷ xs) zero x y h was = let is : z ≡ x = cc in ap (λ w. w ∷ xs) (was ∙ sym is)
  changed-back (z ∷ xs) (suc e) x y h was = ap (λ ys. z ∷ ys) (changed-back xs e x y h was)

-- ---- entries, each of which takes a change back
module _ {X E : Type 0} (step : E → List X → List X) where
  -- the newest is taken back first
  pub back-push : (es : List E) (e : E) (xs : List X) → back step (es ++ e ∷ []) xs ≡ back step es (step e xs)
  back-push [] e xs = refl
  back-push (d ∷ es) e xs = ap (step d) (back-push es e xs)

  back-append : (es fs : List E) (xs : List X) → back step (es ++ fs) xs ≡ back step es (back step fs xs)
  back-append [] fs xs = refl
  back-append (e ∷ es) fs xs = ap (step e) (back-append es fs xs)

  pub back-was : (w : ℕ) (y : X) → ((e : E) (xs : List X) → slice_get (step e xs) w ≡ Some y → slice_get xs w ≡ Some y) → (es : List E) (xs : List X) → slice_get (back step es xs) w ≡ Some y → slice_get xs w ≡ Some y
  back-was w y kept [] xs h = h
  back-was w y kept (e ∷ es) xs h = back-was w y kept es xs (kept e (back step es xs) h)

  -- a mark that is made stands for the list as it is
  pub back-marked : (xs : List X) (es : List E) (k i : ℕ) → k ≡ length xs → i ≡ length es → back step (drop i es) (take k xs) ≡ xs
  back-marked xs es k i many entries =
      let none : drop i es ≡ [] = drop_all i es (omega arith) in
      ap (λ ds. back step ds (take k xs)) none ∙ take_all k xs (omega arith)

  pub back-length : ((e : E) (xs : List X) → length (step e xs) ≡ length xs) → (xs : List X) (es : List E) (k i : ℕ) → k ≤ length xs → length (back step (drop i es) (take k xs)) ≡ k
  back-length keeps xs es k i within = all (drop i es) ∙ omega (arith, length-take k xs)
    where
      all : (ds : List E) → length (back step ds (take k xs)) ≡ length (take k xs)
      all [] = refl
      all (e ∷ ds) = keeps e (back step ds (take k xs)) ∙ all ds

  module _ (takes : (k : ℕ) (e : E) (xs : List X) → take k (step e xs) ≡ step e (take k xs)) where
    take-back : (k : ℕ) (es : List E) (xs : List X) → take k (back step es xs) ≡ back step es (take k xs)
    take-back k [] xs = refl
    take-back k (e ∷ es) xs = takes k e (back step es xs) ∙ ap (step e) (take-back k es xs)

    -- a change that has its entry
    pub back-trailed : (xs ys : List X) (es : List E) (e : E) (k i : ℕ) → i ≤ length es → step e ys ≡ xs → back step (drop i (es ++ e ∷ [])) (take k ys) ≡ back step (drop i es) (take k xs)
    back-trailed xs ys es e k i top was =
        ap (λ ds. back step ds (take k ys)) (drop-append-le i es (e ∷ []) top) ∙ back-push (drop i es) e (take k ys) ∙ ap (back step (drop i es)) (sym (takes k e ys) ∙ ap (take k) was)

    -- what the mark at m and j brings back, once it was undone, for itself and each older one
    pub back-undone : (xs : List X) (es : List E) (k i m j : ℕ) → k ≤ m → i ≤ j → j ≤ length es → back step (drop i (take j es)) (take k (back step (drop j es) (take m xs))) ≡ back step (drop i es) (take k xs)
    back-undone xs es k i m j before older top =
        let inner : take k (back step (drop j es) (take m xs)) ≡ back step (drop j es) (take k xs) = take-back k (drop j es) (take m xs) ∙ ap (back step (drop j es)) (take-take k m xs before) in
        let size : length (take j es) ≡ j = omega (arith, length-take j es) in
        let outer : drop i (take j es) ++ drop j es ≡ drop i es = sym (drop-append-le i (take j es) (drop j es) (omega arith)) ∙ ap (drop i) (take-append-drop j es) in
        ap (back step (drop i (take j es))) inner ∙ sym (back-append (drop i (take j es)) (drop j es) (take k xs)) ∙ ap (λ ds. back step ds (take k xs)) outer
