-- Values read off the places of a stack:
--     read_at, read_cut      each place that is read holds its value, and fewer places give the first values
--     read_same, read_push, read_set      what is read where places agree, with one more place, and with one place written
--     beginning_, end_      one place of the row is written, and the others stay
use Rattle.std.proofs.Common.{◌≡◌, ◌≢◌, ℕ, zero, suc, ◌-◌, ◌<◌, ◌≤◌, List, [], ◌∷◌, ◌++◌, length, take, get_or, slice_get, slice_set, Option, Some, None, refl, sym, ap, ◌∙◌, inl, inr, arith, length-append}
use Rattle.std.proofs.lemmas.List.{length-set, set-append_left, get_or_append_left, take_all, take-append-le, get_or-set_same, get_or-set_other}
use Rattle.std.proofs.lemmas.Option.{slice_get-get_or}
use Rattle.std.proofs.Math.Nat.{eq-or-lt_of_le}
use Rattle.std.proofs.Math.Seq.{set-append_seam, get_or-append_seam}
use Rattle.iso_area.specs.Places.{somes}
use Rattle.iso_area.specs.Reading.{from_beginning, from_end, read_off}

module _ {X : Type 0} where
  -- One place gives one value at most.
  length-somes : (c : Option X) → length (somes (c ∷ [])) ≤ 1
  length-somes None = omega arith
  length-somes (Some x) = omega arith

  pub length-read : (f : ℕ → Option X) (k : ℕ) → length (read_off f k) ≤ k
  length-read f zero = omega arith
  length-read f (suc k) = omega (arith, length-read f k, length-somes (f k), length-append (read_off f k) (somes (f k ∷ [])))

  -- Where all k + 1 places hold a value, the first k and the last one do.
  read_before : (f : ℕ → Option X) (k : ℕ) → length (read_off f (suc k)) ≡ suc k → length (read_off f k) ≡ k
  read_before f k e = omega (arith, length-read f k, length-somes (f k), length-append (read_off f k) (somes (f k ∷ [])))

  last_value : (c : Option X) → length (somes (c ∷ [])) ≡ 1 → (x : X) × (c ≡ Some x)
  last_value None e = absurd (omega (arith, e))
  last_value (Some x) e = (x, refl)

  read_last : (f : ℕ → Option X) (k : ℕ) → length (read_off f (suc k)) ≡ suc k → (x : X) × (f k ≡ Some x)
  read_last f k e = last_value (f k) (omega (arith, read_before f k e, length-append (read_off f k) (somes (f k ∷ []))))

  pub read_same : (f g : ℕ → Option X) (k : ℕ) → ((j : ℕ) → j < k → g j ≡ f j) → read_off g k ≡ read_off f k
  read_same f g zero same = refl
  read_same f g (suc k) same =
      ap (λ xs. xs ++ somes (g k ∷ [])) (read_same f g k (λ j lt. same j (omega arith))) ∙ ap (λ c. read_off f k ++ somes (c ∷ [])) (same k (omega arith))

  pub read_push : (f g : ℕ → Option X) (k : ℕ) (x : X) → ((j : ℕ) → j < k → g j ≡ f j) → g k ≡ Some x → read_off g (suc k) ≡ read_off f k ++ x ∷ []
  read_push f g k x same new = ap (λ xs. xs ++ somes (g k ∷ [])) (read_same f g k same) ∙ ap (λ c. read_off f k ++ somes (c ∷ [])) new

  pub read_cut : (f : ℕ → Option X) (n k : ℕ) → n ≤ k → length (read_off f k) ≡ k → read_off f n ≡ take n (read_off f k)
  read_cut f n zero le e = let none : n ≡ 0 = omega arith in ap (read_off f) none ∙ sym (take_all n [] (omega arith))
  read_cut f n (suc k) le e = elim (eq-or-lt_of_le le) [
    | inl all ↦ ap (read_off f) all ∙ sym (take_all n (read_off f (suc k)) (omega (arith, all, e)))
    | inr lt ↦ let shorter = read_before f k e in
        read_cut f n k (omega arith) shorter ∙ sym (take-append-le n (read_off f k) (somes (f k ∷ [])) (omega (arith, shorter, lt)))
  ]

  -- with x itself for a place past the end
  read_or : (f : ℕ → Option X) (i k : ℕ) → i < k → length (read_off f k) ≡ k → (x : X) × ((f i ≡ Some x) × (get_or (read_off f k) i x ≡ x))
  read_or f i zero lt e = absurd (omega arith)
  read_or f i (suc k) lt e =
      let shorter = read_before f k e in let at_most : i ≤ k = omega arith in
      elim (eq-or-lt_of_le at_most) [
        | inl here ↦ let last = read_last f k e in (
          last.0,
          (
            ap f here ∙ last.1,
            ap (λ c. get_or (read_off f k ++ somes (c ∷ [])) i last.0) last.1 ∙
                (ap (λ j. get_or (read_off f k ++ last.0 ∷ []) j last.0) (here ∙ sym shorter) ∙ get_or-append_seam (read_off f k) last.0 [] last.0),
          ),
        )
        | inr before ↦ let found = read_or f i k before shorter in
            (found.0, (found.1.0, get_or_append_left (read_off f k) (somes (f k ∷ [])) found.0 i (omega (arith, shorter, before)) ∙ found.1.1))
      ]

  pub read_at : (f : ℕ → Option X) (i k : ℕ) → i < k → length (read_off f k) ≡ k → (x : X) × ((f i ≡ Some x) × (slice_get (read_off f k) i ≡ Some x))
  read_at f i k lt e =
      let found = read_or f i k lt e in
      (found.0, (found.1.0, slice_get-get_or (read_off f k) i found.0 (omega (arith, e, lt)) ∙ ap Some found.1.1))

  pub read_set : (f g : ℕ → Option X) (i k : ℕ) (x : X) → i < k → length (read_off f k) ≡ k → ((j : ℕ) → j < k → j ≢ i → g j ≡ f j) → g i ≡ Some x
      → read_off g k ≡ slice_set (read_off f k) i x
  read_set f g i zero x lt e same new = absurd (omega arith)
  read_set f g i (suc k) x lt e same new =
      let shorter = read_before f k e in let at_most : i ≤ k = omega arith in
      elim (eq-or-lt_of_le at_most) [
        | inl here ↦ let last = read_last f k e in
            read_push f g k x (λ j below. same j (omega arith) (λ q. absurd (omega (arith, q, here, below)))) (ap g (sym here) ∙ new) ∙
            (sym (set-append_seam (read_off f k) last.0 [] x) ∙ (ap (λ j. slice_set (read_off f k ++ last.0 ∷ []) j x) (shorter ∙ sym here) ∙
            ap (λ c. slice_set (read_off f k ++ somes (c ∷ [])) i x) (sym last.1)))
        | inr before ↦
            ap (λ xs. xs ++ somes (g k ∷ [])) (read_set f g i k x before shorter (λ j below. same j (omega arith)) new) ∙
            (ap (λ c. slice_set (read_off f k) i x ++ somes (c ∷ [])) (same k (omega arith) (λ q. absurd (omega (arith, q, before)))) ∙
            sym (set-append_left (read_off f k) (somes (f k ∷ [])) i x (omega (arith, shorter, before))))
      ]

  -- one place of the row is written: the i-th from the beginning
  pub beginning_new : (cs : List (Option X)) (i : ℕ) (c : Option X) → i < length cs → from_beginning (slice_set cs i c) i ≡ c
  beginning_new cs i c lt = get_or-set_same cs i c None lt

  pub beginning_other : (cs : List (Option X)) (i : ℕ) (c : Option X) (j : ℕ) → j ≢ i → from_beginning (slice_set cs i c) j ≡ from_beginning cs j
  beginning_other cs i c j apart = get_or-set_other cs i j c None apart

  -- and seen from the end
  pub end_new : (cs : List (Option X)) (i : ℕ) (c : Option X) → i < length cs → from_end (slice_set cs (length cs - 1 - i) c) i ≡ c
  end_new cs i c lt =
      ap (λ n. get_or (slice_set cs (length cs - 1 - i) c) (n - 1 - i) None) (length-set cs (length cs - 1 - i) c) ∙
      get_or-set_same cs (length cs - 1 - i) c None (omega arith)

  pub end_other : (cs : List (Option X)) (p : ℕ) (c : Option X) (j : ℕ) → length cs - 1 - j ≢ p → from_end (slice_set cs p c) j ≡ from_end cs j
  end_other cs p c j apart =
      ap (λ n. get_or (slice_set cs p c) (n - 1 - j) None) (length-set cs p c) ∙ get_or-set_other cs p (length cs - 1 - j) c None apart
