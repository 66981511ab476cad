-- How a boundary is found by halves, and that it is one.
use Rattle.std.proofs.Common.{◌≡◌, ◌≤◌, ◌<◌, ℕ, zero, suc, ◌+◌, ◌-◌, ◌/◌, Bool, true, false, nat_lt, if◌then◌else◌, Result, Ok, Err, IfOk, refl, subst, arith, inl, inr}
use Rattle.std.proofs.lemmas.Bool.{cases_Bool}
use Rattle.std.proofs.lemmas.Bool.Decides.{nat_tests}
use Rattle.iso_lint.specs.Boundaries.{boundary_from, boundary, IsBoundary}

abbrev pub middle : ℕ → ℕ → ℕ
middle low high = low + (high - low) / 2

test_near : (low high : ℕ) → high - low < 2 → nat_lt (high - low) 2 ≡ true
test_near low high h = grind (arith, nat_tests)

test_far : (low high : ℕ) → 2 ≤ high - low → nat_lt (high - low) 2 ≡ false
test_far low high h = grind (arith, nat_tests)

close_is : (low high : ℕ) → nat_lt (high - low) 2 ≡ true → high - low < 2
close_is low high h = grind (arith, nat_tests)

far_is : (low high : ℕ) → nat_lt (high - low) 2 ≡ false → 2 ≤ high - low
far_is low high h = grind (arith, nat_tests)

pub near : (turns : ℕ) (p : ℕ → Bool) (low high : ℕ) → high - low < 2 → low ≡ boundary_from turns p low high
unfolding boundary_from
near zero p low high h = refl
near (suc turns) p low high h = rw (test_near low high h) refl

pub far_up : (turns : ℕ) (p : ℕ → Bool) (low high k : ℕ) → 2 ≤ high - low → high ≤ low + turns → p (middle low high) ≡ true
    → ((t : ℕ) → high ≤ middle low high + t → k ≡ boundary_from t p (middle low high) high) → k ≡ boundary_from turns p low high
unfolding boundary_from
far_up zero p low high k far fuel holds later = absurd (omega arith)
far_up (suc turns) p low high k far fuel holds later = rw (test_far low high far, holds) (later turns (omega arith))

pub far_down : (turns : ℕ) (p : ℕ → Bool) (low high k : ℕ) → 2 ≤ high - low → high ≤ low + turns → p (middle low high) ≡ false
    → ((t : ℕ) → middle low high ≤ low + t → k ≡ boundary_from t p low (middle low high)) → k ≡ boundary_from turns p low high
unfolding boundary_from
far_down zero p low high k far fuel holds later = absurd (omega arith)
far_down (suc turns) p low high k far fuel holds later = rw (test_far low high far, holds) (later turns (omega arith))

pub if_ok : {T E : Type 0} (r : Result T E) (P Q : T → Type 0) → ((x : T) → P x → Q x) → IfOk r P → IfOk r Q
if_ok (Ok x) P Q step h = step x h
if_ok (Err e) P Q step h = h

-- a boundary lies between a number at which the property holds, as it does at 0, and one at which it doesn't, or that
-- is past the last
lies_by : (found : ℕ → ℕ → ℕ) (p : ℕ → Bool) (most low high : ℕ) (b : Bool) → p (middle low high) ≡ b
    → (b ≡ true → IsBoundary p most (found (middle low high) high)) → (b ≡ false → IsBoundary p most (found low (middle low high)))
    → IsBoundary p most (if b then found (middle low high) high else found low (middle low high))
lies_by found p most low high true is up down = up refl
lies_by found p most low high false is up down = down refl

at_low : (p : ℕ → Bool) (most low high : ℕ) → high - low < 2 → low < high → high ≤ most + 1 → (p 0 ≡ true → p low ≡ true) → (high ≤ most → p high ≡ false) → IsBoundary p most low
at_low p most low high close before within holds ends = record {
  within = omega arith;
  holds = holds;
  ends = λ h. let next : high ≡ low + 1 = omega arith in subst (λ n. p n ≡ false) next (ends (omega arith));
}

lies : (turns : ℕ) (p : ℕ → Bool) (most low high : ℕ) → high ≤ low + turns → low < high → high ≤ most + 1 → (p 0 ≡ true → p low ≡ true) → (high ≤ most → p high ≡ false) → IsBoundary p most (boundary_from turns p low high)
unfolding boundary_from
lies zero p most low high fuel before within holds ends = absurd (omega arith)
lies (suc turns) p most low high fuel before within holds ends = elim (cases_Bool (nat_lt (high - low) 2)) [
  | inl close ↦ rw close (at_low p most low high (close_is low high close) before within holds ends)
  | inr far ↦ rw far (lies_by (boundary_from turns p) p most low high (p (middle low high)) refl
      (λ is. lies turns p most (middle low high) high (let h = far_is low high far in omega arith) (let h = far_is low high far in omega arith) within (λ _. is) ends)
      (λ is. lies turns p most low (middle low high) (let h = far_is low high far in omega arith) (let h = far_is low high far in omega arith) (let h = far_is low high far in omega arith) holds (λ _. is)))
]

pub boundaries : (p : ℕ → Bool) (most : ℕ) → IsBoundary p most (boundary p most)
boundaries p most = lies (most + 1) p most 0 (most + 1) (omega arith) (omega arith) (omega arith) (λ h. h) (λ h. absurd (omega arith))
