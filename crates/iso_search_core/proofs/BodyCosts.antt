-- What is to be done at most: bodies, clauses and steps.
use Rattle.std.proofs.Common.{◌≡◌, ◌<◌, ◌≤◌, ℕ, zero, suc, ◌+◌, ◌⊎◌, inl, inr, refl, subst, arith}
use Rattle.iso_program.specs.Leaving.{most_left}
use Rattle.iso_search_core.specs.Bodies.{body_cost, most, left_cost, whole_cost}
use Rattle.std.proofs.Math.Nat.{eq-or-lt_of_le}

pub cost_above : (k r : ℕ) → r < body_cost k r
unfolding body_cost
cost_above zero r = omega arith
cost_above (suc k) r = let second = cost_above k r in omega (arith, second)

pub cost_more : (k r q : ℕ) → r ≤ q → body_cost k r ≤ body_cost k q
unfolding body_cost
cost_more zero r q less = omega (arith, less)
cost_more (suc k) r q less =
    let inner = cost_more k r q less in
    let outer = cost_more k (body_cost k r + 2) (body_cost k q + 2) (omega (arith, inner)) in
    omega (arith, inner, outer)

cost_up : (k r : ℕ) → body_cost k r ≤ body_cost (suc k) r
unfolding body_cost
cost_up k r = omega arith

cost_reaches : (i k r : ℕ) → (i ≡ suc k) ⊎ (i < suc k) → (i ≤ k → body_cost i r ≤ body_cost k r) → body_cost i r ≤ body_cost (suc k) r
cost_reaches i k r (inl same) below = subst (λ n. body_cost i r ≤ body_cost n r) same (omega arith)
cost_reaches i k r (inr less) below = let lower = below (omega (arith, less)) in let up = cost_up k r in omega (arith, lower, up)

pub cost_higher : (k i r : ℕ) → i ≤ k → body_cost i r ≤ body_cost k r
cost_higher zero i r less = let none : i ≡ 0 = omega (arith, less) in subst (λ n. body_cost i r ≤ body_cost n r) none (omega arith)
cost_higher (suc k) i r less = cost_reaches i k r (eq-or-lt_of_le less) (cost_higher k i r)

-- two parts of a body one behind the other, and a third
pub cost_parts : (k i j l r : ℕ) → i < k → j < k → l < k → body_cost i (body_cost j r + 2) + (body_cost l r + 2) ≤ body_cost k r
unfolding body_cost
cost_parts zero i j l r first second third = absurd (omega (arith, first))
cost_parts (suc k) i j l r first second third =
    let a = cost_higher k j r (omega (arith, second)) in
    let b = cost_more i (body_cost j r + 2) (body_cost k r + 2) (omega (arith, a)) in
    let c = cost_higher k i (body_cost k r + 2) (omega (arith, first)) in
    let d = cost_higher k l r (omega (arith, third)) in
    omega (arith, a, b, c, d)

pub below_most : (n : ℕ) → n < 340282366920938463463374607431768211456 → n ≤ most
unfolding most
below_most n less = omega (arith, less)

-- a place that a number of the machine counts
pub below_words : (n : ℕ) → n < 18446744073709551616 → n < most
unfolding most
below_words n less = omega (arith, less)

pub some_most : 0 < most
unfolding most
some_most = omega arith

pub left_more : (n r q : ℕ) → r ≤ q → left_cost n r ≤ left_cost n q
unfolding left_cost
left_more zero r q less = omega arith
left_more (suc n) r q less = let one = cost_more most r q less in let others = left_more n r q less in omega (arith, one, others)

left_reaches : (n m r : ℕ) → (n ≡ suc m) ⊎ (n < suc m) → (n ≤ m → left_cost n r ≤ left_cost m r) → left_cost n r ≤ left_cost (suc m) r
unfolding left_cost
left_reaches n m r (inl same) below = subst (λ k. left_cost n r ≤ left_cost k r) same (omega arith)
left_reaches n m r (inr less) below = let lower = below (omega (arith, less)) in omega (arith, lower)

pub left_higher : (m n r : ℕ) → n ≤ m → left_cost n r ≤ left_cost m r
left_higher zero n r less = let none : n ≡ 0 = omega (arith, less) in subst (λ k. left_cost n r ≤ left_cost k r) none (omega arith)
left_higher (suc m) n r less = left_reaches n m r (eq-or-lt_of_le less) (left_higher m n r)

views_fit : (n : ℕ) → n ≤ most_left → suc n ≤ most
unfolding most
views_fit n few = omega (arith, few)

-- a step pays for all clauses of a view, and the one before them
pub view_cost : (n r : ℕ) → n ≤ most_left → left_cost (suc n) r ≤ left_cost most r
view_cost n r few = left_higher most (suc n) r (views_fit n few)

pub whole_more : (n w v : ℕ) → w < v → whole_cost n w < whole_cost n v
unfolding whole_cost
whole_more zero w v less = less
whole_more (suc n) w v less =
    let grown = left_more (suc most) w v (omega (arith, less)) in
    let inner = whole_more n (w + left_cost (suc most) w) (v + left_cost (suc most) v) (omega (arith, less, grown)) in
    omega (arith, inner)

whole_at_most : (n w v : ℕ) → (w ≡ v) ⊎ (w < v) → whole_cost n w ≤ whole_cost n v
whole_at_most n w v (inl same) = subst (λ x. whole_cost n w ≤ whole_cost n x) same (omega arith)
whole_at_most n w v (inr less) = let h = whole_more n w v less in omega (arith, h)

-- a step is paid: whatever clauses and body come, before what is to be done behind the goal
pub whole_paid : (n w v : ℕ) → v ≤ w + left_cost (suc most) w → whole_cost n v < whole_cost (suc n) w
unfolding whole_cost
whole_paid n w v less = let h = whole_at_most n v (w + left_cost (suc most) w) (eq-or-lt_of_le less) in omega (arith, h)

pub left_step : (n r : ℕ) → left_cost (suc n) r ≡ suc (body_cost most r) + left_cost n r
unfolding left_cost
left_step n r = refl

-- one call: its other clauses, and the body of the first
pub called_cost : (n k s r w : ℕ) → n ≤ most → k ≤ most → s + r ≤ w → s + left_cost n r + body_cost k r ≤ w + left_cost (suc most) w
called_cost n k s r w few below less =
    let a = left_higher most n r few in
    let b = left_more most r w (omega (arith, less)) in
    let c = cost_higher most k r below in
    let d = cost_more most r w (omega (arith, less)) in
    let e = left_step most w in
    omega (arith, a, b, c, d, e, less)
