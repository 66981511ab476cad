-- What a step pays for, where this much was to be done before it.
use Rattle.std.proofs.Common.{◌≡◌, ◌<◌, ◌≤◌, ◌+◌, ℕ, zero, suc, arith}
use Rattle.iso_search_core.specs.declared.lists.Lists as lists
use Rattle.iso_search_core.specs.Bodies.{body_cost, left_cost, most, whole_cost}
use Rattle.iso_search.specs.EngineStates.{cost, weight}
use Rattle.iso_search.specs.declared.search.Search.{Search}
use Rattle.iso_search_core.proofs.BodyCosts.{cost_above, cost_more, left_higher, left_more, left_step, called_cost, some_most, whole_paid}

-- twice as much behind a body is at most twice as much in all
pub cost_double : (k x : ℕ) → body_cost k (x + x) ≤ body_cost k x + body_cost k x
unfolding body_cost
cost_double zero x = omega arith
cost_double (suc k) x =
    let inner = cost_double k x in
    let first = cost_more k (body_cost k (x + x) + 2) ((body_cost k x + 2) + (body_cost k x + 2)) (omega (arith, inner)) in
    let second = cost_double k (body_cost k x + 2) in
    omega (arith, inner, first, second)

-- a step is worth two bodies
two_bodies : (w : ℕ) → body_cost most w + body_cost most w + 2 ≤ left_cost (suc most) w
two_bodies w =
    let a = left_step most w in
    let b = left_higher most 1 w some_most in
    let c = left_step 0 w in
    omega (arith, a, b, c)

-- it pays for this much
abbrev pub Pays : ℕ → ℕ → Type 0
Pays w v = v ≤ w + left_cost (suc most) w

-- a body before this list
pub pays_body : (c r w : ℕ) → c + r ≤ w → Pays w (c + body_cost most r)
pays_body c r w less = let h = called_cost 0 most c r w (omega arith) (omega arith) less in omega (arith, h)

-- an alternative, and a body before up to two members more
pub pays_choice : (c r w : ℕ) → c + r + 1 ≤ w → Pays w (c + suc r + body_cost most (2 + r))
pays_choice c r w less =
    let two = two_bodies w in
    let grown = cost_more most (2 + r) (w + w) (omega (arith, less)) in
    let double = cost_double most w in
    omega (arith, two, grown, double, less)

-- an alternative, and the list again
pub pays_again : (c r w : ℕ) → c + r + 1 ≤ w → Pays w (c + suc r + r)
pays_again c r w less =
    let a = left_step most w in
    let b = cost_above most w in
    omega (arith, a, b, less)

pub pays_found : (c r w : ℕ) → c + r + 1 ≤ w → Pays w (c + suc r + body_cost most (1 + r))
pays_found c r w less =
    let h = pays_choice c r w less in
    let fewer = cost_more most (1 + r) (2 + r) (omega arith) in
    omega (arith, h, fewer)

-- groups that are left, and a body before one member more
pub pays_groups : (c r w : ℕ) → c + r + 1 ≤ w → Pays w (c + left_cost most r + body_cost most (1 + r))
pays_groups c r w less =
    let h = called_cost most most c (1 + r) w (omega arith) (omega arith) (omega (arith, less)) in
    let fewer = left_more most r (1 + r) (omega arith) in
    omega (arith, h, fewer)

-- the same of numbers that are equal to these
pub pays_found_as : (c r k q w : ℕ) → k ≡ c + suc r → q ≡ r → c + r + 1 ≤ w → Pays w (k + body_cost most (1 + q))
pays_found_as c r k q w all same less = rw (all, same) (pays_found c r w less)

pub pays_groups_as : (c r k q w : ℕ) → k ≡ c + left_cost most r → q ≡ r → c + r + 1 ≤ w → Pays w (k + body_cost most (1 + q))
pays_groups_as c r k q w all same less = rw (all, same) (pays_groups c r w less)

pub pays_choice_as : (c r k q w : ℕ) → k ≡ c + suc r → q ≡ r → c + r + 1 ≤ w → Pays w (k + body_cost most (2 + q))
pays_choice_as c r k q w all same less = rw (all, same) (pays_choice c r w less)

pub pays_again_as : (c r k q w : ℕ) → k ≡ c + suc r → q ≡ r → c + r + 1 ≤ w → Pays w (k + q)
pays_again_as c r k q w all same less = rw (all, same) (pays_again c r w less)

module _ {S L W M K P C N B O : Type 0} (l : lists.Ghosts L S K P C N B O W M) where
  pub paid : (e new : Search S L W M K P C N B O) (w v : ℕ) → new.steps ≡ e.steps → cost l new ≤ v → Pays w v → weight l new < whole_cost (suc e.steps) w
  paid e new w v steps less pays = rw steps (whole_paid e.steps w (cost l new) (omega (arith, less, pays)))
