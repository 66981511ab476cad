-- The worked load of `f(X) :- f(g(X)).`, for each budget.
use Rattle.std.proofs.Common.{◌≡◌, ◌≤◌, ℕ, zero, suc, ◌+◌, ◌*◌, ◌<◌, false, [], ◌∷◌, refl, sym, ap, ◌∙◌, subst, codes, arith, eq-eqb, ne_eqb}
use Rattle.iso_model.specs.Terms.Trees.{Tree, Variable, Name, End}
use Rattle.iso_model.specs.Terms.Variables.{occurs}
use Rattle.iso_model.specs.Terms.Substitutions.{Subst, apply, compose, single}
use Rattle.iso_model.specs.Terms.Unifiers.{Unifier}
use Rattle.iso_model.specs.Terms.Unification.Composed.{unifier_same, unifier_sym, unifier_apply, unifier_bound, unifier_more}
use Rattle.iso_model.specs.Search.Bodies.{Run, one}
use Rattle.iso_model.specs.Search.Databases.{Clause}
use Rattle.iso_model.specs.Search.Walker.{State, Goal, Goes, step, asked, charged, run_value}
use Rattle.iso_model.specs.Worked.Loads.{LoadsAtMost, here, growing, GrowthLoads}
use Rattle.iso_model.proofs.Search.CallLemmas.{tried_found}
use Rattle.iso_model.proofs.Search.WorkedSteps.{bounded_ends, both_goes}

abbrev f_of : Tree → Tree
f_of t = one (codes "f") t

abbrev g_of : Tree → Tree
g_of t = one (codes "g") t

abbrev clause : Clause
clause = record { number = 0; head = f_of (Variable 0); body = Run (f_of (g_of (Variable 0))); variables = 1 }

-- a value of the argument: a constant within so many functors
abbrev pub tower : ℕ → Tree
tower zero = Name (codes "a")
tower (suc k) = g_of (tower k)

no_variable : (x k : ℕ) → occurs x (tower k) ≡ false
no_variable x zero = refl
no_variable x (suc k) = rw (no_variable x k) refl

not_variable : (k m : ℕ) → tower k ≡ Variable m → ⊥
not_variable zero m e = cc
not_variable (suc k) m e = cc

tower_same : (s : Subst) (k : ℕ) → apply s (tower k) ≡ tower k
tower_same s zero = refl
tower_same s (suc k) = ap g_of (tower_same s k)

-- the value of the goal's argument is unified with the clause's variable
abbrev binds : ℕ → ℕ → Subst
binds x k = compose (single x (tower k)) Variable

binds_unifier : (x k : ℕ) → Unifier (f_of (tower k)) (f_of (Variable x)) (binds x k)
binds_unifier x k =
    unifier_apply (codes "f")
    (unifier_more (unifier_sym (unifier_bound x (tower k) (no_variable x k) (λ m e. absurd (not_variable k m e)))) (unifier_same End))

bound_here : (x k : ℕ) → binds x k x ≡ tower k
bound_here x k =
    let here : single x (tower k) x ≡ tower k = rw (eq-eqb x x refl) refl in
    ap (apply Variable) here ∙ tower_same Variable k

bound_beyond : (x k y : ℕ) → x < y → binds x k y ≡ Variable y
bound_beyond x k y less =
    let other : single x (tower k) y ≡ Variable y = rw (ne_eqb y x (λ e. absurd (omega arith))) refl in
    ap (apply Variable) other

-- a state with this goal alone
abbrev grown : ℕ → Tree → Subst → ℕ → ℕ → State
grown budget goal r next built =
    record { list = Goal (Run goal) 0 ∷ []; subst = r; next = next; built = built; query = f_of (Name (codes "a")); stack = []; world = asked growing; steps = budget }

-- the numbers from this one on are not used
abbrev IsFree : Subst → ℕ → Type 0
IsFree r next = (x : ℕ) → next ≤ x → r x ≡ Variable x

grows : (n k : ℕ) (goal : Tree) (r : Subst) (next built : ℕ) → apply r goal ≡ f_of (tower k) → IsFree r next
    → step (grown (suc n) goal r next built) ≡ Goes (grown n (f_of (g_of (Variable (next + 0)))) (compose r (binds (next + 0) k)) (next + 1) (built + 5))
unfolding step
grows n k goal r next built value free =
    let s = grown (suc n) goal r next built in
    let x = next + 0 in
    let is : r x ≡ Variable x = free x (omega arith) in
    let unifier : Unifier (f_of (tower k)) (f_of (r x)) (binds x k) = subst (λ (t : Tree). Unifier (f_of (tower k)) (f_of t) (binds x k)) (sym is) (binds_unifier x k) in
    ap (λ (t : Tree). charged n (run_value t [] s)) value ∙ ap (λ (t : State). Goes (record t { steps = n })) (tried_found (f_of (tower k)) clause [] [] s (binds x k) unifier)

pub grown_load : (budget k : ℕ) (goal : Tree) (r : Subst) (next built : ℕ) → apply r goal ≡ f_of (tower k) → IsFree r next → LoadsAtMost (grown budget goal r next built) (built + 3 + budget * 5)
unfolding step
grown_load zero k goal r next built value free = (bounded_ends _ refl (omega arith), (grown zero goal r next built, here, omega arith))
grown_load (suc n) k goal r next built value free =
    let x = next + 0 in
    let later : apply (compose r (binds x k)) (f_of (g_of (Variable x))) ≡ f_of (tower (suc k)) = ap (λ (t : Tree). f_of (g_of t)) (ap (apply (binds x k)) (free x (omega arith)) ∙ bound_here x k) in
    let beyond : IsFree (compose r (binds x k)) (next + 1) = λ y less. ap (apply (binds x k)) (free y (omega (arith, less))) ∙ bound_beyond x k y (omega (arith, less)) in
    let rest = grown_load n (suc k) (f_of (g_of (Variable x))) (compose r (binds x k)) (next + 1) (built + 5) later beyond in
    let same : built + 5 + 3 + n * 5 ≡ built + 3 + suc n * 5 = omega arith in
    both_goes (built + 3 + suc n * 5) (grows n k goal r next built value free) (omega arith) (subst (λ (most : ℕ). LoadsAtMost (grown n (f_of (g_of (Variable x))) (compose r (binds x k)) (next + 1) (built + 5)) most) same rest)

pub growth_load : GrowthLoads
growth_load budget = grown_load budget 0 (f_of (Name (codes "a"))) Variable 0 0 refl (λ x less. refl)
