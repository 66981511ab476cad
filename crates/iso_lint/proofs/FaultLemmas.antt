-- Faults, put together, and the boundary at which they show.
use Rattle.std.proofs.Common.{◌≡◌, ◌≤◌, ◌+◌, ℕ, Bool, List, Option, map, take, length, ap, subst, ◌∙◌, arith}
use Rattle.std.proofs.lemmas.List.{length-map}
use Rattle.iso_model.specs.Syntax.Token.{Shown}
use Rattle.iso_token.specs.declared.kinds.Token.{Token}
use Rattle.iso_token.specs.Shows.{shown}
use Rattle.iso_lint_core.specs.declared.settings.Settings.{Settings}
use Rattle.iso_lint.specs.Completions.{begins_clause}
use Rattle.iso_lint.specs.Boundaries.{boundary_from}
use Rattle.iso_lint.specs.Faults.{Fault, Expected, begin_boundary}

pub fault_is : (a b : ℕ) (t u : Option Shown) (m n : Bool) (e f : Expected) → a ≡ b → t ≡ u → m ≡ n → e ≡ f
    → (let x : Fault = record { start = a; token = t; ended = m; expected = e } in x) ≡ (let y : Fault = record { start = b; token = u; ended = n; expected = f } in y)
fault_is a b t u m n e f p q o r = λ i. record { start = p i; token = q i; ended = o i; expected = r i }

pub boundary_known : (s : Settings) (xs items : List Token) (k : ℕ) → xs ≡ items
    → ((turns : ℕ) → length xs + 1 ≤ 0 + turns → k ≡ boundary_from turns (λ n. begins_clause s (take n (map shown xs))) 0 (length xs + 1))
    → k ≡ begin_boundary s (map shown items)
boundary_known s xs items k is h =
    let p : ℕ → Bool = λ n. begins_clause s (take n (map shown xs)) in
    let most = length (map shown xs) + 1 in
    let same : length xs + 1 ≡ most = omega (arith, length-map xs shown) in
    subst (λ ys. k ≡ begin_boundary s (map shown ys)) is (h most (omega arith) ∙ ap (boundary_from most p 0) same)
