-- What variables stand for once terms are put in for those that are bound, round by round.
use Rattle.std.specs.Prelude.{◌≡◌, ℕ, zero, suc, Option, Some, None, Bool, true, false}
use Rattle.iso_model.specs.Terms.Trees.{Tree, Variable}
use Rattle.iso_model.specs.Terms.Variables.{occurs}
use Rattle.iso_model.specs.Terms.Substitutions.{Subst, apply}

-- the term that a variable is bound to, or itself
abbrev pub bound_or_itself : ℕ → Option Tree → Tree
bound_or_itself n None = Variable n
bound_or_itself n (Some t) = t

abbrev pub is_bound : Option Tree → Bool
is_bound None = false
is_bound (Some t) = true

-- where these are the bindings
module _ (b : ℕ → Option Tree) where
  abbrev pub one_round : Subst
  one_round n = bound_or_itself n (b n)

  abbrev pub rounds : ℕ → Subst
  rounds zero n = Variable n
  rounds (suc k) n = apply (rounds k) (one_round n)

  -- so many rounds are enough for the variable
  abbrev pub Settles : ℕ → ℕ → Type 0
  Settles zero n = is_bound (b n) ≡ false
  Settles (suc k) n = (t : Tree) → b n ≡ Some t → (m : ℕ) → occurs m t ≡ true → Settles k m

-- so many rounds more
abbrev pub then_rounds : ℕ → ℕ → ℕ
then_rounds zero j = j
then_rounds (suc k) j = suc (then_rounds k j)

-- as many rounds as are enough for so many bindings
abbrev pub rounds_for : ℕ → ℕ
rounds_for zero = zero
rounds_for (suc k) = then_rounds (rounds_for k) (suc (rounds_for k))
