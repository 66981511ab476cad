-- Variables of one kind: terms that have no others, and substitutions that put no others in for them.
use Rattle.std.proofs.Common.{◌≡◌, ℕ, suc, ◌<◌, List, [], ◌∷◌, length, get_or, true, sym, arith, inl, inr}
use Rattle.std.proofs.lemmas.Bool.{false≢true, or_cases, eqb-true, cases_eq}
use Rattle.iso_model.specs.Terms.Trees.{Tree, Variable, End, row}
use Rattle.iso_model.specs.Terms.Variables.{occurs}
use Rattle.iso_model.specs.Terms.Substitutions.{Subst, apply, single}
use Rattle.iso_model.specs.Terms.Unification.Applied.{occurs_from, single_at, single_other}

-- where Kind says which variables are of the kind
module _ (Kind : ℕ → Type 0) where
  -- all variables of the term are
  abbrev pub Inside : Tree → Type 0
  Inside t = (y : ℕ) → occurs y t ≡ true → Kind y

  -- and all variables of what these are bound to
  abbrev pub Keeps : Subst → Type 0
  Keeps s = (m : ℕ) → Kind m → Inside (s m)

  pub inside-variable : (m : ℕ) → Kind m → Inside (Variable m)
  inside-variable m kind y h = rw (sym (eqb-true m y h)) kind

  pub inside-row : (us : List Tree) → ((k : ℕ) → k < length us → Inside (get_or us k End)) → Inside (row us)
  inside-row [] each y h = absurd (false≢true h)
  inside-row (u ∷ us) each y h =
      elim (or_cases (occurs y u) (occurs y (row us)) h) [
        | inl first ↦ each 0 (omega arith) y first
        | inr later ↦ inside-row us (λ k below. each (suc k) (omega arith)) y later
      ]

  pub inside-applied : (s : Subst) (t : Tree) → Keeps s → Inside t → Inside (apply s t)
  inside-applied s t keeps inside y h =
      let from = occurs_from s t y h in
      keeps from.0 (inside from.0 from.1) y from.2

  pub keeps-single : (x : ℕ) (r : Tree) → (Kind x → Inside r) → Keeps (single x r)
  keeps-single x r inside m kind =
      elim (cases_eq m x) [
        | inl same ↦ rw (single_at x m r same) (inside (rw (sym same) kind))
        | inr other ↦ rw (single_other x m r other) (inside-variable m kind)
      ]
