-- Places of variables in a list.
use Rattle.std.proofs.Common.{◌≡◌, ℕ, ◌+◌, ◌<◌, List, [], ◌∷◌, length, true, refl, arith, inl, inr}
use Rattle.std.proofs.lemmas.Bool.{eq-eqb, ne_eqb, cases_eq, false≢true}
use Rattle.iso_model.specs.Terms.Variables.{is_in}
use Rattle.iso_model.specs.Terms.Copies.{place_of}

-- the place is among so many
pub place-within : (vs : List ℕ) (x : ℕ) → is_in x vs ≡ true → place_of x vs < length vs
place-within [] x h = absurd (false≢true h)
place-within (v ∷ vs) x h =
    elim (cases_eq v x) [
      | inl e ↦ let first : place_of x (v ∷ vs) ≡ 0 = rw (eq-eqb v x e) refl in omega arith
      | inr other ↦
          let later : place_of x (v ∷ vs) ≡ 1 + place_of x vs = rw (ne_eqb v x other) refl in
          let inside : is_in x vs ≡ true = rw (ne_eqb v x other) at h in
          let below = place-within vs x inside in
          omega arith
    ]
