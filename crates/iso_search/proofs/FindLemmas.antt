-- Passing a list up to the end of a catch that catches a thrown ball.
use Rattle.iso_program.specs.Leaving.{Leaving}
use Rattle.iso_store_core.specs.Presents.{Present}
use Rattle.iso_search_core.specs.Standing.{StandsForChoices}
use Rattle.iso_model.specs.Terms.Trees.{Tree}
use Rattle.std.proofs.Common.{◌≡◌, ℕ, zero, suc, ◌≤◌, List, [], ◌∷◌, ◌++◌, length, Option, Some, None, refl, ap, ◌∙◌, arith}
use Rattle.std.specs.List.{slice_get}
use Rattle.iso_model.specs.Search.Walker.{State, Alternative, Member, Leave, Left, caught_at, caught, thrown}
use Rattle.iso_search_core.specs.declared.lists.Lists as lists
use Rattle.iso_search_core.specs.declared.choices.Choice as kept
use Rattle.iso_search_core.specs.Keeping.{NoLeave, Passes}
use Rattle.iso_search_core.specs.declared.ends.Past.{Past}
use Rattle.iso_search_core.proofs.StandingLemmas.{choices_length}
use Rattle.iso_search.specs.Catches.{GoesTo, IsCatchAt}
use Rattle.iso_search.proofs.ThrowLemmas.{at_height, entry_catches, other_passes, caught_above}

nothing_there : {X : Type 0} (xs : List X) (i : ℕ) → slice_get xs i ≡ None → length xs ≤ i
nothing_there [] i h = omega arith
nothing_there (x ∷ xs) zero h = absurd (cc)
nothing_there (x ∷ xs) (suc i) h = let less = nothing_there xs i h in omega (arith, less)

-- members that are no ends of catches are passed
pub front_passes : (ball : Tree) (s : State) (front rest : List Member) → NoLeave front → thrown ball (front ++ rest) s ≡ thrown ball rest s
front_passes ball s [] rest none = refl
front_passes ball s (Leave height ∷ ms) rest none = absurd none
front_passes ball s (m ∷ ms) rest none = front_passes ball s ms rest none

module _ {P : Type 0} {behind : P → List Member → Type 0} {ms : List Member} {past : Past P} (h : Passes behind ms past) (ball : Tree) (s : State) where
  -- no end of a catch was passed
  pub behind_none : past.leave ≡ None → thrown ball ms s ≡ thrown ball h.rest s
  behind_none none = ap (λ (xs : List Member). thrown ball xs s) (rw none at h.is) ∙ front_passes ball s h.front h.rest h.none

  -- one was
  pub behind_end : (height : ℕ) → past.leave ≡ Some height → thrown ball ms s ≡ thrown ball (Leave height ∷ h.rest) s
  behind_end height some = ap (λ (xs : List Member). thrown ball xs s) (rw some at h.is) ∙ front_passes ball s h.front (Leave height ∷ h.rest) h.none

module _ {S L W M K P C N B O : Type 0} (l : lists.Ghosts L S K P C N B O W M) {stands : M → Present W → Type 0} {older : M → M → Type 0} {base : M} {leaves : Leaving} {query : List W} {named : List ℕ} {fitting : Present W → ℕ → Alternative → Type 0} {held : L} where
  -- an end whose choice catches nothing, or is none
  pub end_passes : {cs : List (kept.Choice W M K P C)} (height : ℕ) (ball : Tree) (ms : List Member) (s : State)
      → StandsForChoices l stands older base leaves query named fitting held cs s.stack → (IsCatchAt cs height → ⊥) → thrown ball (Leave height ∷ ms) s ≡ thrown ball ms s
  end_passes {cs = cs} height ball ms s are none = by_choice (slice_get cs height) refl where
    by_choice : (o : Option (kept.Choice W M K P C)) → slice_get cs height ≡ o → caught height s.stack ball s (thrown ball ms s) ≡ thrown ball ms s
    by_choice None there =
        let many = choices_length l are in
        let above = nothing_there cs height there in
        caught_above height s.stack ball s (thrown ball ms s) (omega (arith, many, above))
    by_choice (Some c) there =
        let h = at_height l height c there are in
        h.caught_is ball s (thrown ball ms s) ∙ other_passes c.left h (λ entry. none (record { choice = c; stands = there; entry = entry })) ball s (thrown ball ms s)

  -- one whose choice is the entry of a catch
  pub end_catches : {cs : List (kept.Choice W M K P C)} (height : ℕ) (ball : Tree) (ms : List Member) (s : State)
      → StandsForChoices l stands older base leaves query named fitting held cs s.stack → IsCatchAt cs height → GoesTo ball (Leave height ∷ ms) s height
  end_catches height ball ms s are end =
      let h = at_height l height end.choice end.stands are in
      let e = entry_catches end.choice.left h end.entry in
      record {
        alternative = h.alternative;
        below = h.below;
        catcher = e.0;
        recovery = e.1;
        stack = h.stack;
        height_is = h.height_is;
        within = h.within;
        left = e.2;
        goes = h.caught_is ball s (thrown ball ms s) ∙ ap (λ (x : Left). caught_at x h.alternative h.below ball s (thrown ball ms s)) e.2;
      }

-- the ball goes where it would go past further members that it passes
pub goes_past : (ball : Tree) (behind ms : List Member) (s : State) (height : ℕ) → thrown ball behind s ≡ thrown ball ms s → GoesTo ball ms s height → GoesTo ball behind s height
goes_past ball behind ms s height same g = record { alternative = g.alternative; below = g.below; catcher = g.catcher; recovery = g.recovery; stack = g.stack; height_is = g.height_is; within = g.within; left = g.left; goes = same ∙ g.goes }
