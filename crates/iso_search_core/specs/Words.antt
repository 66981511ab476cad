-- Words that come to a store: for variables, and by their places.
use Rattle.std.specs.Prelude.{◌≡◌, ◌+◌, ℕ, List, [], ◌∷◌, map, true}
use Rattle.iso_model.specs.Terms.Trees.{Variable}
use Rattle.iso_model.specs.Terms.Substitutions.{Subst}
use Rattle.iso_store_core.specs.Presents.{Present, KeepsWords}
use Rattle.iso_store_core.specs.Patterns.{at_places}

-- Words and numbers come, no binding changes.
pub record Extends {W : Type 0} (p q : Present W) (count : ℕ) : Type 0 where
  pub words : KeepsWords p q
  pub substitution : q.substitution ≡ p.substitution
  pub next : q.next ≡ p.next + count

-- the terms of the words, by their places
abbrev pub word_terms : {W : Type 0} → Present W → List W → Subst
word_terms p ws = at_places (map p.term ws)

-- These words are the variables of these numbers.
pub data AreVariables {W : Type 0} (p : Present W) : List W → List ℕ → Type 0 where
  no_word : AreVariables p [] []
  one_word : {w : W} {ws : List W} {n : ℕ} {ns : List ℕ} → p.holds w ≡ true → p.term w ≡ Variable n → AreVariables p ws ns → AreVariables p (w ∷ ws) (n ∷ ns)
