-- What unifying a goal with the head of a clause makes of a store (ISO/IEC 13211-1:1995, 7.7.10).
use Rattle.std.specs.Prelude.{◌≡◌, ℕ, ◌+◌, ◌<◌, List, length, ◌≤◌, slice_index_or, Bool, true, false}
use Rattle.std.specs.List.{All}
use Rattle.iso_model.specs.Terms.Trees.{Tree}
use Rattle.iso_model.specs.Terms.Substitutions.{Subst, apply}
use Rattle.iso_model.specs.Terms.Unifiers.{Unifier, NeverEqual}
use Rattle.iso_model.specs.Terms.Copies.{renamed}
use Rattle.iso_store_core.specs.Presents.{Present, Holds, meaning, KeepsWords}

-- the head with new variables, under the bindings
abbrev pub new_head : {W : Type 0} → Present W → Tree → Tree
new_head p head = apply p.substitution (renamed p.next head)

-- From p to q the goal and the head were unified. The clause's variables are numbered from the next number on, so
-- many, and these words have their values; a value may be a word that stood before. Each word that stood, and each
-- number that isn't used, has its value under the unifier.
pub record MeetsHead {W : Type 0} (p q : Present W) (goal : W) (head : Tree) (count : ℕ) (words : List W) : Type 0 where
  pub unifier : Subst
  pub is : Unifier (meaning p goal) (new_head p head) unifier
  pub values : (w : W) → Holds p w → meaning q w ≡ apply unifier (meaning p w)
  pub beyond : (n : ℕ) → q.next ≤ n → q.substitution n ≡ apply unifier (p.substitution n)
  pub next : q.next ≡ p.next + count
  pub keeps : KeepsWords p q
  pub many : length words ≡ count
  pub hold : All (Holds q) words
  pub variables : (k : ℕ) (d : W) → k < length words → meaning q (slice_index_or words k d) ≡ apply unifier (p.substitution (p.next + k))

-- What the answer says: the two were unified, and these are the words; or nothing makes them equal.
abbrev pub IsHeadMet : {W : Type 0} → Present W → Present W → W → Tree → ℕ → List W → Bool → Type 0
IsHeadMet p q goal head count words true = MeetsHead p q goal head count words
IsHeadMet p q goal head count words false = NeverEqual (meaning p goal) (new_head p head)
