-- What is left to do of making two terms equal.
use Rattle.std.specs.Prelude.{◌≡◌, ℕ, ◌+◌, ◌*◌, ◌<◌, List, [], ◌∷◌, ◌++◌, length, map, Some}
use Rattle.std.specs.List.{All}
use Rattle.iso_model.specs.Terms.Trees.{Tree, Apply, row}
use Rattle.iso_model.specs.Terms.Substitutions.{Subst, apply, compose}
use Rattle.iso_model.specs.Terms.Unifiers.{Unifier, NeverEqual}
use Rattle.iso_store.specs.declared.notes.Notes.{Notes}
use Rattle.iso_store.specs.declared.unify.Task.{Task}
use Rattle.iso_store.specs.declared.unify.Task.TheVariants.{Arguments, Join}
use Rattle.iso_store_core.specs.Presents.{Present, Holds, meaning, Binds}
use Rattle.iso_store_core.specs.Arguments.{arguments_from}
use Rattle.iso_store.specs.Notes.{noted}

-- the substitution makes the terms equal, each the one at its place
abbrev pub MakesEqual : Subst → List Tree → List Tree → Type 0
MakesEqual s us vs = apply s (row us) ≡ apply s (row vs)

-- The terms us and vs are made equal by binding r, and then by making cs and ds equal.
pub record LeftBy (us vs cs ds : List Tree) (r : Subst) : Type 0 where
  pub unifier : (t : Subst) → Unifier (row cs) (row ds) t → Unifier (row us) (row vs) (compose r t)
  pub never : NeverEqual (row cs) (row ds) → NeverEqual (row us) (row vs)

-- A number for lists of terms that are to be made equal: it falls where the first two are equal under what is bound,
-- and where the arguments of the first two come in their place.
pub record Measures (m : List Tree → List Tree → ℕ) : Type 0 where
  pub solved : (a b : Tree) (cs ds : List Tree) (s : Subst) → Unifier a b s → m (map (apply s) cs) (map (apply s) ds) < m (a ∷ cs) (b ∷ ds)
  pub opened : (f : List ℕ) (us vs cs ds : List Tree) → length us ≡ length vs → m (us ++ cs) (vs ++ ds) < m (Apply f (row us) ∷ cs) (Apply f (row vs) ∷ ds)

-- a compound of so many arguments
abbrev pub IsCompound : ℕ → Tree → Type 0
IsCompound n t = (f : List ℕ) × (ts : List Tree) × (t ≡ Apply f (row ts)) × (length ts ≡ n)

-- in a store that is so
module _ {W : Type 0} (p : Present W) where
  -- the words of the task stand for what it says
  abbrev pub IsPair : Task W → Type 0
  IsPair (Arguments one other index count) = Holds p one × Holds p other × (index < count) × IsCompound count (meaning p one) × IsCompound count (meaning p other)
  IsPair (Join one other) = Holds p one × Holds p other

  -- The terms that are to be made equal, the next one first: these come before those of the tasks, on the one side or
  -- the other.
  abbrev pub terms : (W → W → W) → List Tree → List (Task W) → List Tree
  terms side now [] = now
  terms side now (Arguments one other index count ∷ tasks) = terms side now tasks ++ arguments_from index (meaning p (side one other))
  terms side now (Join one other ∷ tasks) = terms side now tasks

  abbrev pub ones : List Tree → List (Task W) → List Tree
  ones now tasks = terms (λ one other. one) now tasks

  abbrev pub others : List Tree → List (Task W) → List Tree
  others now tasks = terms (λ one other. other) now tasks

  -- where all that comes before a join is equal, the words of the join stand for equal terms
  abbrev pub AreSound : List Tree → List Tree → List (Task W) → Type 0
  AreSound us vs [] = Unit {0}
  AreSound us vs (Arguments one other index count ∷ tasks) = AreSound us vs tasks
  AreSound us vs (Join one other ∷ tasks) =
      ((s : Subst) → MakesEqual s (ones us tasks) (others vs tasks) → apply s (meaning p one) ≡ apply s (meaning p other)) × AreSound us vs tasks

  -- each word that is noted stands for the term at its place
  abbrev pub AreJoined : (ℕ → Tree) → Notes W → Type 0
  AreJoined at joined = (k : ℕ) (w : W) → noted joined k ≡ Some w → Holds p w × (meaning p w ≡ at k)

  -- What is true before us and vs are made equal, and what the tasks say.
  pub record Stands (at : ℕ → Tree) (joined : Notes W) (us vs : List Tree) (tasks : List (Task W)) : Type 0 where
    pub pairs : All IsPair tasks
    pub sound : AreSound us vs tasks
    pub joins : AreJoined at joined

-- A step from p to q: it binds something, and of us, vs and the old tasks the new tasks are left, which are less to do.
pub record Steps {W : Type 0} (p q : Present W) (us vs : List Tree) (old new : List (Task W)) : Type 0 where
  pub bound : (s : Subst) × LeftBy (ones p us old) (others p vs old) (ones q [] new) (others q [] new) s × Binds p q s
  pub falls : (m : List Tree → List Tree → ℕ) → Measures m → 3 * m (ones q [] new) (others q [] new) + length new < 3 * m (ones p us old) (others p vs old) + length old
