-- Substitutions (ISO/IEC 13211-1:1995, 7.3.1).
use Rattle.std.specs.Prelude.{◌≡◌, ◌≢◌, ℕ, ◌≤◌, ◌==◌, IsFalse, if◌then◌else◌}
use Rattle.iso_model.specs.Terms.Trees.{Tree, Variable, Integer, Name, Apply, End, More}
use Rattle.iso_model.specs.Terms.Variables.{occurs}

-- The term that each variable stands for. A variable that stands for itself is not bound.
abbrev pub Subst : Type 0
Subst = ℕ → Tree

-- the term with its variables replaced
abbrev pub apply : Subst → Tree → Tree
apply s (Variable n) = s n
apply s (Integer z) = Integer z
apply s (Name a) = Name a
apply s (Apply f ts) = Apply f (apply s ts)
apply s End = End
apply s (More t ts) = More (apply s t) (apply s ts)

-- first s and then t
abbrev pub compose : Subst → Subst → Subst
compose s t n = apply t (s n)

-- t goes on from s: it makes of each variable what it makes of the term that s gives to the variable
abbrev pub Extends : Subst → Subst → Type 0
Extends s t = (n : ℕ) → apply t (s n) ≡ t n

-- only variable x is bound, to t
abbrev pub single : ℕ → Tree → Subst
single x t n = if n == x then t else Variable n

-- a variable that stands for another variable stands for an older one
abbrev pub BindsToOlder : Subst → Type 0
BindsToOlder s = (n m : ℕ) → s n ≡ Variable m → m ≤ n

-- A substitution binds finitely many variables, and none of its terms has a variable that it binds: it is idempotent.
pub record IsSubstitution (s : Subst) : Type 0 where
  pub finite : (k : ℕ) × ((n : ℕ) → k ≤ n → s n ≡ Variable n)
  pub idempotent : (n m : ℕ) → s n ≢ Variable n → IsFalse (occurs n (s m))
