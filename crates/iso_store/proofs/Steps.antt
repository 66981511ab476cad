-- A variable and a term that it may be bound to.
use Rattle.std.proofs.Common.{◌≡◌, ℕ, true, false, arith}
use Rattle.iso_model.specs.Terms.Trees.{Tree, Variable}
use Rattle.iso_model.specs.Terms.Variables.{occurs}
use Rattle.iso_model.specs.Terms.Substitutions.{single}
use Rattle.iso_model.specs.Terms.Unifiers.{Unifier, NeverEqual}
use Rattle.iso_model.specs.Terms.Unification.Composed.{unifier_bound, never_occurs}
use Rattle.iso_store.specs.Meetings.{IsYounger}

-- a variable and a term that is no younger variable, in which it does not occur
pub variable_unifier : (x : ℕ) (a b : Tree) → a ≡ Variable x → occurs x b ≡ false → IsYounger x b → Unifier a b (single x b)
variable_unifier x a b is absent younger =
    rw is (unifier_bound x b absent (λ m e. let below = younger m e in omega arith))

pub variable_never : (x : ℕ) (a b : Tree) → a ≡ Variable x → occurs x b ≡ true → IsYounger x b → NeverEqual a b
variable_never x a b is inside younger =
    rw is (never_occurs x b inside (λ e. let below = younger x e in omega arith))
