-- Databases of definite clauses.
use Rattle.std.specs.Prelude.{◌≡◌, ◌⊎◌, ℕ, List, false, IsTrue, Some, codes}
use Rattle.iso_model.specs.Terms.Trees.{Tree, Name}
use Rattle.iso_model.specs.Terms.Sorts.{is_term}
use Rattle.iso_model.specs.Terms.UnifierLaws.{AllBelow}
use Rattle.iso_model.specs.Search.Bodies.{Body, Cut, Run, And, Or, If, Choose}
use Rattle.iso_model.specs.Search.Databases.{Clause, Procedures, Key, key_of, clauses_at}
use Rattle.iso_model.specs.Search.Table.{is_built_in}
use Rattle.iso_logic.specs.Provability.{Among}

-- a goal of a user procedure: neither a variable nor a number, and no built-in or control construct
abbrev pub IsUserGoal : Tree → Type 0
IsUserGoal t = (k : Key) × (key_of t ≡ Some k) × (is_built_in k ≡ false) × IsTrue (is_term t)

-- the body is a conjunction of goals of user procedures, whose variables are below n
abbrev pub AreGoals : ℕ → Body → Type 0
AreGoals n (Run t) = IsUserGoal t × AllBelow n t
AreGoals n (And a b) = AreGoals n a × AreGoals n b
AreGoals n Cut = ⊥
AreGoals n (Or a b) = ⊥
AreGoals n (If a b) = ⊥
AreGoals n (Choose a b c) = ⊥

-- A definite clause of the procedure with this key: its body is `true` or a conjunction of goals of user procedures.
pub record IsDefiniteClause (k : Key) (c : Clause) : Type 0 where
  pub head : key_of c.head ≡ Some k
  pub user : is_built_in k ≡ false
  pub term : IsTrue (is_term c.head)
  pub below : AllBelow c.variables c.head
  pub body : (c.body ≡ Run (Name (codes "true"))) ⊎ AreGoals c.variables c.body

-- all clauses are definite
abbrev pub IsDefinite : Procedures → Type 0
IsDefinite ps = (k : Key) (cs : List Clause) → clauses_at ps k ≡ Some cs → (c : Clause) → Among c cs → IsDefiniteClause k c
