-- The database: procedures with their clauses (ISO/IEC 13211-1:1995, 7.5).
use Rattle.std.specs.Prelude.{ℕ, List, [], ◌∷◌, ◌++◌, Bool, true, false, not, ◌==◌, Option, Some, None, unwrap_or, if◌then◌else◌}
use Rattle.std.specs.List.{list_any, filter}
use Rattle.iso_model.specs.Terms.Trees.{Tree}
use Rattle.iso_model.specs.Search.Bodies.{Body}
pub use Rattle.iso_model.specs.Search.Keys.{Key, key, key_of, same_key}

-- A clause: a number of its own, its head, its converted body, and how many variables it has. They are 0, 1, .. by
-- first occurrence.
pub record Clause : Type 0 where
  pub number : ℕ
  pub head : Tree
  pub body : Body
  pub variables : ℕ

-- which procedures there are: those of a text are static, those that goals make or declare are dynamic (7.5.2)
pub data Kind : Type 0 where
  Static : Kind
  Dynamic : Kind

-- a user procedure with its clauses in order
pub record Procedure : Type 0 where
  pub key : Key
  pub kind : Kind
  pub clauses : List Clause

abbrev pub Procedures : Type 0
Procedures = List Procedure

-- the procedures, and how many clauses were ever added: the number of the next one
pub record Database : Type 0 where
  pub procedures : Procedures
  pub added : ℕ

-- no procedure
abbrev pub no_clauses : Database
no_clauses = record { procedures = []; added = 0 }

-- the clauses of the procedure with this key, where there is one
abbrev pub clauses_at : Procedures → Key → Option (List Clause)
clauses_at [] k = None
clauses_at (p ∷ ps) k = if same_key p.key k then Some p.clauses else clauses_at ps k

-- its kind
abbrev pub kind_at : Procedures → Key → Option Kind
kind_at [] k = None
kind_at (p ∷ ps) k = if same_key p.key k then Some p.kind else kind_at ps k

abbrev pub is_static : Option Kind → Bool
is_static None = false
is_static (Some Static) = true
is_static (Some Dynamic) = false

-- where a clause that is added comes among those of its procedure
abbrev pub Place : Type 0
Place = Clause → List Clause → List Clause

abbrev pub at_front : Place
at_front c cs = c ∷ cs

abbrev pub at_end : Place
at_end c cs = cs ++ c ∷ []

-- The procedures with this made of the clauses of the one with this key, which is made, with this kind, where there
-- is none.
abbrev pub with_clauses : (List Clause → List Clause) → Kind → Procedures → Key → Procedures
with_clauses change kind [] k = record { key = k; kind = kind; clauses = change [] } ∷ []
with_clauses change kind (p ∷ ps) k = if same_key p.key k then record p { clauses = change p.clauses } ∷ ps else p ∷ with_clauses change kind ps k

-- the clause added to its procedure
abbrev pub with_clause : Place → Kind → Procedures → Key → Clause → Procedures
with_clause place kind ps k c = with_clauses (place c) kind ps k

-- the procedure declared as dynamic: it is made where there is none
abbrev pub with_declared : Procedures → Key → Procedures
with_declared ps k = with_clauses (λ cs. cs) Dynamic ps k

-- without the procedure
abbrev pub without_procedure : Procedures → Key → Procedures
without_procedure ps k = filter (λ p. not (same_key p.key k)) ps

-- without the clause of this number
abbrev pub without_number : ℕ → List Clause → List Clause
without_number n cs = filter (λ c. not (c.number == n)) cs

-- so in the procedure with this key
abbrev pub without_clause : Procedures → Key → ℕ → Procedures
without_clause [] k n = []
without_clause (p ∷ ps) k n = if same_key p.key k then record p { clauses = without_number n p.clauses } ∷ ps else p ∷ without_clause ps k n

-- whether the procedure with this key has the clause of this number
abbrev pub has_clause : Procedures → Key → ℕ → Bool
has_clause ps k n = list_any (λ c. c.number == n) (unwrap_or (clauses_at ps k) [])
