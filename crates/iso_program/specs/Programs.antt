-- The database as it is kept: by the keys of procedures, whatever order they are kept in.
use Rattle.std.specs.Prelude.{◌≡◌, ◌<◌, ℕ, List, [], ◌∷◌, false, Option, Some, None, if◌then◌else◌}
use Rattle.std.specs.List.{slice_get}
use Rattle.std.specs.Option.{option_and_then}
use Rattle.iso_model.specs.Search.Databases as databases
use Rattle.iso_model.specs.Search.Databases.{Key, Procedures, same_key}
use Rattle.iso_db.specs.Databases.{Database, Procedure, place_in, has_in}
use Rattle.iso_db.specs.Databases as db
use Rattle.iso_db.specs.declared.kinds.Kind.{Kind}
use Rattle.iso_db.specs.declared.kinds.Kind.TheVariants as kind
use Rattle.iso_program.specs.declared.clauses.Clause.{Clause}
use Rattle.iso_program.specs.Kept.{Keeping, IsClause}

-- the clauses are kept in their order, under their numbers
pub data AreClauses {C : Type 0} (keeps : Keeping C) (names : List (List ℕ))
    : List (db.Clause (Clause C)) → List databases.Clause → Type 0 where
  no_clauses : AreClauses keeps names [] []
  more_clauses : {k : db.Clause (Clause C)} {c : databases.Clause} {ks : List (db.Clause (Clause C))}
      {cs : List databases.Clause} → c.number ≡ k.number → IsClause keeps names k.value c
      → AreClauses keeps names ks cs → AreClauses keeps names (k ∷ ks) (c ∷ cs)

-- the same kind of procedure
abbrev pub IsKind : Kind → databases.Kind → Type 0
IsKind kind.Static databases.Static = Unit {0}
IsKind kind.Static databases.Dynamic = ⊥
IsKind kind.Dynamic databases.Static = ⊥
IsKind kind.Dynamic databases.Dynamic = Unit {0}

-- a procedure that is there is one of the language with these clauses; one that is absent is none, and has no clauses
abbrev pub IsProcedure : {C : Type 0} → Keeping C → List (List ℕ) → Option Kind → List (db.Clause (Clause C))
    → Option databases.Procedure → Type 0
IsProcedure keeps names None ks None = ks ≡ []
IsProcedure keeps names None ks (Some p) = ⊥
IsProcedure keeps names (Some k) ks None = ⊥
IsProcedure keeps names (Some k) ks (Some p) = IsKind k p.kind × AreClauses keeps names ks p.clauses

-- the procedure with this key
abbrev pub procedure_with : Procedures → Key → Option databases.Procedure
procedure_with [] k = None
procedure_with (p ∷ ps) k = if same_key p.key k then Some p else procedure_with ps k

-- the place of the procedure with this key
abbrev pub place_at : {X : Type 0} → Database X → Key → Option ℕ
place_at d k = place_in d k.name k.arity

-- what is kept under this key
abbrev pub kept_at : {X : Type 0} → Database X → Key → Option (Procedure X)
kept_at d k = option_and_then (slice_get d.procedures) (place_at d k)

abbrev pub kind_of : {X : Type 0} → Option (Procedure X) → Option Kind
kind_of o = option_and_then (λ p. p.kind) o

-- Each of these clauses has a number of its own, below this one.
abbrev pub AreNumbered : {X : Type 0} → ℕ → List (db.Clause X) → Type 0
AreNumbered added [] = Unit {0}
AreNumbered added (k ∷ ks) = (k.number < added) × (has_in ks k.number ≡ false) × AreNumbered added ks

-- each procedure is kept, its clauses have numbers of their own, and as many clauses were added
pub record IsDatabase {C : Type 0} (keeps : Keeping C) (names : List (List ℕ)) (d : Database (Clause C))
    (m : databases.Database) : Type 0 where
  pub procedures : (k : Key) → IsProcedure keeps names (kind_of (kept_at d k)) (db.clauses_of (kept_at d k))
      (procedure_with m.procedures k)
  pub numbers : (k : Key) → AreNumbered d.added (db.clauses_of (kept_at d k))
  pub added : d.added ≡ m.added
