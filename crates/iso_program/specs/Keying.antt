-- The keys that the database has of its clauses, and what stands on while it changes (ISO/IEC 13211-1:1995, 7.5.4).
use Rattle.std.specs.Prelude.{◌<◌, ◌≤◌, ℕ, List, [], ◌∷◌, Option}
use Rattle.iso_db.specs.Databases as db
use Rattle.iso_db.specs.Databases.{Database}
use Rattle.iso_db.specs.Presents.{contents, key_in, KeepsClauses, KeepsIndex}
use Rattle.iso_db.specs.declared.db.Db.{Db}
use Rattle.iso_db.specs.Fits.{FirstKey}
use Rattle.iso_program.specs.declared.clauses.Clause.{Clause}
use Rattle.iso_program.specs.FirstKeys.{IsKeyOf}
use Rattle.iso_program.specs.Heads.{head_parts}

-- The clause is one of so many that were added, and its key is that of its head's first argument.
pub record IsKeyed {C : Type 0} (added : ℕ) (keys : ℕ → Option FirstKey) (k : db.Clause (Clause C)) : Type 0 where
  pub number : k.number < added
  pub key : IsKeyOf (head_parts k.value) (keys k.number)

-- Each of the clauses is.
abbrev pub EachKeyed : {C : Type 0} → ℕ → (ℕ → Option FirstKey) → List (db.Clause (Clause C)) → Type 0
EachKeyed added keys [] = Unit {0}
EachKeyed added keys (k ∷ ks) = IsKeyed added keys k × EachKeyed added keys ks

-- By these keys of their numbers, each clause of each procedure is.
abbrev pub HasKeys : {C : Type 0} → (ℕ → Option FirstKey) → Database (Clause C) → Type 0
HasKeys keys d = (place : ℕ) → EachKeyed d.added keys (db.clauses_at d place)

-- Each clause in the database has the key of its head's first argument.
abbrev pub AreKeyed : {C : Type 0} → Db (Clause C) → Type 0
AreKeyed d = HasKeys (key_in d) (contents d)

-- What stood in the database stands on, whatever was added or removed: what is kept of clauses, their keys, and what
-- views by key give. No number is used again.
pub record Preserves {C : Type 0} (old new : Db (Clause C)) : Type 0 where
  pub added : (contents old).added ≤ (contents new).added
  pub clauses : KeepsClauses old new
  pub index : KeepsIndex old new
  pub keyed : AreKeyed old → AreKeyed new
