-- What a contract says of a database: its contents, what its views give, and the clauses that can be read by their
-- numbers.
use Rattle.std.specs.Prelude.{◌≡◌, ℕ, ◌<◌, ◌≤◌, ◌^◌, List, Option, Some, length}
use Rattle.std.specs.List.{slice_get}
use Rattle.iso_clauses.specs.Clauses.{Clause}
use Rattle.iso_db.specs.Databases.{Database}
use Rattle.iso_clauses.specs.Slots.{value_at, key_at}
use Rattle.iso_db.specs.Shown.{shown}
use Rattle.iso_clauses.specs.Stepping.{first_number, behind}
use Rattle.iso_db.specs.Keyed.{GivingKeyed, remaining_keyed}
use Rattle.iso_db.specs.declared.keyed.KeyedView.{KeyedView}
use Rattle.iso_clauses.specs.declared.keys.FirstKey.{FirstKey}
use Rattle.iso_db.specs.declared.db.Db.{Db}

module _ {C : Type 0} where
  -- the database as it is
  abbrev pub contents : Db C → Database C
  contents db = record { procedures = shown db.slots.items db.removals db.places db.entries.items; added = length db.slots.items }

  -- this is kept of the clause of this number
  abbrev pub Stands : Db C → ℕ → C → Type 0
  Stands db number value = value_at db.slots.items number ≡ Some value

  -- what is kept of each of these clauses
  abbrev pub EachStands : Db C → List (Clause C) → Type 0
  EachStands db cs = (k : ℕ) (c : Clause C) → slice_get cs k ≡ Some c → Stands db c.number c.value

  -- the key of the clause of this number, if it has one
  abbrev pub key_in : Db C → ℕ → Option FirstKey
  key_in db number = key_at db.slots.items number

  -- the view gives these clauses, in this order (7.5.4)
  abbrev pub GivesKeyed : Db C → KeyedView → List (Clause C) → Type 0
  GivesKeyed db v cs = GivingKeyed db.slots.items db.removals db.entries.items db.lists.items v cs

  -- Of these clauses this one comes first, if there is one, and the view gives those behind it. Each can be read.
  pub record Begins (db : Db C) (cs : List (Clause C)) (first : Option ℕ) (later : KeyedView) : Type 0 where
    pub is : first ≡ first_number cs
    pub rest : GivesKeyed db later (behind cs)
    pub stand : EachStands db cs
    pub few : remaining_keyed later ≤ 2 ^ 65

  -- Clauses keep their keys, and views that stood stand on, for what they gave.
  pub record KeepsIndex (old new : Db C) : Type 0 where
    pub keys : (number : ℕ) → number < length old.slots.items → key_in new number ≡ key_in old number
    pub views : (v : KeyedView) (cs : List (Clause C)) → GivesKeyed old v cs → GivesKeyed new v cs

  -- what is kept of clauses stays
  abbrev pub KeepsClauses : Db C → Db C → Type 0
  KeepsClauses old new = (number : ℕ) (value : C) → Stands old number value → Stands new number value
