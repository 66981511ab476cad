-- What is kept of each clause that was ever added, at its number.
use Rattle.std.specs.Prelude.{◌≡◌, ℕ, ◌≤◌, ◌+◌, Bool, true, false, nat_le, nat_lt, ◌==◌, List, Option, Some, None, option_map, is_some, length, if◌then◌else◌}
use Rattle.std.specs.List.{slice_get, filter_map, count_by, list_any, All}
use Rattle.std.specs.Option.{option_and_then, is_none}
use Rattle.iso_clauses.specs.Clauses.{Clause}
use Rattle.iso_clauses.specs.declared.blocks.Side.{Side}
use Rattle.iso_clauses.specs.declared.blocks.Side.TheVariants.{First, Last}
use Rattle.iso_clauses.specs.declared.keys.FirstKey.{FirstKey}
use Rattle.iso_clauses.specs.declared.slots.Label.{Label}
use Rattle.iso_clauses.specs.declared.slots.Slot.{Slot}

-- whether a view that was made after so many removals gives a clause that died then
abbrev pub lives : ℕ → Option ℕ → Bool
lives made None = true
lives made (Some died) = nat_le made died

-- whether a removal came before so many
abbrev pub before : ℕ → Option ℕ → Bool
before removals None = true
before removals (Some died) = nat_lt died removals

-- whether the place of a procedure is this one
abbrev pub is_place : ℕ → Option ℕ → Bool
is_place place None = false
is_place place (Some owner) = owner == place

-- the place of the procedure, and the number of the part
abbrev pub procedure_of : Label → ℕ
procedure_of l = l.procedure

abbrev pub part_of : Label → ℕ
part_of l = l.part

-- whether a clause was added at the front
abbrev pub is_first : Side → Bool
is_first First = true
is_first Last = false

abbrev pub is_of_front : Option Label → Bool
is_of_front None = false
is_of_front (Some l) = is_first l.side

module _ {C : Type 0} where
  -- the clause that is kept in a slot, as a view gives it that was made after so many removals
  abbrev pub given_by : ℕ → ℕ → Slot C → Option (Clause C)
  given_by made number s = if lives made s.died then option_map (λ value. record { number = number; value = value }) s.value else None

  -- the clause of a number, as a view gives it that was made after so many removals
  abbrev pub clause_at : List (Slot C) → ℕ → ℕ → Option (Clause C)
  clause_at slots made number = option_and_then (given_by made number) (slice_get slots number)

  -- where a clause stands
  abbrev pub label_at : List (Slot C) → ℕ → Option Label
  label_at slots number = option_map (λ s. s.label) (slice_get slots number)

  -- the list in which a clause stands, of lists of one sort
  abbrev pub list_at : (Label → ℕ) → List (Slot C) → ℕ → Option ℕ
  list_at of slots number = option_map of (label_at slots number)

  -- the place of the procedure of a clause
  abbrev pub procedure_at : List (Slot C) → ℕ → Option ℕ
  procedure_at slots number = list_at procedure_of slots number

  -- whether a clause was added at the front
  abbrev pub is_front : List (Slot C) → ℕ → Bool
  is_front slots number = is_of_front (label_at slots number)

  -- the key of a clause
  abbrev pub key_at : List (Slot C) → ℕ → Option FirstKey
  key_at slots number = option_and_then (λ l. l.key) (label_at slots number)

  -- what is kept of a clause
  abbrev pub value_at : List (Slot C) → ℕ → Option C
  value_at slots number = option_and_then (λ s. s.value) (slice_get slots number)

  -- the clauses of these numbers that a view gives which was made after so many removals
  abbrev pub given : List (Slot C) → ℕ → List ℕ → List (Clause C)
  given slots made numbers = filter_map (clause_at slots made) numbers

  -- Removals are counted.
  pub record IsCounted (slots : List (Slot C)) (removals : ℕ) : Type 0 where
    -- each that died did so at one of the removals
    pub deaths : (number : ℕ) (s : Slot C) → slice_get slots number ≡ Some s → before removals s.died ≡ true
    pub count : count_by (λ s. is_none s.died) slots + removals ≤ length slots

  -- From old to new at most the clause of this number was removed.
  pub record Removes (number : ℕ) (old : List (Slot C)) (before : ℕ) (new : List (Slot C)) (after : ℕ) : Type 0 where
    pub size : length new ≡ length old
    pub later : before ≤ after
    pub labels : (n : ℕ) → label_at new n ≡ label_at old n
    pub values : (n : ℕ) → value_at new n ≡ value_at old n
    -- views made before give it still
    pub views : (made n : ℕ) → made ≤ before → clause_at new made n ≡ clause_at old made n
    pub others : (n : ℕ) → (n ≡ number → ⊥) → clause_at new after n ≡ clause_at old before n
    pub gone : clause_at new after number ≡ None

  -- From old to new at most the clauses of these numbers were removed.
  pub record Clears (numbers : List ℕ) (old : List (Slot C)) (before : ℕ) (new : List (Slot C)) (after : ℕ) : Type 0 where
    pub size : length new ≡ length old
    pub later : before ≤ after
    pub labels : (n : ℕ) → label_at new n ≡ label_at old n
    pub values : (n : ℕ) → value_at new n ≡ value_at old n
    pub views : (made n : ℕ) → made ≤ before → clause_at new made n ≡ clause_at old made n
    pub others : (n : ℕ) → list_any (λ m. m == n) numbers ≡ false → clause_at new after n ≡ clause_at old before n
    pub gone : All (λ n. clause_at new after n ≡ None) numbers

  -- the slot of a clause, emptied if it was removed
  abbrev pub cleaned : Slot C → Slot C
  cleaned s = if is_some s.died then record s { value = None } else s

  -- From old to new nothing is lost but of clauses that were removed.
  pub record Cleans (old new : List (Slot C)) (removals : ℕ) : Type 0 where
    pub size : length new ≡ length old
    pub labels : (n : ℕ) → label_at new n ≡ label_at old n
    pub now : (n : ℕ) → clause_at new removals n ≡ clause_at old removals n
    pub counted : IsCounted new removals
