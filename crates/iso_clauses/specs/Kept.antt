-- Lists of clauses as they are kept: a slot for each clause that was ever added, and for each list the blocks of its
-- clauses' numbers. A clause stands in the list of its procedure, and in that of a part of it.
use Rattle.std.specs.Prelude.{◌≡◌, ℕ, ◌≤◌, ◌+◌, Bool, true, false, ◌==◌, List, [], Option, Some, None, is_some, length, take, drop}
use Rattle.std.specs.List.{slice_get, list_any, All}
use Rattle.iso_clauses.specs.Clauses.{Clause}
use Rattle.iso_clauses.specs.Blocks.{Ids, Kept, no_ids, ids, ids_from, block_of}
use Rattle.iso_clauses.specs.Orders.{are_in_order}
use Rattle.iso_clauses.specs.Slots.{clause_at, list_at, is_front, given, IsCounted}
use Rattle.iso_clauses.specs.declared.slots.Label.{Label}
use Rattle.iso_clauses.specs.declared.slots.Slot.{Slot}
use Rattle.iso_clauses.specs.declared.views.View.{View}

-- whether the list has the clause of this number in its block
abbrev pub lists : Option Kept → ℕ → Bool
lists None number = false
lists (Some e) number = list_any (λ n. n == number) (ids e.current)

-- the blocks that only views made before need
abbrev pub older_of : Option Kept → List Ids
older_of None = []
older_of (Some e) = e.older

-- the block of this number
abbrev pub block_in : Option Kept → ℕ → Ids
block_in None block = no_ids
block_in (Some e) block = block_of e block

-- the block of new views
abbrev pub current_of : Option Kept → Ids
current_of None = no_ids
current_of (Some e) = e.current

-- a view of a list as it is now
abbrev pub view_now : ℕ → ℕ → Kept → View
view_now place made e = record {
  procedure = place;
  block = length e.older;
  outer = length e.current.front;
  next = e.first;
  end = length e.current.front + length e.current.back;
  made = made;
}

-- the block of a view
abbrev pub block_at : List Kept → View → Ids
block_at entries v = block_in (slice_get entries v.procedure) v.block

-- the numbers that a view has still to go through
abbrev pub pending : List Kept → View → List ℕ
pending entries v = drop v.next (take v.end (ids_from (block_at entries v) v.outer))

module _ {C : Type 0} where
  -- the clauses of the list at a place
  abbrev pub given_in : List (Slot C) → ℕ → List Kept → ℕ → List (Clause C)
  given_in slots removals entries place = given slots removals (ids (current_of (slice_get entries place)))

  -- Each number of a block is that of a clause of the list at this place.
  pub record Owns (of : Label → ℕ) (slots : List (Slot C)) (place : ℕ) (b : Ids) : Type 0 where
    pub front : All (λ n. list_at of slots n ≡ Some place) b.front
    pub back : All (λ n. list_at of slots n ≡ Some place) b.back

  -- New views pass over clauses alone that were removed.
  pub record Trimmed (slots : List (Slot C)) (removals : ℕ) (e : Kept) : Type 0 where
    pub within : e.first ≤ length e.current.front + length e.current.back
    pub dead : All (λ n. is_some (clause_at slots removals n) ≡ false) (take e.first (ids e.current))

  -- What holds of the lists of one sort as they are kept, so many: those of the procedures, or those of their parts.
  pub record IsKept (of : Label → ℕ) (slots : List (Slot C)) (removals size : ℕ) (entries : List Kept) : Type 0 where
    pub same : size ≡ length entries
    pub counted : IsCounted slots removals
    pub owned : (place : ℕ) (e : Kept) → slice_get entries place ≡ Some e → (block : ℕ) → block ≤ length e.older → Owns of slots place (block_of e block)
    pub trimmed : (place : ℕ) (e : Kept) → slice_get entries place ≡ Some e → Trimmed slots removals e
    pub ordered : (place : ℕ) (e : Kept) → slice_get entries place ≡ Some e → are_in_order (is_front slots) (ids e.current) ≡ true
    -- a clause that is there is in the block of its list
    pub listed : (number place : ℕ) → is_some (clause_at slots removals number) ≡ true → list_at of slots number ≡ Some place → lists (slice_get entries place) number ≡ true

  -- A view gives the clauses, in this order.
  pub record Giving (slots : List (Slot C)) (removals : ℕ) (entries : List Kept) (v : View) (cs : List (Clause C)) : Type 0 where
    pub procedure : is_some (slice_get entries v.procedure) ≡ true
    pub block : v.block ≤ length (older_of (slice_get entries v.procedure))
    pub outer : v.outer ≤ length (block_at entries v).front
    pub end : v.end ≤ v.outer + length (block_at entries v).back
    pub made : v.made ≤ removals
    pub clauses : given slots v.made (pending entries v) ≡ cs

  -- What is kept of the lists becomes handier, and nothing can be told from it.
  pub record Tidies (of : Label → ℕ) (slots : List (Slot C)) (removals : ℕ) (entries others : List Kept) : Type 0 where
    pub kept : (size : ℕ) → IsKept of slots removals size entries → IsKept of slots removals size others
    pub shows : (size : ℕ) → IsKept of slots removals size entries → (place : ℕ) → given_in slots removals others place ≡ given_in slots removals entries place
    pub gives : (size : ℕ) → IsKept of slots removals size entries → (v : View) (cs : List (Clause C)) → Giving slots removals entries v cs → Giving slots removals others v cs
