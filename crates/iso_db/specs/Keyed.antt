-- Views by key: one or two views in order. Each took its next clause ahead, and passes over what a call can't use.
use Rattle.std.specs.Prelude.{◌≡◌, ℕ, ◌+◌, ◌-◌, Bool, true, false, List, Option, Some, None, is_some, filter, if◌then◌else◌}
use Rattle.std.specs.List.{slice_get}
use Rattle.iso_clauses.specs.Blocks.{Kept}
use Rattle.iso_clauses.specs.Clauses.{Clause}
use Rattle.iso_clauses.specs.Orders.{is_before, merged}
use Rattle.iso_clauses.specs.Slots.{value_at, key_at, is_front}
use Rattle.iso_clauses.specs.Stepping.{first_number, behind}
use Rattle.iso_clauses.specs.Kept.{Giving}
use Rattle.iso_clauses.specs.Fits.{fits}
use Rattle.iso_db.specs.declared.keyed.Ahead.{Ahead}
use Rattle.iso_db.specs.declared.keyed.KeyedView.{KeyedView}
use Rattle.iso_clauses.specs.declared.keys.FirstKey.{FirstKey}
use Rattle.iso_clauses.specs.declared.slots.Slot.{Slot}
use Rattle.iso_clauses.specs.declared.views.View.{View}

-- whether the first of two clauses comes next, where both are there
abbrev pub is_own_first : (ℕ → Bool) → Option ℕ → Option ℕ → Bool
is_own_first front None any = false
is_own_first front (Some m) None = true
is_own_first front (Some m) (Some n) = is_before front m n

-- a clause that was taken ahead counts one
abbrev pub ahead : Option ℕ → ℕ
ahead None = 0
ahead (Some n) = 1

-- at most so many clauses has the view still to give
abbrev pub remaining_ahead : Ahead → ℕ
remaining_ahead a = ahead a.next + (a.rest.end - a.rest.next)

abbrev pub remaining_keyed : KeyedView → ℕ
remaining_keyed v = remaining_ahead v.own + remaining_ahead v.any

module _ {C : Type 0} where
  -- those of the clauses that a call with this key may use
  abbrev pub usable : List (Slot C) → Option FirstKey → List (Clause C) → List (Clause C)
  usable slots key cs = filter (λ c. fits key (key_at slots c.number)) cs

  -- Of the clauses that a view gives, a call with this key may use these.
  pub record Offers (slots : List (Slot C)) (removals : ℕ) (lists : List Kept) (key : Option FirstKey) (v : View) (cs : List (Clause C)) : Type 0 where
    pub all : List (Clause C)
    pub gives : Giving slots removals lists v all
    pub are : usable slots key all ≡ cs

  -- A view whose next clause was taken ahead offers these clauses, and each can be read.
  pub record Leads (slots : List (Slot C)) (removals : ℕ) (lists : List Kept) (key : Option FirstKey) (a : Ahead) (cs : List (Clause C)) : Type 0 where
    pub first : a.next ≡ first_number cs
    pub rest : is_some a.next ≡ true → Offers slots removals lists key a.rest (behind cs)
    pub stand : (k : ℕ) (c : Clause C) → slice_get cs k ≡ Some c → value_at slots c.number ≡ Some c.value

  -- the function tells which of these clauses were added at the front
  abbrev pub TellsSides : List (Slot C) → (ℕ → Bool) → List (Clause C) → Type 0
  TellsSides slots front cs = (k : ℕ) (c : Clause C) → slice_get cs k ≡ Some c → is_front slots c.number ≡ front c.number

  -- A view by key gives these clauses, in this order.
  pub record GivingKeyed (slots : List (Slot C)) (removals : ℕ) (entries lists : List Kept) (v : KeyedView) (cs : List (Clause C)) : Type 0 where
    pub own_clauses : List (Clause C)
    pub any_clauses : List (Clause C)
    pub front : ℕ → Bool
    pub own : Leads slots removals (if v.whole then entries else lists) v.key v.own own_clauses
    pub any : Leads slots removals lists None v.any any_clauses
    pub own_sides : TellsSides slots front own_clauses
    pub any_sides : TellsSides slots front any_clauses
    pub merges : merged front own_clauses any_clauses ≡ cs
