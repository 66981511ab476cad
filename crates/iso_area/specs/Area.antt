-- What holds of the fields of an area.
use Rattle.std.specs.Prelude.{◌≡◌, ◌+◌, ◌^◌, ◌<◌, ◌≤◌, List, length}
use Rattle.iso_area.specs.Stacks.{Stacks, stacks}
use Rattle.iso_area.specs.Reading.{from_beginning, from_end, read_off}
use Rattle.iso_area.specs.declared.Area.TheInside.{Inside}

module _ {X : Type 0} where
  -- the low stack grows from the block's beginning up, the high one from its end down
  abbrev pub area_low : Inside X → List X
  area_low a = read_off (from_beginning a.cells.slots) a.low

  abbrev pub area_high : Inside X → List X
  area_high a = read_off (from_end a.cells.slots) a.high

  abbrev pub area_stacks : Inside X → Stacks X
  area_stacks a = stacks (area_low a) (area_high a) a.capacity

  pub record IsArea (a : Inside X) : Type 0 where
    -- the pointer, the places and the right to give them back are of one block
    pub block : (a.cells.at ≡ a.base.ptr) × (a.deed.at ≡ a.base.ptr) × (a.deed.len ≡ a.capacity) × (a.deed.alloc ≡ a.alloc)
    pub places : (length a.cells.slots ≡ a.capacity) × (a.capacity < 2 ^ 63)
    pub room : a.low + a.high ≤ a.capacity
    -- each place of a stack holds a value
    pub counts : (length (area_low a) ≡ a.low) × (length (area_high a) ≡ a.high)
