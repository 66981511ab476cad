-- What each call of an area makes of its fields and of its two stacks.
use Rattle.std.proofs.Common.{◌≡◌, ◌≢◌, ℕ, ◌+◌, ◌-◌, ◌<◌, ◌≤◌, List, [], ◌∷◌, ◌++◌, length, take, slice_get, slice_set, get_or, Some, None, refl, sym, ap, ◌∙◌, subst, arith, add-one, length-append}
use Rattle.std.proofs.lemmas.List.{length-set, length-take-le}
use Rattle.iso_area.specs.Stacks.{Stacks, stacks}
use Rattle.iso_area.specs.Reading.{from_beginning, from_end, read_off}
use Rattle.iso_area.specs.Area.{area_low, area_high, area_stacks, IsArea}
use Rattle.iso_area.specs.declared.Area.TheInside.{Inside}
use Rattle.iso_area.specs.declared.cells.Cells.{Cells}
use Rattle.iso_area.proofs.ReadingLemmas.{read_same, read_push, read_cut, read_at, read_set, beginning_new, beginning_other, end_new, end_other}

module _ {X : Type 0} where
  -- the fields with other places and other lengths
  abbrev pub with_places : Inside X → Cells X → ℕ → ℕ → Inside X
  with_places a cells low high = record { base = a.base; capacity = a.capacity; low = low; high = high; cells = cells; deed = a.deed; alloc = a.alloc }

  -- b is an area, and a caller sees it as s
  abbrev pub Becomes : Inside X → Stacks X → Type 0
  Becomes b s = IsArea b × (area_stacks b ≡ s)

module _ {X : Type 0} (a : Inside X) (is : IsArea a) where
  -- the places in cells are as many as before, and the stacks read off them are as long as the fields say
  remade : (cells : Cells X) (low high : ℕ) (xs ys : List X) → cells.at ≡ a.cells.at → length cells.slots ≡ length a.cells.slots → low + high ≤ a.capacity
      → read_off (from_beginning cells.slots) low ≡ xs → length xs ≡ low → read_off (from_end cells.slots) high ≡ ys → length ys ≡ high → Becomes (with_places a cells low high) (stacks xs ys a.capacity)
  remade cells low high xs ys at long room low_is low_long high_is high_long =
      let area : IsArea (with_places a cells low high) = record {
        block = (at ∙ is.block.0, is.block.1, is.block.2, is.block.3);
        places = (long ∙ is.places.0, is.places.1);
        room = room;
        counts = (ap length low_is ∙ low_long, ap length high_is ∙ high_long);
      } in
      (area, λ i. stacks (low_is i) (high_is i) a.capacity)

  -- a place that is not of the high stack, and one that is not of the low one, is written
  high_stays : (i : ℕ) (x : X) → i + a.high < a.capacity → read_off (from_end (slice_set a.cells.slots i (Some x))) a.high ≡ area_high a
  high_stays i x clear =
      read_same (from_end a.cells.slots) (from_end (slice_set a.cells.slots i (Some x))) a.high
      (λ j below. end_other a.cells.slots i (Some x) j (λ q. absurd (omega (arith, q, below, clear, is.places.0))))

  low_stays : (i : ℕ) (x : X) → a.low ≤ i → read_off (from_beginning (slice_set a.cells.slots i (Some x))) a.low ≡ area_low a
  low_stays i x clear =
      read_same (from_beginning a.cells.slots) (from_beginning (slice_set a.cells.slots i (Some x))) a.low
      (λ j below. beginning_other a.cells.slots i (Some x) j (λ q. absurd (omega (arith, q, below, clear))))

  low_grown : (cells : Cells X) (x : X) → a.low + a.high ≢ a.capacity → cells.at ≡ a.cells.at → cells.slots ≡ slice_set a.cells.slots a.low (Some x)
      → Becomes (with_places a cells (a.low + 1) a.high) (stacks (area_low a ++ x ∷ []) (area_high a) a.capacity)
  low_grown cells x some at slots =
      let cs = a.cells.slots in let new = slice_set cs a.low (Some x) in
      let clear : a.low + a.high < a.capacity = omega (arith, is.room, some) in
      remade cells (a.low + 1) a.high _ _ at (ap length slots ∙ length-set cs a.low (Some x)) (omega (arith, clear))
      (ap (λ ds. read_off (from_beginning ds) (a.low + 1)) slots ∙ (ap (read_off (from_beginning new)) (add-one a.low) ∙
      read_push (from_beginning cs) (from_beginning new) a.low x (λ j below. beginning_other cs a.low (Some x) j (λ q. absurd (omega (arith, q, below))))
      (beginning_new cs a.low (Some x) (omega (arith, clear, is.places.0)))))
      (omega (arith, length-append (area_low a) (x ∷ []), is.counts.0))
      (ap (λ ds. read_off (from_end ds) a.high) slots ∙ high_stays a.low x clear) is.counts.1

  high_grown : (cells : Cells X) (x : X) → a.low + a.high ≢ a.capacity → cells.at ≡ a.cells.at → cells.slots ≡ slice_set a.cells.slots (a.capacity - 1 - a.high) (Some x)
      → Becomes (with_places a cells a.low (a.high + 1)) (stacks (area_low a) (area_high a ++ x ∷ []) a.capacity)
  high_grown cells x some at slots =
      let cs = a.cells.slots in let place = length cs - 1 - a.high in let new = slice_set cs place (Some x) in
      let clear : a.low + a.high < a.capacity = omega (arith, is.room, some) in
      let written : cells.slots ≡ new = slots ∙ ap (λ n. slice_set cs (n - 1 - a.high) (Some x)) (sym is.places.0) in
      remade cells a.low (a.high + 1) _ _ at (ap length written ∙ length-set cs place (Some x)) (omega (arith, clear))
      (ap (λ ds. read_off (from_beginning ds) a.low) written ∙ low_stays place x (omega (arith, clear, is.places.0))) is.counts.0
      (ap (λ ds. read_off (from_end ds) (a.high + 1)) written ∙ (ap (read_off (from_end new)) (add-one a.high) ∙
      read_push (from_end cs) (from_end new) a.high x (λ j below. end_other cs place (Some x) j (λ q. absurd (omega (arith, q, below, clear, is.places.0))))
      (end_new cs a.high (Some x) (omega (arith, clear, is.places.0)))))
      (omega (arith, length-append (area_high a) (x ∷ []), is.counts.1))

  low_written : (cells : Cells X) (i : ℕ) (x : X) → i < a.low → cells.at ≡ a.cells.at → cells.slots ≡ slice_set a.cells.slots i (Some x)
      → Becomes (with_places a cells a.low a.high) (stacks (slice_set (area_low a) i x) (area_high a) a.capacity)
  low_written cells i x lt at slots =
      let cs = a.cells.slots in let new = slice_set cs i (Some x) in
      remade cells a.low a.high _ _ at (ap length slots ∙ length-set cs i (Some x)) is.room
      (ap (λ ds. read_off (from_beginning ds) a.low) slots ∙
      read_set (from_beginning cs) (from_beginning new) i a.low x lt is.counts.0 (λ j below apart. beginning_other cs i (Some x) j apart)
      (beginning_new cs i (Some x) (omega (arith, lt, is.room, is.places.0))))
      (length-set (area_low a) i x ∙ is.counts.0)
      (ap (λ ds. read_off (from_end ds) a.high) slots ∙ high_stays i x (omega (arith, lt, is.room))) is.counts.1

  low_kept : (n : ℕ) → n ≤ a.low → Becomes (with_places a a.cells n a.high) (stacks (take n (area_low a)) (area_high a) a.capacity)
  low_kept n le =
      remade a.cells n a.high _ _ refl refl (omega (arith, le, is.room)) (read_cut (from_beginning a.cells.slots) n a.low le is.counts.0)
      (length-take-le n (area_low a) (omega (arith, le, is.counts.0))) refl is.counts.1

  high_kept : (n : ℕ) → n ≤ a.high → Becomes (with_places a a.cells a.low n) (stacks (area_low a) (take n (area_high a)) a.capacity)
  high_kept n le =
      remade a.cells a.low n _ _ refl refl (omega (arith, le, is.room)) refl is.counts.0 (read_cut (from_end a.cells.slots) n a.high le is.counts.1)
      (length-take-le n (area_high a) (omega (arith, le, is.counts.1)))

  low_read : (i : ℕ) → i < a.low → (x : X) × ((get_or a.cells.slots i None ≡ Some x) × (slice_get (area_low a) i ≡ Some x))
  low_read i lt = read_at (from_beginning a.cells.slots) i a.low lt is.counts.0

  high_read : (i : ℕ) → i < a.high → (x : X) × ((get_or a.cells.slots (a.capacity - 1 - i) None ≡ Some x) × (slice_get (area_high a) i ≡ Some x))
  high_read i lt =
      let found = read_at (from_end a.cells.slots) i a.high lt is.counts.1 in
      (found.0, (ap (λ n. get_or a.cells.slots (n - 1 - i) None) (sym is.places.0) ∙ found.1.0, found.1.1))

-- The same of what a caller sees, s.
module _ {X : Type 0} (a : Inside X) (is : IsArea a) (s : Stacks X) (seen : area_stacks a ≡ s) where
  pub pushed_low : (cells : Cells X) (x : X) → a.low + a.high ≢ a.capacity → cells.at ≡ a.cells.at → cells.slots ≡ slice_set a.cells.slots a.low (Some x)
      → Becomes (with_places a cells (a.low + 1) a.high) (stacks (s.low ++ x ∷ []) s.high s.capacity)
  pushed_low cells x some at slots =
      subst (λ t. Becomes (with_places a cells (a.low + 1) a.high) (stacks (t.low ++ x ∷ []) t.high t.capacity)) seen (low_grown a is cells x some at slots)

  pub pushed_high : (cells : Cells X) (x : X) → a.low + a.high ≢ a.capacity → cells.at ≡ a.cells.at → cells.slots ≡ slice_set a.cells.slots (a.capacity - 1 - a.high) (Some x)
      → Becomes (with_places a cells a.low (a.high + 1)) (stacks s.low (s.high ++ x ∷ []) s.capacity)
  pushed_high cells x some at slots =
      subst (λ t. Becomes (with_places a cells a.low (a.high + 1)) (stacks t.low (t.high ++ x ∷ []) t.capacity)) seen (high_grown a is cells x some at slots)

  pub set_low : (cells : Cells X) (i : ℕ) (x : X) → i < length s.low → cells.at ≡ a.cells.at → cells.slots ≡ slice_set a.cells.slots i (Some x)
      → Becomes (with_places a cells a.low a.high) (stacks (slice_set s.low i x) s.high s.capacity)
  set_low cells i x lt at slots =
      subst (λ t. i < length t.low → Becomes (with_places a cells a.low a.high) (stacks (slice_set t.low i x) t.high t.capacity)) seen
      (λ within. low_written a is cells i x (omega (arith, within, is.counts.0)) at slots) lt

  pub cut_low : (n : ℕ) → n ≤ length s.low → Becomes (with_places a a.cells n a.high) (stacks (take n s.low) s.high s.capacity)
  cut_low n le =
      subst (λ t. n ≤ length t.low → Becomes (with_places a a.cells n a.high) (stacks (take n t.low) t.high t.capacity)) seen
      (λ within. low_kept a is n (omega (arith, within, is.counts.0))) le

  pub cut_high : (n : ℕ) → n ≤ length s.high → Becomes (with_places a a.cells a.low n) (stacks s.low (take n s.high) s.capacity)
  cut_high n le =
      subst (λ t. n ≤ length t.high → Becomes (with_places a a.cells a.low n) (stacks t.low (take n t.high) t.capacity)) seen
      (λ within. high_kept a is n (omega (arith, within, is.counts.1))) le

  pub low_value : (i : ℕ) → i < length s.low → (x : X) × ((get_or a.cells.slots i None ≡ Some x) × (slice_get s.low i ≡ Some x))
  low_value i lt =
      subst (λ t. i < length t.low → (x : X) × ((get_or a.cells.slots i None ≡ Some x) × (slice_get t.low i ≡ Some x))) seen
      (λ within. low_read a is i (omega (arith, within, is.counts.0))) lt

  pub high_value : (i : ℕ) → i < length s.high → (x : X) × ((get_or a.cells.slots (a.capacity - 1 - i) None ≡ Some x) × (slice_get s.high i ≡ Some x))
  high_value i lt =
      subst (λ t. i < length t.high → (x : X) × ((get_or a.cells.slots (a.capacity - 1 - i) None ≡ Some x) × (slice_get t.high i ≡ Some x))) seen
      (λ within. high_read a is i (omega (arith, within, is.counts.1))) lt
