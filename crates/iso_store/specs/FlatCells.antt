-- Cells that are written flat: a word, and a number beside it.
use Rattle.std.specs.Prelude.{ℕ, ℤ, pos, ◌+ℤ◌, ◌*ℤ◌, ◌^◌, ◌<◌, ◌==◌, Bool, true, false, Option, Some, None, map, if◌then◌else◌}
use Rattle.iso_area.specs.Stacks.{Stacks, stacks}
use Rattle.iso_store.specs.declared.heap_cells.HeapWord.{HeapWord}
use Rattle.iso_store.specs.declared.heap_cells.HeapWord.TheVariants as word
use Rattle.iso_store.specs.declared.heap_cells.Cell.{Cell}
use Rattle.iso_store.specs.declared.heap_cells.Cell.TheVariants as cell
use Rattle.iso_store.specs.declared.flat_cells.FlatWord.{FlatWord}
use Rattle.iso_store.specs.declared.flat_cells.FlatWord.TheVariants.{Var, Structure, Int, Boxed, Atom, Unbound, Functor, Wide, Entry}
use Rattle.iso_store.specs.declared.flat_cells.Flat.{Flat}

-- the number beside an argument
abbrev pub no_number : ℕ
no_number = 18446744073709551615

-- the cell of a word with this number beside it
abbrev pub word_cell : ℕ → HeapWord → Cell
word_cell n w = if n == no_number then cell.Argument w else cell.Bound n w

-- the integer of these halves, the upper one with the sign
abbrev pub joined : ℤ → ℕ → ℤ
joined high low = high *ℤ pos (2 ^ 64) +ℤ pos low

abbrev pub whole_of : ℕ → FlatWord → Cell
whole_of n (Var a) = word_cell n (word.Var a)
whole_of n (Structure p) = word_cell n (word.Structure p)
whole_of n (Int z) = word_cell n (word.Int z)
whole_of n (Boxed p) = word_cell n (word.Boxed p)
whole_of n (Atom a) = word_cell n (word.Atom a)
whole_of n Unbound = cell.Unbound n
whole_of n (Functor f) = cell.Functor f n
whole_of n (Wide high) = cell.Wide (joined high n)
whole_of n (Entry p) = cell.Entry p

-- the cell that was written flat
abbrev pub whole : Flat → Cell
whole f = whole_of f.number f.word

-- the cell can be written flat: where it is a bound variable, its number is no argument's
abbrev pub IsStorable : Cell → Type 0
IsStorable (cell.Unbound n) = Unit {0}
IsStorable (cell.Bound n w) = n < no_number
IsStorable (cell.Argument w) = Unit {0}
IsStorable (cell.Functor f n) = Unit {0}
IsStorable (cell.Wide z) = Unit {0}
IsStorable (cell.Entry p) = Unit {0}

-- the word in the cell of a variable or an argument
abbrev pub held_word : Option Cell → Option HeapWord
held_word None = None
held_word (Some (cell.Unbound n)) = None
held_word (Some (cell.Bound n w)) = Some w
held_word (Some (cell.Argument w)) = Some w
held_word (Some (cell.Functor f n)) = None
held_word (Some (cell.Wide z)) = None
held_word (Some (cell.Entry p)) = None

-- the number of the variable that is bound
abbrev pub bound_number : Option Cell → Option ℕ
bound_number None = None
bound_number (Some (cell.Unbound n)) = None
bound_number (Some (cell.Bound n w)) = Some n
bound_number (Some (cell.Argument w)) = None
bound_number (Some (cell.Functor f n)) = None
bound_number (Some (cell.Wide z)) = None
bound_number (Some (cell.Entry p)) = None

abbrev pub is_unbound : Option Cell → Bool
is_unbound None = false
is_unbound (Some (cell.Unbound n)) = true
is_unbound (Some (cell.Bound n w)) = false
is_unbound (Some (cell.Argument w)) = false
is_unbound (Some (cell.Functor f n)) = false
is_unbound (Some (cell.Wide z)) = false
is_unbound (Some (cell.Entry p)) = false

-- the cells of both stacks
abbrev pub whole_stacks : Stacks Flat → Stacks Cell
whole_stacks s = stacks (map whole s.low) (map whole s.high) s.capacity
