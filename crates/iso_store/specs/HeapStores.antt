-- When a list of cells and a next number are a heap, and what marks stand for.
use Rattle.std.specs.Prelude.{◌≡◌, ◌≢◌, ℕ, suc, ◌+◌, ◌-◌, ◌<◌, ◌≤◌, ◌==◌, List, [], ◌∷◌, ◌++◌, length, take, drop, if◌then◌else◌, Option, Some, None, Bool, true, false, nat_lt}
use Rattle.std.specs.List.{slice_get, list_any}
use Rattle.iso_model.specs.Terms.Trees.{Variable}
use Rattle.iso_store.specs.TakenBack.{changed_at, back}
use Rattle.iso_store.specs.declared.heap_cells.HeapWord.{HeapWord}
use Rattle.iso_store.specs.declared.heap_cells.HeapWord.TheVariants.{Var, Structure, Int, Boxed, Atom}
use Rattle.iso_store.specs.declared.heap_cells.Cell.{Cell}
use Rattle.iso_store.specs.declared.heap_cells.Cell.TheVariants.{Unbound, Bound, Argument, Functor, Wide, Entry}
use Rattle.iso_store.specs.declared.heap_cells.HeapMark.{HeapMark}
use Rattle.iso_store_core.specs.Presents.{Present}
use Rattle.iso_store.specs.Rounds.{Settles, rounds_for}
use Rattle.iso_store.specs.HeapTerms.{made_term, heap_bindings, heap_substitution, bound_count, variable_cells}

-- the number of the variable in the cell
abbrev pub number_of : Option Cell → Option ℕ
number_of None = None
number_of (Some (Unbound n)) = Some n
number_of (Some (Bound n w)) = Some n
number_of (Some (Argument w)) = None
number_of (Some (Functor f n)) = None
number_of (Some (Wide z)) = None
number_of (Some (Entry p)) = None

abbrev pub is_variable_cell : Option Cell → Bool
is_variable_cell None = false
is_variable_cell (Some (Unbound n)) = true
is_variable_cell (Some (Bound n w)) = true
is_variable_cell (Some (Argument w)) = false
is_variable_cell (Some (Functor f n)) = false
is_variable_cell (Some (Wide z)) = false
is_variable_cell (Some (Entry p)) = false

abbrev pub is_functor : Option Cell → Bool
is_functor None = false
is_functor (Some (Unbound n)) = false
is_functor (Some (Bound n w)) = false
is_functor (Some (Argument w)) = false
is_functor (Some (Functor f n)) = true
is_functor (Some (Wide z)) = false
is_functor (Some (Entry p)) = false

-- whether the cell has an integer of more than 64 bits
abbrev pub is_wide : Option Cell → Bool
is_wide None = false
is_wide (Some (Unbound n)) = false
is_wide (Some (Bound n w)) = false
is_wide (Some (Argument w)) = false
is_wide (Some (Functor f n)) = false
is_wide (Some (Wide z)) = true
is_wide (Some (Entry p)) = false

-- whether the cell may be an argument of a compound: a variable may stand there itself
abbrev pub is_argument : Option Cell → Bool
is_argument None = false
is_argument (Some (Unbound n)) = true
is_argument (Some (Bound n w)) = true
is_argument (Some (Argument w)) = true
is_argument (Some (Functor f n)) = false
is_argument (Some (Wide z)) = false
is_argument (Some (Entry p)) = false

-- whether the cell is the variable of this number
abbrev pub has_cell_number : ℕ → Cell → Bool
has_cell_number x (Unbound n) = n == x
has_cell_number x (Bound n w) = n == x
has_cell_number x (Argument w) = false
has_cell_number x (Functor f n) = false
has_cell_number x (Wide z) = false
has_cell_number x (Entry p) = false

-- the word of an argument whose cell is at this place
abbrev pub cell_word : ℕ → Cell → HeapWord
cell_word a (Unbound n) = Var a
cell_word a (Bound n w) = Var a
cell_word a (Argument w) = w
cell_word a (Functor f n) = Var a
cell_word a (Wide z) = Var a
cell_word a (Entry p) = Var a

-- whether the word stands for a term, where these names have an atom
abbrev pub is_word : List (List ℕ) → List Cell → HeapWord → Bool
is_word names cs (Var a) = is_variable_cell (slice_get cs a)
is_word names cs (Structure p) = is_functor (slice_get cs p)
is_word names cs (Int z) = true
is_word names cs (Boxed p) = is_wide (slice_get cs p)
is_word names cs (Atom a) = nat_lt a (length names)

-- the word leads to no cell from this place on
abbrev pub IsBefore : ℕ → HeapWord → Type 0
IsBefore k (Var a) = a < k
IsBefore k (Structure p) = p < k
IsBefore k (Int z) = Unit {0}
IsBefore k (Boxed p) = p < k
IsBefore k (Atom a) = Unit {0}

-- the place that the word leads to
abbrev pub word_place : HeapWord → Option ℕ
word_place (Var a) = Some a
word_place (Structure p) = Some p
word_place (Int z) = None
word_place (Boxed p) = Some p
word_place (Atom a) = None

-- A binding that leads from its variable to a cell behind it leads to no cell behind top.
abbrev pub HeapLeadsBack : List Cell → ℕ → Type 0
HeapLeadsBack cs top = (a n : ℕ) (w : HeapWord) (j : ℕ) → slice_get cs a ≡ Some (Bound n w) → word_place w ≡ Some j → a < j → j ≤ top

-- A compound's functor: its name has an atom, and its arguments, 1 to 255, are in the cells before it.
pub record IsFunctor (names : List (List ℕ)) (cs : List Cell) (p f n : ℕ) : Type 0 where
  pub name : f < length names
  pub some : 0 < n
  pub few : n < 256
  pub room : n ≤ p
  pub arguments : (k : ℕ) → k < n → is_argument (slice_get cs (p - n + k)) ≡ true

-- What is true of the names that have an atom, the cells and the next number of a heap. An argument leads to a cell
-- before it, and a variable to none that is younger. So many rounds of the bindings as the heap's substitution makes
-- leave none that is bound.
pub record IsHeap (names : List (List ℕ)) (cs : List Cell) (next : ℕ) : Type 0 where
  pub argument : (a : ℕ) (w : HeapWord) → slice_get cs a ≡ Some (Argument w) → (is_word names cs w ≡ true) × IsBefore a w
  pub target : (a n : ℕ) (w : HeapWord) → slice_get cs a ≡ Some (Bound n w) → is_word names cs w ≡ true
  pub functor : (p f n : ℕ) → slice_get cs p ≡ Some (Functor f n) → IsFunctor names cs p f n
  pub older : (a n b m : ℕ) → slice_get cs a ≡ Some (Bound n (Var b)) → number_of (slice_get cs b) ≡ Some m → m < n
  pub one_cell : (a b n : ℕ) → number_of (slice_get cs a) ≡ Some n → number_of (slice_get cs b) ≡ Some n → a ≡ b
  pub numbered : (a n : ℕ) → number_of (slice_get cs a) ≡ Some n → n < next
  pub entry : (a p : ℕ) → slice_get cs a ≢ Some (Entry p)
  pub settled : (n : ℕ) → Settles (heap_bindings names cs) (rounds_for (bound_count cs)) n

-- the cell may come behind these cells
abbrev pub MayCome : List (List ℕ) → List Cell → ℕ → Cell → Type 0
MayCome names cs next (Unbound n) = (n < next) × (list_any (has_cell_number n) cs ≡ false)
MayCome names cs next (Bound n w) = ⊥
MayCome names cs next (Argument w) = is_word names cs w ≡ true
MayCome names cs next (Functor f n) = IsFunctor names cs (length cs) f n
MayCome names cs next (Wide z) = Unit {0}
MayCome names cs next (Entry p) = ⊥

-- the heap that has these names, these cells, this next number and so much room
abbrev pub present_of_heap : List (List ℕ) → List Cell → ℕ → ℕ → Present HeapWord
present_of_heap names cs next limit = record {
  substitution = heap_substitution names cs;
  next = next;
  cells = length cs;
  variables = variable_cells cs;
  limit = limit;
  holds = is_word names cs;
  term = made_term names cs;
  taken = λ n. list_any (has_cell_number n) cs;
}

-- the cell, with no binding
abbrev pub unbound_cell : Cell → Cell
unbound_cell (Unbound n) = Unbound n
unbound_cell (Bound n w) = Unbound n
unbound_cell (Argument w) = Argument w
unbound_cell (Functor f n) = Functor f n
unbound_cell (Wide z) = Wide z
unbound_cell (Entry p) = Entry p

-- the cells, with no binding at this place
abbrev pub unbound_at : List Cell → ℕ → List Cell
unbound_at cs e = changed_at unbound_cell cs e

-- the cells, with the binding of this entry of the trail taken back
abbrev pub taken_back : Cell → List Cell → List Cell
taken_back (Unbound n) cs = cs
taken_back (Bound n w) cs = cs
taken_back (Argument w) cs = cs
taken_back (Functor f n) cs = cs
taken_back (Wide z) cs = cs
taken_back (Entry p) cs = unbound_at cs p

-- the cells, with the bindings of these entries taken back, the newest (last) first
abbrev pub reset : List Cell → List Cell → List Cell
reset es cs = back taken_back es cs

-- the cells that the mark brings back
abbrev pub restored : List Cell → List Cell → HeapMark → List Cell
restored cs es m = reset (drop m.trail es) (take m.cells cs)

-- the trail once the variable at this place is bound, where the newest mark was made at so many cells
abbrev pub trailed : ℕ → ℕ → List Cell → List Cell
trailed newest e es = if nat_lt e newest then es ++ Entry e ∷ [] else es

-- The mark stands for p, in a heap of this room, these names, these cells and this trail, whose newest mark was made
-- at so many cells.
pub record HeapStandsFor (names : List (List ℕ)) (limit newest : ℕ) (cs es : List Cell) (m : HeapMark) (p : Present HeapWord) : Type 0 where
  pub newest_top : m.cells ≤ newest
  pub cells_top : m.cells ≤ length cs
  pub trail_top : m.trail ≤ length es
  pub before_top : m.before ≤ m.cells
  pub named_top : m.named ≤ length names
  pub is_heap : IsHeap (take m.named names) (restored cs es m) m.next
  pub counted : m.trail ≤ bound_count (restored cs es m)
  pub present : p ≡ present_of_heap (take m.named names) (restored cs es m) m.next limit

-- the first mark was made before the second, at no more cells than the newest one then
pub record IsOlderMark (k m : HeapMark) : Type 0 where
  pub cells_top : k.cells ≤ m.before
  pub trail_top : k.trail ≤ m.trail

-- marks stand on, for what they stood for
abbrev pub KeepsHeapMarks : List (List ℕ) → ℕ → ℕ → List Cell → List Cell → ℕ → List Cell → List Cell → Type 0
KeepsHeapMarks names limit newest cs es later ds fs = (m : HeapMark) (p : Present HeapWord) → HeapStandsFor names limit newest cs es m p → HeapStandsFor names limit later ds fs m p

-- a heap of no cells
abbrev pub empty_heap : ℕ → Present HeapWord
empty_heap limit = record {
  substitution = Variable;
  next = 0;
  cells = 0;
  variables = 0;
  limit = limit;
  holds = is_word [] [];
  term = made_term [] [];
  taken = λ n. false;
}

-- the word that the variable in the cell is bound to
abbrev pub bound_word : Option Cell → Option HeapWord
bound_word None = None
bound_word (Some (Unbound n)) = None
bound_word (Some (Bound n w)) = Some w
bound_word (Some (Argument w)) = None
bound_word (Some (Functor f n)) = None
bound_word (Some (Wide z)) = None
bound_word (Some (Entry p)) = None

-- the next word along the bindings, where there is one
abbrev pub next_word : List Cell → HeapWord → Option HeapWord
next_word cs (Var a) = bound_word (slice_get cs a)
next_word cs (Structure p) = None
next_word cs (Int z) = None
next_word cs (Boxed p) = None
next_word cs (Atom a) = None

abbrev pub variable_of : Option HeapWord → Option ℕ
variable_of None = None
variable_of (Some (Var a)) = Some a
variable_of (Some (Structure p)) = None
variable_of (Some (Int z)) = None
variable_of (Some (Boxed p)) = None
variable_of (Some (Atom a)) = None

-- one more than the number of the variable that the word leads to: it falls along bindings
abbrev pub number_rank : Option ℕ → ℕ
number_rank None = 0
number_rank (Some n) = suc n

abbrev pub word_rank : List Cell → HeapWord → ℕ
word_rank cs (Var a) = number_rank (number_of (slice_get cs a))
word_rank cs (Structure p) = 0
word_rank cs (Int z) = 0
word_rank cs (Boxed p) = 0
word_rank cs (Atom a) = 0
