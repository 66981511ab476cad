-- What is being built in a heap: pieces, which are words and variables that may have no cell yet.
use Rattle.std.specs.Prelude.{◌≡◌, ℕ, ◌+◌, ◌<◌, ◌≤◌, List, [], ◌∷◌, ◌++◌, length, map, take, Bool, true, false, nat_lt, Option, Some, None}
use Rattle.std.specs.List.{slice_get, slice_index_or, list_any}
use Rattle.iso_model.specs.Terms.Trees.{Tree, Variable}
use Rattle.iso_model.specs.Terms.Substitutions.{Subst}
use Rattle.iso_store.specs.declared.heap.Heap.{Heap}
use Rattle.iso_model.specs.Terms.Copies.{numbers_from}
use Rattle.iso_store.specs.declared.heap_cells.HeapWord.{HeapWord}
use Rattle.iso_store.specs.declared.heap_cells.Piece.{Piece}
use Rattle.iso_store.specs.declared.heap_cells.Piece.TheVariants.{Word, Variable as Place}
use Rattle.iso_store.specs.declared.heap_cells.Cell.{Cell}
use Rattle.iso_store.specs.declared.heap_cells.Cell.TheVariants.{Unbound}
use Rattle.iso_store_core.specs.Presents.{Present}
use Rattle.iso_store.specs.HeapTerms.{made_term, heap_substitution, variable_cells}
use Rattle.iso_store.specs.HeapStores.{has_cell_number, is_argument, is_word}
use Rattle.iso_store.specs.HeapLemmas.{place_term}

-- where these are the names of the atoms, and the variables have the numbers from first on
module _ (names : List (List ℕ)) (first : ℕ) where
  -- the term of a piece
  abbrev pub piece_term : List Cell → Piece → Tree
  piece_term cs (Word w) = made_term names cs w
  piece_term cs (Place k) = Variable (first + k)

  -- The cell of this argument comes behind the cells.
  abbrev pub IsPushed : List Cell → List Cell → Piece → Type 0
  IsPushed cs ds piece = (c : Cell) × (ds ≡ cs ++ c ∷ []) × (is_argument (Some c) ≡ true) × (place_term names ds (length cs) ≡ piece_term cs piece)

  -- The cells of these arguments come behind the cells.
  pub record ArePushed (cs ds : List Cell) (pieces : List Piece) : Type 0 where
    pub size : length ds ≡ length cs + length pieces
    pub arguments : (k : ℕ) → k < length pieces → is_argument (slice_get ds (length cs + k)) ≡ true
    pub terms : (k : ℕ) (d : Piece) → k < length pieces → place_term names ds (length cs + k) ≡ piece_term cs (slice_index_or pieces k d)

-- the variables by their numbers, from this one on
abbrev pub numbered : ℕ → Subst
numbered first k = Variable (first + k)

-- whether the piece stands for a term, where there are so many variables
abbrev pub is_piece : List (List ℕ) → List Cell → ℕ → Piece → Bool
is_piece names cs count (Word w) = is_word names cs w
is_piece names cs count (Place k) = nat_lt k count

-- Each variable from this number on has its cell at its place, or none yet.
pub record HaveCells (cs : List Cell) (first : ℕ) (places : List (Option ℕ)) : Type 0 where
  pub there : (k a : ℕ) → slice_get places k ≡ Some (Some a) → slice_get cs a ≡ Some (Unbound (first + k))
  pub free : (k : ℕ) → slice_get places k ≡ Some None → list_any (has_cell_number (first + k)) cs ≡ false

-- From old to new only cells come, of variables from this number on alone.
pub record GoesOn (first : ℕ) (old new : Heap) : Type 0 where
  pub cells : (es : List Cell) × (new.area.low ≡ old.area.low ++ es)
  pub within : length old.area.low ≤ old.area.capacity → length new.area.low ≤ new.area.capacity
  pub numbers : (n : ℕ) → n < first → list_any (has_cell_number n) new.area.low ≡ list_any (has_cell_number n) old.area.low
  pub substitution : heap_substitution (take new.named new.atoms) new.area.low ≡ heap_substitution (take old.named old.atoms) old.area.low
  pub high : new.area.high ≡ old.area.high
  pub capacity : new.area.capacity ≡ old.area.capacity
  pub atoms : new.atoms ≡ old.atoms
  pub named : new.named ≡ old.named
  pub next : new.next ≡ old.next
  pub newest : new.newest ≡ old.newest

-- The heap, where pieces are its words and so many variables have the numbers from first on.
abbrev pub built : Heap → ℕ → ℕ → Present Piece
built heap first count = record {
  substitution = heap_substitution (take heap.named heap.atoms) heap.area.low;
  next = heap.next;
  cells = length heap.area.low;
  variables = variable_cells heap.area.low;
  limit = heap.area.capacity;
  holds = is_piece (take heap.named heap.atoms) heap.area.low count;
  term = piece_term (take heap.named heap.atoms) first heap.area.low;
  taken = λ n. list_any (has_cell_number n) heap.area.low;
}

-- the variables of so many places, and then these words
abbrev pub known_pieces : ℕ → List HeapWord → List Piece
known_pieces count words = map Place (numbers_from 0 count) ++ map Word words
