-- What a list of cells stands for: the term of each cell, and one substitution.
use Rattle.std.specs.Prelude.{ℕ, zero, suc, ◌-◌, ◌==◌, List, [], ◌∷◌, ◌++◌, length, drop, Option, Some, None, if◌then◌else◌}
use Rattle.std.specs.List.{slice_index_or}
use Rattle.iso_atoms.specs.Texts.{text_at}
use Rattle.iso_model.specs.Terms.Trees.{Tree, Variable, Integer, Name, Apply, End, row}
use Rattle.iso_model.specs.Terms.Substitutions.{Subst}
use Rattle.iso_store.specs.declared.heap_cells.HeapWord.{HeapWord}
use Rattle.iso_store.specs.declared.heap_cells.HeapWord.TheVariants.{Var, Structure, Int, Boxed, Atom}
use Rattle.iso_store.specs.declared.heap_cells.Cell.{Cell}
use Rattle.iso_store.specs.declared.heap_cells.Cell.TheVariants.{Unbound, Bound, Argument, Functor, Wide, Entry}
use Rattle.iso_store.specs.Rounds.{rounds, rounds_for}

-- the word that the variable of this number is bound to
abbrev pub target : List Cell → ℕ → Option HeapWord
target [] n = None
target (Unbound m ∷ cs) n = target cs n
target (Bound m w ∷ cs) n = if m == n then Some w else target cs n
target (Argument w ∷ cs) n = target cs n
target (Functor f k ∷ cs) n = target cs n
target (Wide z ∷ cs) n = target cs n
target (Entry p ∷ cs) n = target cs n

-- how many variables are bound
abbrev pub bound_count : List Cell → ℕ
bound_count [] = zero
bound_count (Unbound m ∷ cs) = bound_count cs
bound_count (Bound m w ∷ cs) = suc (bound_count cs)
bound_count (Argument w ∷ cs) = bound_count cs
bound_count (Functor f k ∷ cs) = bound_count cs
bound_count (Wide z ∷ cs) = bound_count cs
bound_count (Entry p ∷ cs) = bound_count cs

-- how many of the cells are variables
abbrev pub variable_cells : List Cell → ℕ
variable_cells [] = zero
variable_cells (Unbound m ∷ cs) = suc (variable_cells cs)
variable_cells (Bound m w ∷ cs) = suc (variable_cells cs)
variable_cells (Argument w ∷ cs) = variable_cells cs
variable_cells (Functor f k ∷ cs) = variable_cells cs
variable_cells (Wide z ∷ cs) = variable_cells cs
variable_cells (Entry p ∷ cs) = variable_cells cs

-- where these are the names of the atoms, in the order of their numbers
module _ (names : List (List ℕ)) where
  -- the term of a word, where these are the terms of the cells
  abbrev pub word_term : List Tree → HeapWord → Tree
  word_term ts (Var a) = slice_index_or ts a End
  word_term ts (Structure p) = slice_index_or ts p End
  word_term ts (Int z) = Integer z
  word_term ts (Boxed p) = slice_index_or ts p End
  word_term ts (Atom a) = Name (text_at names a)

  -- the term of a cell, where these are the terms of the cells before it. Bindings don't show in it.
  abbrev pub cell_term : List Tree → Cell → Tree
  cell_term ts (Unbound n) = Variable n
  cell_term ts (Bound n w) = Variable n
  cell_term ts (Argument w) = word_term ts w
  cell_term ts (Functor f n) = Apply (text_at names f) (row (drop (length ts - n) ts))
  cell_term ts (Wide z) = Integer z
  cell_term ts (Entry p) = End

  -- the terms of the cells behind these terms, each made of those before it
  abbrev pub cell_terms : List Tree → List Cell → List Tree
  cell_terms ts [] = ts
  cell_terms ts (c ∷ cs) = cell_terms (ts ++ cell_term ts c ∷ []) cs

  -- the term that the word was made with
  abbrev pub made_term : List Cell → HeapWord → Tree
  made_term cs w = word_term (cell_terms [] cs) w

  abbrev pub optional_term : List Tree → Option HeapWord → Option Tree
  optional_term ts None = None
  optional_term ts (Some w) = Some (word_term ts w)

  -- what each variable is bound to
  abbrev pub heap_bindings : List Cell → ℕ → Option Tree
  heap_bindings cs n = optional_term (cell_terms [] cs) (target cs n)

  -- the substitution of the cells
  abbrev pub heap_substitution : List Cell → Subst
  heap_substitution cs = rounds (heap_bindings cs) (rounds_for (bound_count cs))
