-- Names that come leave a heap as it is.
use Rattle.std.proofs.Common.{◌≡◌, ℕ, zero, suc, ◌<◌, ◌≤◌, List, [], ◌∷◌, ◌++◌, length, take, drop, ◌-◌, true, refl, ap, ap₂, sym, ◌∙◌, subst, arith, Option, Some, None}
use Rattle.std.specs.List.{slice_get}
use Rattle.std.proofs.lemmas.Bool.{lt-ltb, ltb-true}
use Rattle.iso_atoms.specs.Texts.{KeepsTexts}
use Rattle.iso_store_core.proofs.AtomLemmas.{text-kept, atom-kept}
use Rattle.iso_store_core.specs.Presents.{Present, KeepsWords}
use Rattle.iso_model.specs.Terms.Trees.{Tree, Name, Apply, row}
use Rattle.iso_store.specs.declared.heap_cells.HeapWord.{HeapWord}
use Rattle.iso_store.specs.declared.heap_cells.HeapWord.TheVariants.{Var, Structure, Int, Boxed, Atom}
use Rattle.iso_store.specs.declared.heap_cells.Cell.{Cell}
use Rattle.iso_store.specs.declared.heap_cells.Cell.TheVariants.{Unbound, Bound, Argument, Functor, Wide, Entry}
use Rattle.iso_store.specs.declared.heap_cells.HeapMark.{HeapMark}
use Rattle.iso_store.specs.Rounds.{rounds, rounds_for, Settles}
use Rattle.iso_store.specs.HeapTerms.{target, word_term, cell_term, cell_terms, made_term, optional_term, heap_bindings, heap_substitution, bound_count}
use Rattle.iso_store.specs.HeapStores.{is_word, IsFunctor, IsHeap, present_of_heap, HeapStandsFor}
use Rattle.iso_store.specs.HeapNumbers.{target_from}

-- the first names stay
pub take-kept : (old new : List (List ℕ)) (n : ℕ) → KeepsTexts old new → n ≤ length old → take n new ≡ take n old
take-kept old new zero keeps h = refl
take-kept [] new (suc n) keeps h = absurd (omega arith)
take-kept (x ∷ old) [] (suc n) keeps h = let both = keeps 0 x refl in absurd (cc)
take-kept (x ∷ old) (y ∷ new) (suc n) keeps h =
    let first : Some y ≡ Some x = keeps 0 x refl in
    let same : y ≡ x = cc in
    ap₂ (λ z zs. z ∷ zs) same (take-kept old new n (λ place text is. keeps (suc place) text is) (omega arith))

pub first-kept : (names : List (List ℕ)) (n : ℕ) → KeepsTexts (take n names) names
first-kept [] zero place text h = h
first-kept [] (suc n) place text h = h
first-kept (x ∷ names) zero place text h = absurd (cc)
first-kept (x ∷ names) (suc n) zero text h = h
first-kept (x ∷ names) (suc n) (suc place) text h = first-kept names n place text h

-- the atom of the cell, where it has one, is one of those that have these names
abbrev AtomNamed : List (List ℕ) → HeapWord → Type 0
AtomNamed names (Var a) = Unit {0}
AtomNamed names (Structure p) = Unit {0}
AtomNamed names (Int z) = Unit {0}
AtomNamed names (Boxed p) = Unit {0}
AtomNamed names (Atom a) = a < length names

abbrev CellNamed : List (List ℕ) → Cell → Type 0
CellNamed names (Unbound n) = Unit {0}
CellNamed names (Bound n w) = Unit {0}
CellNamed names (Argument w) = AtomNamed names w
CellNamed names (Functor f n) = f < length names
CellNamed names (Wide z) = Unit {0}
CellNamed names (Entry p) = Unit {0}

word-named : (names : List (List ℕ)) (cs : List Cell) (w : HeapWord) → is_word names cs w ≡ true → AtomNamed names w
word-named names cs (Var a) h = tt
word-named names cs (Structure p) h = tt
word-named names cs (Int z) h = tt
word-named names cs (Boxed p) h = tt
word-named names cs (Atom a) h = ltb-true a (length names) h

cell-named : (names : List (List ℕ)) (cs : List Cell) (next : ℕ) → IsHeap names cs next → (a : ℕ) (c : Cell) → slice_get cs a ≡ Some c → CellNamed names c
cell-named names cs next heap a (Unbound n) h = tt
cell-named names cs next heap a (Bound n w) h = tt
cell-named names cs next heap a (Argument w) h = word-named names cs w (heap.argument a w h).0
cell-named names cs next heap a (Functor f n) h = (heap.functor a f n h).name
cell-named names cs next heap a (Wide z) h = tt
cell-named names cs next heap a (Entry p) h = tt

module _ (old new : List (List ℕ)) (keeps : KeepsTexts old new) where
  word_term-kept : (ts : List Tree) (w : HeapWord) → AtomNamed old w → word_term new ts w ≡ word_term old ts w
  word_term-kept ts (Var a) h = refl
  word_term-kept ts (Structure p) h = refl
  word_term-kept ts (Int z) h = refl
  word_term-kept ts (Boxed p) h = refl
  word_term-kept ts (Atom a) h = ap Name (text-kept old new keeps a h)

  cell_term-kept : (ts : List Tree) (c : Cell) → CellNamed old c → cell_term new ts c ≡ cell_term old ts c
  cell_term-kept ts (Unbound n) h = refl
  cell_term-kept ts (Bound n w) h = refl
  cell_term-kept ts (Argument w) h = word_term-kept ts w h
  cell_term-kept ts (Functor f n) h = ap (λ x. Apply x (row (drop (length ts - n) ts))) (text-kept old new keeps f h)
  cell_term-kept ts (Wide z) h = refl
  cell_term-kept ts (Entry p) h = refl

  cell_terms-kept : (ts : List Tree) (cs : List Cell) → ((a : ℕ) (c : Cell) → slice_get cs a ≡ Some c → CellNamed old c) → cell_terms new ts cs ≡ cell_terms old ts cs
  cell_terms-kept ts [] named = refl
  cell_terms-kept ts (c ∷ cs) named =
      ap (λ t. cell_terms new (ts ++ t ∷ []) cs) (cell_term-kept ts c (named 0 c refl)) ∙ cell_terms-kept (ts ++ cell_term old ts c ∷ []) cs (λ a x h. named (suc a) x h)

  module _ (cs : List Cell) (next : ℕ) (heap : IsHeap old cs next) where
    pub terms-kept : cell_terms new [] cs ≡ cell_terms old [] cs
    terms-kept = cell_terms-kept [] cs (cell-named old cs next heap)

    pub word-kept : (w : HeapWord) → is_word old cs w ≡ true → is_word new cs w ≡ true
    word-kept (Var a) h = h
    word-kept (Structure p) h = h
    word-kept (Int z) h = h
    word-kept (Boxed p) h = h
    word-kept (Atom a) h = lt-ltb a (length new) (atom-kept old new keeps a (ltb-true a (length old) h))

    pub made-kept : (w : HeapWord) → is_word old cs w ≡ true → made_term new cs w ≡ made_term old cs w
    made-kept w h = ap (λ ts. word_term new ts w) terms-kept ∙ word_term-kept (cell_terms old [] cs) w (word-named old cs w h)

    optional-kept : (n : ℕ) (o : Option HeapWord) → target cs n ≡ o → optional_term new (cell_terms new [] cs) o ≡ optional_term old (cell_terms old [] cs) o
    optional-kept n None is = refl
    optional-kept n (Some w) is = let from = target_from cs n w is in ap Some (made-kept w (heap.target from.0 n w from.1))

    bindings-kept : heap_bindings new cs ≡ heap_bindings old cs
    bindings-kept = λ i. λ n. optional-kept n (target cs n) refl i

    pub substitution-kept : heap_substitution new cs ≡ heap_substitution old cs
    substitution-kept = ap (λ b. rounds b (rounds_for (bound_count cs))) bindings-kept

    functor-kept : (p f n : ℕ) → IsFunctor old cs p f n → IsFunctor new cs p f n
    functor-kept p f n is = record { name = atom-kept old new keeps f is.name; some = is.some; few = is.few; room = is.room; arguments = is.arguments }

    pub heap-kept : IsHeap new cs next
    heap-kept = record {
      argument = λ a w h. let was = heap.argument a w h in (word-kept w was.0, was.1);
      target = λ a n w h. word-kept w (heap.target a n w h);
      functor = λ p f n h. functor-kept p f n (heap.functor p f n h);
      older = heap.older;
      one_cell = heap.one_cell;
      numbered = heap.numbered;
      entry = heap.entry;
      settled = λ n. subst (λ b. Settles b (rounds_for (bound_count cs)) n) (sym bindings-kept) (heap.settled n);
    }

    pub words-kept : (limit room : ℕ) → KeepsWords (present_of_heap old cs next limit) (present_of_heap new cs next room)
    words-kept limit room = record { stand = word-kept; terms = made-kept }

-- marks stand on
pub marks-kept : (old new : List (List ℕ)) → KeepsTexts old new → length old ≤ length new → (limit newest : ℕ) (cs es : List Cell) (m : HeapMark) (p : Present HeapWord) → HeapStandsFor old limit newest cs es m p → HeapStandsFor new limit newest cs es m p
marks-kept old new keeps grows limit newest cs es m p h =
    let top = h.named_top in
    let same = take-kept old new m.named keeps h.named_top in
    record {
      newest_top = h.newest_top;
      cells_top = h.cells_top;
      trail_top = h.trail_top;
      before_top = h.before_top;
      named_top = omega arith;
      is_heap = rw same h.is_heap;
      counted = h.counted;
      present = rw same h.present;
    }
