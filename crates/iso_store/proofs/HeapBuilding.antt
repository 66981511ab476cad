-- Cells of arguments that come while a term is built in a heap.
use Rattle.std.proofs.Common.{◌≡◌, ◌≢◌, ℕ, ℤ, zero, suc, ◌+◌, ◌-◌, ◌<◌, ◌≤◌, List, [], ◌∷◌, ◌++◌, length, map, take, set, get_or, true, false, refl, ap, ap₂, sym, ◌∙◌, subst, arith, length-append, Option, Some, ◌⊎◌, inl, inr}
use Rattle.std.specs.List.{slice_get, list_any}
use Rattle.std.proofs.lemmas.Bool.{ne_eqb}
use Rattle.std.proofs.lemmas.List.{append-nil, append_assoc, get_or_append_left, get_or-map, length-map}
use Rattle.std.proofs.lemmas.Option.{slice_get_within}
use Rattle.std.proofs.Math.Seq.{get_or-append_seam}
use Rattle.iso_atoms.specs.Texts.{text_at}
use Rattle.iso_model.specs.Terms.Trees.{Tree, Variable, Integer, Apply, End, row}
use Rattle.iso_model.specs.Terms.Substitutions.{Subst, apply}
use Rattle.iso_model.specs.Terms.Building.{with_step}
use Rattle.iso_store_core.specs.declared.patterns.Part.{Part}
use Rattle.iso_store_core.specs.Patterns.{part_step}
use Rattle.iso_store.specs.declared.heap.Heap.{Heap}
use Rattle.iso_store.specs.declared.heap_cells.HeapWord.{HeapWord}
use Rattle.iso_store.specs.declared.heap_cells.HeapWord.TheVariants.{Var, Structure, Boxed}
use Rattle.iso_store.specs.declared.heap_cells.Piece.{Piece}
use Rattle.iso_store.specs.declared.heap_cells.Piece.TheVariants.{Word, Variable as Place}
use Rattle.iso_store.specs.declared.heap_cells.Cell.{Cell}
use Rattle.iso_store.specs.declared.heap_cells.Cell.TheVariants.{Unbound, Argument, Functor, Wide}
use Rattle.iso_store.specs.HeapTerms.{made_term}
use Rattle.iso_store.specs.HeapStores.{has_cell_number, is_argument, is_functor, is_wide, is_word, is_variable_cell, IsFunctor, IsHeap, MayCome}
use Rattle.iso_store.specs.HeapBuilds.{ArePushed, GoesOn, HaveCells, IsPushed, built, is_piece, piece_term}
use Rattle.iso_store.specs.HeapLemmas.{place_term, place_term-unbound, place_term-argument, place_term-wide, place_term-more, place_term-functor, terms_before, before-length, before-at, made_term-more}
use Rattle.iso_store.specs.HeapNumbers.{word_before}
use Rattle.iso_store.specs.Slices.{slice_get-last, slice_get-push, slice_get-set}
use Rattle.iso_store_core.specs.Presents.{Present, Gathers, KeepsWords, Makes}
use Rattle.iso_store.proofs.Gathering.{keeps-then}
use Rattle.iso_store.proofs.InstanceLemmas.{part-applied}
use Rattle.iso_store.proofs.HeapCompounds.{list-ext}
use Rattle.iso_store.proofs.HeapPushes.{substitution-more}
use Rattle.iso_store.proofs.HeapMade.{taken-more, word-along}

eq-cases : (j k : ℕ) → (j ≡ k) ⊎ (j ≢ k)
eq-cases zero zero = inl refl
eq-cases zero (suc k) = inr (λ e. omega arith)
eq-cases (suc j) zero = inr (λ e. omega arith)
eq-cases (suc j) (suc k) = elim (eq-cases j k) [ inl e ↦ inl (ap suc e) | inr e ↦ inr (λ f. e (omega arith)) ]

pub lt-or-same : (k n : ℕ) → k < n + 1 → (k < n) ⊎ (k ≡ n)
lt-or-same k n below = elim (eq-cases k n) [ inl same ↦ inr same | inr other ↦ inl (below-other k n below other) ]
  where
    below-other : (k n : ℕ) → k < n + 1 → k ≢ n → k < n
    below-other zero zero below other = absurd (other refl)
    below-other zero (suc n) below other = omega arith
    below-other (suc k) zero below other = absurd (omega arith)
    below-other (suc k) (suc n) below other = let inner = below-other k n (omega arith) (λ e. other (ap suc e)) in omega arith

slice_get-is : {X : Type 0} (xs : List X) (k : ℕ) (x : X) → k < length xs → slice_get (set xs k x) k ≡ Some x
slice_get-is [] k x below = absurd (omega arith)
slice_get-is (y ∷ xs) zero x below = refl
slice_get-is (y ∷ xs) (suc k) x below = slice_get-is xs k x (omega arith)

-- ---- a cell more
module _ (first : ℕ) (old new : Heap) (c : Cell) (heap : IsHeap (take old.named old.atoms) old.area.low old.next) (may : MayCome (take old.named old.atoms) old.area.low old.next c) (numbers : (n : ℕ) → n < first → has_cell_number n c ≡ false)
    (high : new.area.high ≡ old.area.high) (capacity : new.area.capacity ≡ old.area.capacity) (atoms : new.atoms ≡ old.atoms) (named : new.named ≡ old.named) (next : new.next ≡ old.next) (newest : new.newest ≡ old.newest) where
  pub pushed-goes : new.area.low ≡ old.area.low ++ c ∷ [] → length old.area.low < old.area.capacity → GoesOn first old new
  pushed-goes low room = record {
    cells = (c ∷ [], low);
    within = let size = ap length low ∙ length-append old.area.low (c ∷ []) in λ _. omega arith;
    numbers = λ n below. ap (list_any (has_cell_number n)) low ∙ taken-more old.area.low c n (numbers n below);
    substitution = rw (named, atoms, low) (substitution-more (take old.named old.atoms) old.area.low old.next heap c may);
    high = high;
    capacity = capacity;
    atoms = atoms;
    named = named;
    next = next;
    newest = newest;
  }

-- ---- the cells of variables
module _ (cs : List Cell) (first : ℕ) (places : List (Option ℕ)) (have : HaveCells cs first places) where
  -- a cell more that is no variable
  pub cells-other : (ds : List Cell) (c : Cell) → ((n : ℕ) → has_cell_number n c ≡ false) → ds ≡ cs ++ c ∷ [] → HaveCells ds first places
  cells-other ds c none low = record {
    there = λ k a is. let at = have.there k a is in ap (λ xs. slice_get xs a) low ∙ slice_get-push cs c a (slice_get_within cs a _ at) ∙ at;
    free = λ k is. ap (list_any (has_cell_number (first + k))) low ∙ taken-more cs c (first + k) (none (first + k)) ∙ have.free k is;
  }

  pub variable-word : (names : List (List ℕ)) (k a : ℕ) → slice_get places k ≡ Some (Some a) → is_word names cs (Var a) ≡ true
  variable-word names k a is = ap is_variable_cell (have.there k a is)

-- a variable that comes has its cell at its place
module _ (cs : List Cell) (first : ℕ) (places : List (Option ℕ)) (have : HaveCells cs first places) (k : ℕ) (below : k < length places) (ds : List Cell) (low : ds ≡ cs ++ Unbound (first + k) ∷ []) where
  kept-at : (a : ℕ) (c : Cell) → slice_get cs a ≡ Some c → slice_get ds a ≡ Some c
  kept-at a c at = ap (λ xs. slice_get xs a) low ∙ slice_get-push cs (Unbound (first + k)) a (slice_get_within cs a c at) ∙ at

  pub cells-variable : HaveCells ds first (set places k (Some (length cs)))
  cells-variable = record {
    there = λ j a is.
        elim (eq-cases j k) [
          | inl same ↦
              let here = slice_get-is places k (Some (length cs)) below in
              let place : a ≡ length cs = cc in
              subst (λ b. slice_get ds b ≡ Some (Unbound (first + j))) (sym place) (ap (λ xs. slice_get xs (length cs)) low ∙ slice_get-last cs (Unbound (first + k)) ∙ ap (λ n. Some (Unbound (first + n))) (sym same))
          | inr other ↦ kept-at a (Unbound (first + j)) (have.there j a (sym (slice_get-set places k j (Some (length cs)) other) ∙ is))
        ];
    free = λ j is.
        elim (eq-cases j k) [
          | inl same ↦ let here = slice_get-is places k (Some (length cs)) below in absurd (cc)
          | inr other ↦
              ap (list_any (has_cell_number (first + j))) low ∙ taken-more cs (Unbound (first + k)) (first + j) (ne_eqb (first + k) (first + j) (λ e. other (omega arith)))
              ∙ have.free j (sym (slice_get-set places k j (Some (length cs)) other) ∙ is)
        ];
  }

-- ---- what is pushed
module _ (names : List (List ℕ)) (first next : ℕ) (cs ds : List Cell) where
  pub word-pushed : (w : HeapWord) → IsHeap names ds next → is_word names cs w ≡ true → ds ≡ cs ++ Argument w ∷ [] → IsPushed names first cs ds (Word w)
  word-pushed w heap holds low =
      let there : slice_get ds (length cs) ≡ Some (Argument w) = ap (λ xs. slice_get xs (length cs)) low ∙ slice_get-last cs (Argument w) in
      let before = word_before names cs w holds in
      (Argument w, low, refl, place_term-argument names ds (length cs) w there (heap.argument (length cs) w there).1 ∙ ap (λ xs. made_term names xs w) low ∙ made_term-more names cs (Argument w ∷ []) w before)

  pub place-pushed : (k a : ℕ) → IsHeap names ds next → slice_get cs a ≡ Some (Unbound (first + k)) → ds ≡ cs ++ Argument (Var a) ∷ [] → IsPushed names first cs ds (Place k)
  place-pushed k a heap at low =
      let pushed = word-pushed (Var a) heap (ap is_variable_cell at) low in
      (pushed.0, pushed.1, pushed.2, pushed.3 ∙ place_term-unbound names cs a (first + k) at)

  pub variable-pushed : (k : ℕ) → ds ≡ cs ++ Unbound (first + k) ∷ [] → IsPushed names first cs ds (Place k)
  variable-pushed k low =
      (Unbound (first + k), low, refl, place_term-unbound names ds (length cs) (first + k) (ap (λ xs. slice_get xs (length cs)) low ∙ slice_get-last cs (Unbound (first + k))))

-- ---- one behind the other
pub goes-same : (first : ℕ) (a b : Heap) → b.area.low ≡ a.area.low → b.area.high ≡ a.area.high → b.area.capacity ≡ a.area.capacity → b.atoms ≡ a.atoms → b.named ≡ a.named → b.next ≡ a.next → b.newest ≡ a.newest → GoesOn first a b
goes-same first a b low high capacity atoms named next newest = record {
  cells = ([], low ∙ sym (append-nil a.area.low));
  within = rw (low, capacity) (λ below. below);
  numbers = λ n below. ap (list_any (has_cell_number n)) low;
  substitution = rw (named, atoms, low) refl;
  high = high;
  capacity = capacity;
  atoms = atoms;
  named = named;
  next = next;
  newest = newest;
}

pub goes-none : (first : ℕ) (h : Heap) → GoesOn first h h
goes-none first h = goes-same first h h refl refl refl refl refl refl refl

pub goes-then : {first : ℕ} {a b c : Heap} → GoesOn first a b → GoesOn first b c → GoesOn first a c
goes-then {first} {a} {b} {c} one two = record {
  cells = (one.cells.0 ++ two.cells.0, two.cells.1 ∙ ap (λ xs. xs ++ two.cells.0) one.cells.1 ∙ append_assoc a.area.low one.cells.0 two.cells.0);
  within = λ below. two.within (one.within below);
  numbers = λ n below. two.numbers n below ∙ one.numbers n below;
  substitution = two.substitution ∙ one.substitution;
  high = two.high ∙ one.high;
  capacity = two.capacity ∙ one.capacity;
  atoms = two.atoms ∙ one.atoms;
  named = two.named ∙ one.named;
  next = two.next ∙ one.next;
  newest = two.newest ∙ one.newest;
}

-- a piece stands on, for its term
module _ (names : List (List ℕ)) (first count : ℕ) (cs es : List Cell) where
  pub piece-along : (p : Piece) → is_piece names cs count p ≡ true → is_piece names (cs ++ es) count p ≡ true
  piece-along (Word w) h = word-along names cs es w h
  piece-along (Place k) h = h

  pub piece-kept : (p : Piece) → is_piece names cs count p ≡ true → piece_term names first (cs ++ es) p ≡ piece_term names first cs p
  piece-kept (Word w) h = made_term-more names cs es w (word_before names cs w h)
  piece-kept (Place k) h = refl

-- an argument more is pushed
module _ (names : List (List ℕ)) (first count : ℕ) (cs now ds : List Cell) (ps : List Piece) (p : Piece) (es : List Cell) (grown : now ≡ cs ++ es) (holds : is_piece names cs count p ≡ true) where
  pub pushed-more : ArePushed names first cs now ps → IsPushed names first now ds p → ArePushed names first cs ds (ps ++ p ∷ [])
  pushed-more so one =
      let before = so.size in
      let long = length-append ps (p ∷ []) in
      record {
        size = let more = ap length one.1 ∙ length-append now (one.0 ∷ []) in omega arith;
        arguments = λ k below.
            elim (lt-or-same k (length ps) (omega arith)) [
              | inl less ↦ ap is_argument (ap (λ xs. slice_get xs (length cs + k)) one.1 ∙ slice_get-push now one.0 (length cs + k) (omega arith)) ∙ so.arguments k less
              | inr same ↦ let at : length cs + k ≡ length now = omega arith in ap is_argument (ap₂ slice_get one.1 at ∙ slice_get-last now one.0) ∙ one.2
            ];
        terms = λ k d below.
            elim (lt-or-same k (length ps) (omega arith)) [
              | inl less ↦
                  ap (λ xs. place_term names xs (length cs + k)) one.1 ∙ place_term-more names now (one.0 ∷ []) (length cs + k) (omega arith) ∙ so.terms k d less
                  ∙ ap (piece_term names first cs) (sym (get_or_append_left ps (p ∷ []) d k less))
              | inr same ↦
                  let at : length cs + k ≡ length now = omega arith in
                  let last : get_or (ps ++ p ∷ []) k d ≡ p = ap (λ j. get_or (ps ++ p ∷ []) j d) same ∙ get_or-append_seam ps p [] d in
                  ap (place_term names ds) at ∙ one.3 ∙ ap (λ xs. piece_term names first xs p) grown ∙ piece-kept names first count cs es p holds ∙ ap (piece_term names first cs) (sym last)
            ];
      }

-- what stands goes on
module _ {first : ℕ} {old new : Heap} (goes : GoesOn first old new) (count : ℕ) where
  abbrev names : List (List ℕ)
  names = take old.named old.atoms

  same-names : take new.named new.atoms ≡ names
  same-names = ap₂ take goes.named goes.atoms

  pub piece-stands : (p : Piece) → is_piece names old.area.low count p ≡ true → is_piece (take new.named new.atoms) new.area.low count p ≡ true
  piece-stands p h = rw (goes.named, goes.atoms, goes.cells.1) (piece-along names first count old.area.low goes.cells.0 p h)

  pub goes-words : KeepsWords (built old first count) (built new first count)
  goes-words = record {
    stand = piece-stands;
    terms = λ p h. rw (goes.named, goes.atoms, goes.cells.1) (piece-kept names first count old.area.low goes.cells.0 p h);
  }

-- an integer comes with its cell
module _ (first : ℕ) (old new : Heap) (z : ℤ) (goes : GoesOn first old new) (low : new.area.low ≡ old.area.low ++ Wide z ∷ []) where
  pub wide-comes : (count : ℕ) → Makes (built old first count) (built new first count) (Word (Boxed (length old.area.low))) (Integer z)
  wide-comes count = record {
    words = goes-words goes count;
    substitution = goes.substitution;
    holds = rw low (ap is_wide (slice_get-last old.area.low (Wide z)));
    term = rw low (place_term-wide (take new.named new.atoms) (old.area.low ++ Wide z ∷ []) (length old.area.low) z (slice_get-last old.area.low (Wide z)));
  }

-- ---- a functor behind its arguments
module _ (names : List (List ℕ)) (first : ℕ) (cs ds : List Cell) (ps : List Piece) (f : ℕ) (pushed : ArePushed names first cs ds ps) where
  size-before : length ds - length ps ≡ length cs
  size-before = let all = pushed.size in omega arith

  functor-comes : f < length names → 0 < length ps → length ps < 256 → IsFunctor names ds (length ds) f (length ps)
  functor-comes name some few = record {
    name = name;
    some = some;
    few = few;
    room = let all = pushed.size in omega arith;
    arguments = λ k below. ap (λ n. is_argument (slice_get ds (n + k))) size-before ∙ pushed.arguments k below;
  }

  compound-term : place_term names (ds ++ Functor f (length ps) ∷ []) (length ds) ≡ Apply (text_at names f) (row (map (piece_term names first cs) ps))
  compound-term =
      let c = Functor f (length ps) in
      let all = pushed.size in
      let within : length ds < length (ds ++ c ∷ []) = omega (arith, length-append ds (c ∷ [])) in
      let room : length ps ≤ length ds = omega arith in
      let one = before-length names (ds ++ c ∷ []) (length ds) (length ps) room within in
      let other = length-map ps (piece_term names first cs) in
      place_term-functor names (ds ++ c ∷ []) (length ds) f (length ps) (slice_get-last ds c)
      ∙ ap (λ us. Apply (text_at names f) (row us))
      (list-ext (terms_before names (ds ++ c ∷ []) (length ds) (length ps)) (map (piece_term names first cs) ps) (omega arith)
      (λ k below.
      before-at names (ds ++ c ∷ []) (length ds) (length ps) k room (omega arith)
      ∙ ap (λ n. place_term names (ds ++ c ∷ []) (n + k)) size-before
      ∙ place_term-more names ds (c ∷ []) (length cs + k) (omega arith)
      ∙ pushed.terms k (Place 0) (omega arith)
      ∙ sym (get_or-map (piece_term names first cs) ps k (Place 0) End (omega arith))))

-- a compound comes with its functor
module _ (first : ℕ) (old mid : Heap) (ps : List Piece) (f : ℕ) (pushed : ArePushed (take old.named old.atoms) first old.area.low mid.area.low ps) (goes : GoesOn first old mid) (name : f < length (take old.named old.atoms)) (some : 0 < length ps) (few : length ps < 256) where
  pub functor-next : IsFunctor (take mid.named mid.atoms) mid.area.low (length mid.area.low) f (length ps)
  functor-next = rw (goes.named, goes.atoms) (functor-comes (take old.named old.atoms) first old.area.low mid.area.low ps f pushed name some few)

  pub compound-comes : (new : Heap) → new.area.high ≡ mid.area.high → new.area.capacity ≡ mid.area.capacity → new.atoms ≡ mid.atoms → new.named ≡ mid.named → new.next ≡ mid.next → new.newest ≡ mid.newest
      → new.area.low ≡ mid.area.low ++ Functor f (length ps) ∷ [] → length mid.area.low < mid.area.capacity
      → GoesOn first old new × ((count : ℕ) → Makes (built old first count) (built new first count) (Word (Structure (length mid.area.low))) (Apply (text_at (take old.named old.atoms) f) (row (map (built old first count).term ps))))
  compound-comes new high capacity atoms named next newest low room =
      let whole : GoesOn first old new = goes-then goes (pushed-goes first mid new (Functor f (length ps)) mid.is_heap functor-next (λ n below. refl) high capacity atoms named next newest low room) in (
        whole,
        λ count. record {
          words = goes-words whole count;
          substitution = whole.substitution;
          holds = rw low (ap is_functor (slice_get-last mid.area.low (Functor f (length ps))));
          term = rw (low, whole.named, whole.atoms) (compound-term (take old.named old.atoms) first old.area.low mid.area.low ps f pushed);
        },
      )

-- one part more, where the variables have their numbers
pub gathers-step : {W : Type 0} {p q r : Present W} {ws us : List W} (names ns : List (List ℕ)) (s : Subst) (k : Part) (ts : List Tree) → ns ≡ names → Gathers p q ws (map (apply s) ts) → Gathers q r us (with_step (part_step ns s k) (map q.term ws)) → Gathers p r us (map (apply s) (with_step (part_step names Variable k) ts))
gathers-step names ns s k ts same so part = record {
  words = keeps-then so.words part.words;
  substitution = part.substitution ∙ so.substitution;
  hold = part.hold;
  terms = part.terms ∙ ap₂ (λ xs us. with_step (part_step xs s k) us) same so.terms ∙ sym (part-applied names s k ts);
}
