-- Terms of cells: they are those of the cells before them, whatever comes behind and whatever is bound.
use Rattle.std.proofs.Common.{◌≡◌, ℕ, ℤ, zero, suc, ◌+◌, ◌-◌, ◌<◌, ◌≤◌, List, [], ◌∷◌, ◌++◌, length, take, drop, set, get_or, refl, ap, sym, ◌∙◌, arith, length-append, length-take, Some, inl, inr}
use Rattle.std.specs.List.{slice_get}
use Rattle.std.proofs.lemmas.List.{append_assoc, get_or_append_left, get_or-drop, get_or-take, length-drop, length-take-le}
use Rattle.std.proofs.lemmas.Option.{slice_get_within, slice_get_cases}
use Rattle.std.proofs.Math.Seq.{get_or-append_seam, take-append_seam}
use Rattle.iso_atoms.specs.Texts.{text_at}
use Rattle.iso_model.specs.Terms.Trees.{Tree, Variable, Integer, Apply, End, row}
use Rattle.iso_store.specs.declared.heap_cells.HeapWord.{HeapWord}
use Rattle.iso_store.specs.declared.heap_cells.HeapWord.TheVariants.{Var, Structure, Int, Boxed, Atom}
use Rattle.iso_store.specs.declared.heap_cells.Cell.{Cell}
use Rattle.iso_store.specs.declared.heap_cells.Cell.TheVariants.{Unbound, Bound, Argument, Functor, Wide}
use Rattle.iso_store.specs.HeapTerms.{word_term, cell_term, cell_terms, made_term}
use Rattle.iso_store.specs.HeapStores.{IsBefore}

-- where these are the names of the atoms
module _ (names : List (List ℕ)) where
  pub cell_terms-append : (ts : List Tree) (cs ds : List Cell) → cell_terms names ts (cs ++ ds) ≡ cell_terms names (cell_terms names ts cs) ds
  cell_terms-append ts [] ds = refl
  cell_terms-append ts (c ∷ cs) ds = cell_terms-append (ts ++ cell_term names ts c ∷ []) cs ds

  pub cell_terms-length : (ts : List Tree) (cs : List Cell) → length (cell_terms names ts cs) ≡ length ts + length cs
  cell_terms-length ts [] = omega arith
  cell_terms-length ts (c ∷ cs) = omega (arith, cell_terms-length (ts ++ cell_term names ts c ∷ []) cs, length-append ts (cell_term names ts c ∷ []))

  -- the terms before stay
  cell_terms-grown : (ts : List Tree) (cs : List Cell) → (us : List Tree) × (cell_terms names ts cs ≡ ts ++ us)
  cell_terms-grown ts [] = ([], append_none ts)
    where
      append_none : (us : List Tree) → us ≡ us ++ []
      append_none [] = refl
      append_none (u ∷ us) = ap (λ xs. u ∷ xs) (append_none us)
  cell_terms-grown ts (c ∷ cs) =
      let t = cell_term names ts c in
      let inner = cell_terms-grown (ts ++ t ∷ []) cs in
      (t ∷ inner.0, inner.1 ∙ append_assoc ts (t ∷ []) inner.0)

  -- the cell at a place: its term is made of those before it
  cell_at : (ts : List Tree) (cs : List Cell) (i w : ℕ) (c : Cell) → slice_get cs i ≡ Some c → w ≡ length ts + i → get_or (cell_terms names ts cs) w End ≡ cell_term names (take w (cell_terms names ts cs)) c
  cell_at ts [] i w c h e = cc
  cell_at ts (x ∷ cs) zero w c h e =
      let is : x ≡ c = cc in
      let here : w ≡ length ts = omega arith in
      let t = cell_term names ts x in
      let inner = cell_terms-grown (ts ++ t ∷ []) cs in
      let whole : cell_terms names (ts ++ t ∷ []) cs ≡ ts ++ t ∷ inner.0 = inner.1 ∙ append_assoc ts (t ∷ []) inner.0 in
      let value : get_or (cell_terms names (ts ++ t ∷ []) cs) w End ≡ t = ap (λ us. get_or us w End) whole ∙ ap (λ k. get_or (ts ++ t ∷ inner.0) k End) here ∙ get_or-append_seam ts t inner.0 End in
      let before : take w (cell_terms names (ts ++ t ∷ []) cs) ≡ ts = ap (take w) whole ∙ ap (λ k. take k (ts ++ t ∷ inner.0)) here ∙ take-append_seam ts (t ∷ inner.0) in
      value ∙ ap (cell_term names ts) is ∙ ap (λ us. cell_term names us c) (sym before)
  cell_at ts (x ∷ cs) (suc i) w c h e =
      cell_at (ts ++ cell_term names ts x ∷ []) cs i w c h (omega (arith, length-append ts (cell_term names ts x ∷ [])))

  -- the term of the cell at this place
  abbrev pub place_term : List Cell → ℕ → Tree
  place_term cs a = get_or (cell_terms names [] cs) a End

  pub place_term-is : (cs : List Cell) (a : ℕ) (c : Cell) → slice_get cs a ≡ Some c → place_term cs a ≡ cell_term names (take a (cell_terms names [] cs)) c
  place_term-is cs a c h = cell_at [] cs a a c h (omega arith)

  pub place_term-unbound : (cs : List Cell) (a n : ℕ) → slice_get cs a ≡ Some (Unbound n) → place_term cs a ≡ Variable n
  place_term-unbound cs a n h = place_term-is cs a (Unbound n) h

  pub place_term-bound : (cs : List Cell) (a n : ℕ) (w : HeapWord) → slice_get cs a ≡ Some (Bound n w) → place_term cs a ≡ Variable n
  place_term-bound cs a n w h = place_term-is cs a (Bound n w) h

  pub place_term-wide : (cs : List Cell) (a : ℕ) (z : ℤ) → slice_get cs a ≡ Some (Wide z) → place_term cs a ≡ Integer z
  place_term-wide cs a z h = place_term-is cs a (Wide z) h

  -- a word that leads to a cell before this place has its term from the cells before
  word_term-before : (ts : List Tree) (a : ℕ) (w : HeapWord) → IsBefore a w → word_term names (take a ts) w ≡ word_term names ts w
  word_term-before ts a (Var b) below = get_or-take a ts b End below
  word_term-before ts a (Structure p) below = get_or-take a ts p End below
  word_term-before ts a (Int z) below = refl
  word_term-before ts a (Boxed p) below = get_or-take a ts p End below
  word_term-before ts a (Atom x) below = refl

  pub place_term-argument : (cs : List Cell) (a : ℕ) (w : HeapWord) → slice_get cs a ≡ Some (Argument w) → IsBefore a w → place_term cs a ≡ made_term names cs w
  place_term-argument cs a w h below = place_term-is cs a (Argument w) h ∙ word_term-before (cell_terms names [] cs) a w below

  -- the terms of the n cells before this place
  abbrev pub terms_before : List Cell → ℕ → ℕ → List Tree
  terms_before cs p n = drop (p - n) (take p (cell_terms names [] cs))

  pub place_term-functor : (cs : List Cell) (p f n : ℕ) → slice_get cs p ≡ Some (Functor f n) → place_term cs p ≡ Apply (text_at names f) (row (terms_before cs p n))
  place_term-functor cs p f n h =
      let within : p < length cs = slice_get_within cs p (Functor f n) h in
      let ts = take p (cell_terms names [] cs) in
      let size : length ts ≡ p = omega (arith, length-take p (cell_terms names [] cs), cell_terms-length [] cs) in
      place_term-is cs p (Functor f n) h ∙ ap (λ k. Apply (text_at names f) (row (drop (k - n) ts))) size

  pub before-length : (cs : List Cell) (p n : ℕ) → n ≤ p → p < length cs → length (terms_before cs p n) ≡ n
  before-length cs p n room within =
      let ts = cell_terms names [] cs in
      let size = cell_terms-length [] cs in
      let taken : length (take p ts) ≡ p = length-take-le p ts (omega arith) in
      omega (arith, length-drop (p - n) (take p ts))

  pub before-at : (cs : List Cell) (p n i : ℕ) → n ≤ p → i < n → get_or (terms_before cs p n) i End ≡ place_term cs (p - n + i)
  before-at cs p n i room below =
      let ts = cell_terms names [] cs in
      get_or-drop (p - n) (take p ts) i End ∙ get_or-take p ts (p - n + i) End (omega arith)

  -- what is true of the term of each cell before the place top if it is true of those of the cells before
  module _ (P : Tree → Type 0) (cs : List Cell) (top : ℕ) (within : top ≤ length cs) (each : (a : ℕ) (c : Cell) → slice_get cs a ≡ Some c → a < top → ((j : ℕ) → j < a → P (place_term cs j)) → P (place_term cs a)) where
    place_below : (k a : ℕ) → a < k → a < top → P (place_term cs a)
    place_below zero a h below = absurd (omega arith)
    place_below (suc k) a h below =
        elim ((slice_get_cases cs a).1) [
          | inl found ↦ each a found.0 found.2 below (λ j less. place_below k j (omega arith) (omega arith))
          | inr past ↦ let beyond = past.0 in absurd (omega arith)
        ]

    pub each_place : (a : ℕ) → a < top → P (place_term cs a)
    each_place a below = place_below (suc a) a (omega arith) below

  -- cells more
  pub place_term-more : (cs ds : List Cell) (a : ℕ) → a < length cs → place_term (cs ++ ds) a ≡ place_term cs a
  place_term-more cs ds a h =
      let grown = cell_terms-grown (cell_terms names [] cs) ds in
      ap (λ ts. get_or ts a End) (cell_terms-append [] cs ds ∙ grown.1) ∙ get_or_append_left (cell_terms names [] cs) grown.0 End a (omega (arith, cell_terms-length [] cs))

  pub made_term-more : (cs ds : List Cell) (w : HeapWord) → IsBefore (length cs) w → made_term names (cs ++ ds) w ≡ made_term names cs w
  made_term-more cs ds (Var a) below = place_term-more cs ds a below
  made_term-more cs ds (Structure p) below = place_term-more cs ds p below
  made_term-more cs ds (Int z) below = refl
  made_term-more cs ds (Boxed p) below = place_term-more cs ds p below
  made_term-more cs ds (Atom a) below = refl

  -- a binding doesn't show
  pub cell_terms-bound : (ts : List Tree) (cs : List Cell) (e n : ℕ) (w : HeapWord) → slice_get cs e ≡ Some (Unbound n) → cell_terms names ts (set cs e (Bound n w)) ≡ cell_terms names ts cs
  cell_terms-bound ts [] e n w h = refl
  cell_terms-bound ts (c ∷ cs) zero n w h =
      let is : Unbound n ≡ c = cc in
      ap (λ x. cell_terms names (ts ++ cell_term names ts x ∷ []) cs) is
  cell_terms-bound ts (c ∷ cs) (suc e) n w h = cell_terms-bound (ts ++ cell_term names ts c ∷ []) cs e n w h
