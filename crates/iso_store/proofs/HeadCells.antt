-- How many cells it takes to make what of a head is unified later.
use Rattle.std.proofs.Common.{◌≡◌, ℕ, zero, suc, ◌+◌, ◌-◌, ◌<◌, ◌≤◌, List, [], ◌∷◌, ◌++◌, length, take, get_or, refl, ap, ◌∙◌, arith}
use Rattle.iso_model.specs.Terms.Trees.{Tree, Variable, Integer, Name, Apply, End, More, row}
use Rattle.iso_store_core.specs.declared.patterns.Part.{Part}
use Rattle.iso_store_core.specs.declared.shapes.Shape.{Shape}
use Rattle.iso_store_core.specs.Arguments.{arguments, listed}
use Rattle.iso_store_core.specs.Copying.{cells_of}
use Rattle.iso_store.specs.declared.reading.Later.{Later}
use Rattle.iso_store.specs.Reading.{first_terms, term_between, later_cells, LaterWithin, IsBetween, Shows}
use Rattle.iso_store.proofs.InstanceLemmas.{cells-append, leaf-cells}
use Rattle.iso_store.proofs.WordLemmas.{take-more}

-- arguments take no more than their compound
listed-cells : (atomic : ℕ) (width : ℕ → ℕ) (t : Tree) → cells_of atomic width (row (listed t)) ≤ cells_of atomic width t
listed-cells atomic width (Variable n) = omega arith
listed-cells atomic width (Integer z) = omega arith
listed-cells atomic width (Name a) = omega arith
listed-cells atomic width (Apply f ts) = omega arith
listed-cells atomic width End = omega arith
listed-cells atomic width (More t ts) = omega (arith, listed-cells atomic width ts)

argument-cells : (atomic : ℕ) (width : ℕ → ℕ) (t : Tree) → cells_of atomic width (row (listed (arguments t))) ≤ cells_of atomic width t
argument-cells atomic width (Variable n) = omega arith
argument-cells atomic width (Integer z) = omega arith
argument-cells atomic width (Name a) = omega arith
argument-cells atomic width (Apply f ts) = omega (arith, listed-cells atomic width ts)
argument-cells atomic width End = omega arith
argument-cells atomic width (More t ts) = omega arith

module _ (names : List (List ℕ)) (ks : List Part) where
  pub later-none : {W : Type 0} (later : List (Later W)) → later ≡ [] → LaterWithin names ks later (length ks)
  later-none [] none atomic width = omega arith
  later-none (l ∷ ls) none atomic width = absurd (let long = ap length none in omega arith)

  pub later-end : {W : Type 0} (later : List (Later W)) (at : ℕ) → LaterWithin names ks later at → LaterWithin names ks later 0
  later-end later at within atomic width =
      let here = within atomic width in
      let none : cells_of atomic width (row (first_terms names ks 0)) ≡ 0 = refl in
      omega arith

  later-push : {W : Type 0} (atomic : ℕ) (width : ℕ → ℕ) (later : List (Later W)) (l : Later W)
      → later_cells names ks atomic width (later ++ l ∷ []) ≡ later_cells names ks atomic width later + cells_of atomic width (term_between names ks l.from l.past)
  later-push atomic width [] l = omega arith
  later-push atomic width (m ∷ ms) l = omega (arith, later-push atomic width ms l)

  -- a part more is left for later
  pub later-part : {W : Type 0} (later laters : List (Later W)) (l : Later W) → IsBetween names ks l.from l.past → laters ≡ later ++ l ∷ [] → LaterWithin names ks later l.past → LaterWithin names ks laters l.from
  later-part later laters l between more within atomic width =
      let here = within atomic width in
      let pushed = ap (later_cells names ks atomic width) more ∙ later-push atomic width later l in
      let last = ap (λ ts. cells_of atomic width (row ts)) between.last ∙ leaf-cells atomic width (first_terms names ks l.from) (term_between names ks l.from l.past) in
      omega arith

  -- a variable was read
  pub later-variable : {W : Type 0} (later : List (Later W)) (at place : ℕ) → first_terms names ks at ≡ first_terms names ks (at - 1) ++ Variable place ∷ [] → LaterWithin names ks later at → LaterWithin names ks later (at - 1)
  later-variable later at place last within atomic width =
      let here = within atomic width in
      let one = ap (λ ts. cells_of atomic width (row ts)) last ∙ leaf-cells atomic width (first_terms names ks (at - 1)) (Variable place) in
      omega arith

  -- a part that shows a shape was read
  pub later-shape : {W : Type 0} (later : List (Later W)) (at : ℕ) (shape : Shape) (us : List Tree) (a : Tree) → Shows names ks at shape us a → LaterWithin names ks later at → LaterWithin names ks later (at - 1)
  later-shape later at shape us a shows within atomic width =
      let here = within atomic width in
      let whole = ap (λ ts. cells_of atomic width (row ts)) shows.whole ∙ leaf-cells atomic width us a in
      let opened = ap (λ ts. cells_of atomic width (row ts)) shows.opened ∙ cells-append atomic width us (listed (arguments a)) in
      let fewer = argument-cells atomic width a in
      omega arith

  -- so many of what is left for later
  pub later-next : {W : Type 0} (atomic : ℕ) (width : ℕ → ℕ) (later : List (Later W)) (i : ℕ) (l : Later W) → i < length later → l ≡ get_or later i l
      → later_cells names ks atomic width (take (i + 1) later) ≡ later_cells names ks atomic width (take i later) + cells_of atomic width (term_between names ks l.from l.past)
  later-next atomic width later i l below is = ap (later_cells names ks atomic width) (take-more later i l below is) ∙ later-push atomic width (take i later) l

  pub later-fewer : {W : Type 0} (atomic : ℕ) (width : ℕ → ℕ) (later : List (Later W)) (i : ℕ) → later_cells names ks atomic width (take i later) ≤ later_cells names ks atomic width later
  later-fewer atomic width [] zero = omega arith
  later-fewer atomic width [] (suc i) = omega arith
  later-fewer atomic width (l ∷ ls) zero = omega arith
  later-fewer atomic width (l ∷ ls) (suc i) = omega (arith, later-fewer atomic width ls i)
