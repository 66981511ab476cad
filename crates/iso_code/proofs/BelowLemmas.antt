-- The variables of the code of a head are those of its arguments.
use Rattle.std.proofs.Common.{◌≡◌, ◌<◌, ℕ, ◌+◌, Bool, true, List, [], ◌∷◌, length, map, refl}
use Rattle.std.specs.List.{All}
use Rattle.std.proofs.lemmas.Bool.{eq-eqb, or_left, or_right}
use Rattle.std.proofs.lemmas.List.Elements.{All-nil, All-cons, All-head, All-tail, All-append, All-same}
use Rattle.std.proofs.lemmas.Option.{slice_get_within}
use Rattle.iso_model.specs.Terms.Trees.{Tree, Variable, Integer, Name, Apply, End, More}
use Rattle.iso_model.specs.Terms.Variables.{occurs}
use Rattle.iso_alloc.specs.declared.places.Place.{Place}
use Rattle.iso_compile.specs.Table as table
use Rattle.iso_compile.specs.Table.{Number, Atom, Inner}
use Rattle.iso_compile.specs.TermCode.{tops, deep, part, parts, blocks}
use Rattle.iso_compile.specs.Heads as heads
use Rattle.iso_compile.specs.Heads.{get, gets, head_blocks}
use Rattle.iso_compile.specs.declared.instructions.Part.{Part}
use Rattle.iso_compile.specs.declared.instructions.Part.TheVariants as compiled
use Rattle.iso_compile.specs.declared.instructions.Block as compiled_block
use Rattle.iso_compile.specs.declared.instructions.Get as compiled_get
use Rattle.iso_compile.specs.Emitted as emitted
use Rattle.iso_compile.specs.Emitted.{AreNew, part_of, block_of, get_of, part_got, all_parts}
use Rattle.iso_code.specs.Loading.{IsBelow, parts_met}

module _ (count : ℕ) where
  -- the variable is one of so many
  abbrev IsLow : table.Part → Type 0
  IsLow (table.Place x) = x < count
  IsLow p = Unit {0}

  abbrev HasLow : table.Block → Type 0
  HasLow b = All IsLow b.parts

  abbrev GetsLow : heads.Get → Type 0
  GetsLow g = IsLow g.part

  -- so are all variables of the term
  abbrev AreLow : Tree → Type 0
  AreLow t = (x : ℕ) → occurs x t ≡ true → x < count

  first_low : (t ts : Tree) → AreLow (More t ts) → AreLow t
  first_low t ts h x is = h x (or_left (occurs x t) (occurs x ts) is)

  rest_low : (t ts : Tree) → AreLow (More t ts) → AreLow ts
  rest_low t ts h x is = h x (or_right (occurs x t) (occurs x ts) is)

  -- ---- by the table

  part_low : (r : ℕ) (t : Tree) → AreLow t → IsLow (part r t)
  part_low r (Variable x) h = h x (eq-eqb x x refl)
  part_low r (Integer z) h = tt
  part_low r (Name a) h = tt
  part_low r (Apply f ts) h = tt
  part_low r End h = tt
  part_low r (More t ts) h = tt

  parts_low : (r : ℕ) (ts : Tree) → AreLow ts → All IsLow (parts r ts)
  parts_low r (More t ts) h = All-cons IsLow (part r t) (parts (r + tops t) ts) (part_low r t (first_low t ts h)) (parts_low (r + tops t) ts (rest_low t ts h))
  parts_low r (Variable x) h = All-nil IsLow
  parts_low r (Integer z) h = All-nil IsLow
  parts_low r (Name a) h = All-nil IsLow
  parts_low r (Apply f ts) h = All-nil IsLow
  parts_low r End h = All-nil IsLow

  blocks_low : (r m : ℕ) (t : Tree) → AreLow t → All HasLow (blocks r m t)
  blocks_low r m (Apply f ts) h =
      All-cons HasLow (record { register = r; name = f; parts = parts m ts; inner = tops ts + deep ts }) (blocks m (m + tops ts) ts) (parts_low m ts h) (blocks_low m (m + tops ts) ts h)
  blocks_low r m (More t ts) h =
      All-append HasLow (blocks r m t) (blocks (r + tops t) (m + deep t) ts) (blocks_low r m t (first_low t ts h)) (blocks_low (r + tops t) (m + deep t) ts (rest_low t ts h))
  blocks_low r m (Variable x) h = All-nil HasLow
  blocks_low r m (Integer z) h = All-nil HasLow
  blocks_low r m (Name a) h = All-nil HasLow
  blocks_low r m End h = All-nil HasLow

  heads_low : (i m : ℕ) (ts : Tree) → AreLow ts → All HasLow (head_blocks i m ts)
  heads_low i m (More t ts) h =
      All-append HasLow (blocks i m t) (head_blocks (i + 1) (m + deep t) ts) (blocks_low i m t (first_low t ts h)) (heads_low (i + 1) (m + deep t) ts (rest_low t ts h))
  heads_low i m (Variable x) h = All-nil HasLow
  heads_low i m (Integer z) h = All-nil HasLow
  heads_low i m (Name a) h = All-nil HasLow
  heads_low i m (Apply f ts) h = All-nil HasLow
  heads_low i m End h = All-nil HasLow

  get_low : (i : ℕ) (t : Tree) → AreLow t → All GetsLow (get i t)
  get_low i (Variable x) h = All-cons GetsLow (record { register = i; part = table.Place x }) [] (part_low i (Variable x) h) (All-nil GetsLow)
  get_low i (Integer z) h = All-cons GetsLow (record { register = i; part = Number z }) [] tt (All-nil GetsLow)
  get_low i (Name a) h = All-cons GetsLow (record { register = i; part = Atom a }) [] tt (All-nil GetsLow)
  get_low i (Apply f ts) h = All-nil GetsLow
  get_low i End h = All-cons GetsLow (record { register = i; part = Inner i }) [] tt (All-nil GetsLow)
  get_low i (More t ts) h = All-cons GetsLow (record { register = i; part = Inner i }) [] tt (All-nil GetsLow)

  gets_low : (i : ℕ) (ts : Tree) → AreLow ts → All GetsLow (gets i ts)
  gets_low i (More t ts) h = All-append GetsLow (get i t) (gets (i + 1) ts) (get_low i t (first_low t ts h)) (gets_low (i + 1) ts (rest_low t ts h))
  gets_low i (Variable x) h = All-nil GetsLow
  gets_low i (Integer z) h = All-nil GetsLow
  gets_low i (Name a) h = All-nil GetsLow
  gets_low i (Apply f ts) h = All-nil GetsLow
  gets_low i End h = All-nil GetsLow

  -- ---- what was compiled

  part_below : (p : Part) → IsLow (part_of p) → IsBelow count p
  part_below (compiled.New x place) h = h
  part_below (compiled.Old x place) h = h
  part_below (compiled.Void x) h = h
  part_below (compiled.Integer z) h = tt
  part_below (compiled.Atom a) h = tt
  part_below (compiled.Inner r) h = tt

  each_below : (ps : List Part) → All IsLow (map part_of ps) → All (IsBelow count) ps
  each_below [] h = All-nil (IsBelow count)
  each_below (p ∷ ps) h = All-cons (IsBelow count) p ps (part_below p (All-head IsLow (part_of p) (map part_of ps) h)) (each_below ps (All-tail IsLow (part_of p) (map part_of ps) h))

  gets_below : (gs : List compiled_get.Get) → All GetsLow (map get_of gs) → All (IsBelow count) (map part_got gs)
  gets_below [] h = All-nil (IsBelow count)
  gets_below (g ∷ gs) h =
      All-cons (IsBelow count) g.part (map part_got gs) (part_below g.part (All-head GetsLow (get_of g) (map get_of gs) h)) (gets_below gs (All-tail GetsLow (get_of g) (map get_of gs) h))

  blocks_below : (bs : List compiled_block.Block) → All HasLow (map block_of bs) → All (IsBelow count) (all_parts bs)
  blocks_below [] h = All-nil (IsBelow count)
  blocks_below (b ∷ bs) h =
      All-append (IsBelow count) b.parts.items (all_parts bs) (each_below b.parts.items (All-head HasLow (block_of b) (map block_of bs) h)) (blocks_below bs (All-tail HasLow (block_of b) (map block_of bs) h))

  -- The variables that the code of a head meets are among as many as those of its arguments.
  pub head_below : (low : ℕ) (gs : List compiled_get.Get) (bs : List compiled_block.Block) (ts : Tree) → map get_of gs ≡ gets 0 ts → map block_of bs ≡ head_blocks 0 low ts
      → ((x : ℕ) → occurs x ts ≡ true → x < count) → All (IsBelow count) (parts_met gs bs)
  head_below low gs bs ts gets_are blocks_are h =
      All-append (IsBelow count) (map part_got gs) (all_parts bs)
      (gets_below gs (All-same GetsLow (map get_of gs) (gets 0 ts) gets_are (gets_low 0 ts h)))
      (blocks_below bs (All-same HasLow (map block_of bs) (head_blocks 0 low ts) blocks_are (heads_low 0 low ts h)))

-- New variables are those of the plan.
pub fresh_below : (places : List Place) (met : ℕ → Bool) (ps : List Part) → AreNew ps → emitted.AreMarked places met ps → All (IsBelow (length places)) ps
fresh_below places met [] new marks = All-nil (IsBelow (length places))
fresh_below places met (compiled.New x place ∷ ps) new marks =
    All-cons (IsBelow (length places)) (compiled.New x place) ps (slice_get_within places x place marks.0.1) (fresh_below places (emitted.met_after met (compiled.New x place)) ps new marks.1)
fresh_below places met (compiled.Old x place ∷ ps) new marks = absurd new
fresh_below places met (compiled.Void x ∷ ps) new marks = absurd new
fresh_below places met (compiled.Integer z ∷ ps) new marks = absurd new
fresh_below places met (compiled.Atom a ∷ ps) new marks = absurd new
fresh_below places met (compiled.Inner r ∷ ps) new marks = absurd new
