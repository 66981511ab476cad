-- What was loaded is by the table what was compiled, and all that it names is there.
use Rattle.std.proofs.Common.{◌≡◌, ◌-◌, ◌<◌, ◌≤◌, ◌⊎◌, ℕ, zero, suc, max, Bool, true, false, List, [], ◌∷◌, ◌++◌, length, map, take, inl, inr, refl, sym, ap, ap₂, subst, ◌∙◌, arith, nat_lt}
use Rattle.std.specs.List.{All, AllZip, list_any}
use Rattle.std.specs.String.{string_bytes}
use Rattle.std.proofs.lemmas.Bool.{false≢true, cases_Bool, or_left}
use Rattle.std.proofs.lemmas.Bool.Decides.{nat_tests}
use Rattle.std.proofs.lemmas.List.{length-map, take_all}
use Rattle.std.proofs.lemmas.List.Elements.{All-nil, All-cons, All-head, All-tail, All-same, All-take, All-weaker}
use Rattle.std.proofs.lemmas.Option.{slice_get_within}
use Rattle.iso_alloc.specs.declared.places.Place.{Place}
use Rattle.iso_model.specs.Terms.Integers.{is_short}
use Rattle.iso_model.specs.Terms.Trees.{Tree, count}
use Rattle.iso_model.specs.Terms.Sorts.{is_row}
use Rattle.iso_model.proofs.OnTerms.SortLemmas.{row_fits}
use Rattle.iso_store_core.proofs.AtomLemmas.{text-is}
use Rattle.iso_compile.specs.Table as table
use Rattle.iso_compile.specs.Heads as heads
use Rattle.iso_compile.specs.declared.instructions.Part.{Part}
use Rattle.iso_compile.specs.declared.instructions.Part.TheVariants as part
use Rattle.iso_compile.specs.declared.instructions.Block as compiled_block
use Rattle.iso_compile.specs.declared.instructions.Get as compiled_get
use Rattle.iso_compile.specs.declared.goals.Arguments as compiled_arguments
use Rattle.iso_compile.specs.Emitting.{IsWithin}
use Rattle.iso_compile.specs.Emitted as emitted
use Rattle.iso_compile.specs.Emitted.{part_of, block_of, get_of, part_got, all_parts}
use Rattle.iso_code.specs.declared.loading.Side.{Side}
use Rattle.iso_code.specs.declared.loading.Side.TheVariants as side
use Rattle.iso_code.specs.declared.operands.Operand.{Operand}
use Rattle.iso_code.specs.declared.operands.Operand.TheVariants as operand
use Rattle.iso_code.specs.declared.operands.Register.TheVariants.{Compound}
use Rattle.iso_code.specs.declared.operands.Block.{Block}
use Rattle.iso_code.specs.declared.operands.Get.{Get}
use Rattle.iso_code.specs.declared.operands.Head.{Head}
use Rattle.iso_code.specs.declared.operands.Arguments.{Arguments}
use Rattle.iso_code.specs.Loaded as loaded
use Rattle.iso_code.specs.Loaded.{part_at, register_at, block_at, get_at, operand_got, all_operands, IsInside, IsNarrow, IsSound, IsRegister, IsOfCompound, AreSound, IsSoundGet}
use Rattle.iso_code.specs.Loading.{IsFrom, IsFull, IsAbove, IsBelow, IsOld, SaysWidth, IsLoadedArguments, first_operand, is_wide, register_in, behind_operand, behind_operands, behind_register, behind_blocks, IsLoaded, IsLoadedPart, IsLoadedBlock, IsLoadedGet, IsLoadedHead, parts_met}
use Rattle.iso_code.proofs.FormLemmas.{HasRegisters, IsPlain, IsGetOf, AreNested, all_unmapped, gets_fit, heads_fit, heads_full, heads_nested, within_fit}

-- ---- lists

-- two lists of as many items
pub zip_many : {A B : Type 0} (R : A → B → Type 0) (xs : List A) (ys : List B) → AllZip R xs ys → length ys ≡ length xs
zip_many R [] [] h = refl
zip_many R [] (b ∷ ys) h = absurd h
zip_many R (a ∷ xs) [] h = absurd h
zip_many R (a ∷ xs) (b ∷ ys) h = ap suc (zip_many R xs ys h.1)

-- two pairs of lists, one behind the other
pub zip_append : {A B : Type 0} (R : A → B → Type 0) (xs vs : List A) (ys ws : List B) → AllZip R xs ys → AllZip R vs ws → AllZip R (xs ++ vs) (ys ++ ws)
zip_append R [] vs [] ws h k = k
zip_append R [] vs (b ∷ ys) ws h k = absurd h
zip_append R (a ∷ xs) vs [] ws h k = absurd h
zip_append R (a ∷ xs) vs (b ∷ ys) ws h k = (h.0, zip_append R xs vs ys ws h.1 k)

-- what holds of all items of two lists
pub all_first : {A : Type 0} (P : A → Type 0) (xs ys : List A) → All P (xs ++ ys) → All P xs
all_first P [] ys h = All-nil P
all_first P (x ∷ xs) ys h = All-cons P x xs (All-head P x (xs ++ ys) h) (all_first P xs ys (All-tail P x (xs ++ ys) h))

pub all_last : {A : Type 0} (P : A → Type 0) (xs ys : List A) → All P (xs ++ ys) → All P ys
all_last P [] ys h = h
all_last P (x ∷ xs) ys h = all_last P xs ys (All-tail P x (xs ++ ys) h)

-- ---- by the table

module _ (names : List (List ℕ)) (low : ℕ) where
  first_same : (s : Side) (x : ℕ) → part_at names low (first_operand s x) ≡ table.Place x
  first_same side.Head x = refl
  first_same side.Goal x = refl

  -- an operand is the part
  pub operand_same : (s : Side) (p : Part) (o : Operand) → IsLoaded names low s p o → part_at names low o ≡ part_of p
  operand_same s (part.New x place) o h = ap (part_at names low) h ∙ first_same s x
  operand_same s (part.Old x place) o h = ap (part_at names low) h
  operand_same s (part.Void x) o h = ap (part_at names low) h ∙ first_same s x
  operand_same s (part.Integer z) o h = ap (part_at names low) h
  operand_same s (part.Atom a) o h = ap (part_at names low) h.1 ∙ ap table.Atom (text-is names h.0 (string_bytes a) h.2)
  operand_same s (part.Inner r) o h = ap (part_at names low) h.1 ∙ ap table.Inner h.2

  -- so is one of a body
  pub body_part_same : (p : Part) (o : Operand) → IsLoadedPart names low p o → part_at names low o ≡ part_of p
  body_part_same = operand_same side.Goal

  pub operands_same : (s : Side) (ps : List Part) (os : List Operand) → AllZip (IsLoaded names low s) ps os → map (part_at names low) os ≡ map part_of ps
  operands_same s [] [] h = refl
  operands_same s [] (o ∷ os) h = absurd h
  operands_same s (p ∷ ps) [] h = absurd h
  operands_same s (p ∷ ps) (o ∷ os) h = ap₂ (λ x xs. x ∷ xs) (operand_same s p o h.0) (operands_same s ps os h.1)

  -- a register is the one of this number
  register_same : (arity r : ℕ) → (r < arity) ⊎ (low ≤ r) → register_at names low (register_in low arity r) ≡ r
  register_same arity r h = elim (cases_Bool (nat_lt r arity)) [
    | inl here ↦ rw here refl
    | inr none ↦ rw none (elim h [
      | inl below ↦ absurd (grind (arith, nat_tests, below, none))
      | inr above ↦ omega (arith, above)
    ])
  ]

  -- a block is what was compiled
  pub block_same : (arity : ℕ) (s : Side) (b : compiled_block.Block) (l : Block) → IsLoadedBlock names low arity s b l → HasRegisters low arity (block_of b) → block_at names low l ≡ block_of b
  block_same arity s b l h fits =
      let register : register_at names low l.register ≡ b.register = ap (register_at names low) h.register ∙ register_same arity b.register fits.register in
      let name = text-is names l.name (string_bytes b.name) h.name in
      let parts = operands_same s b.parts.items l.operands.items h.operands in
      let inner = h.inner in
      cc

  pub blocks_same : (arity : ℕ) (s : Side) (bs : List compiled_block.Block) (ls : List Block) → AllZip (IsLoadedBlock names low arity s) bs ls → All (λ b. HasRegisters low arity (block_of b)) bs
      → map (block_at names low) ls ≡ map block_of bs
  blocks_same arity s [] [] h fits = refl
  blocks_same arity s [] (l ∷ ls) h fits = absurd h
  blocks_same arity s (b ∷ bs) [] h fits = absurd h
  blocks_same arity s (b ∷ bs) (l ∷ ls) h fits =
      ap₂ (λ x xs. x ∷ xs) (block_same arity s b l h.0 (All-head (λ c. HasRegisters low arity (block_of c)) b bs fits))
      (blocks_same arity s bs ls h.1 (All-tail (λ c. HasRegisters low arity (block_of c)) b bs fits))

  pub gets_same : (gs : List compiled_get.Get) (ls : List Get) → AllZip (IsLoadedGet names low) gs ls → map (get_at names low) ls ≡ map get_of gs
  gets_same [] [] h = refl
  gets_same [] (l ∷ ls) h = absurd h
  gets_same (g ∷ gs) [] h = absurd h
  gets_same (g ∷ gs) (l ∷ ls) h =
      let argument = h.0.argument in
      let same = operand_same side.Head g.part l.operand h.0.operand in
      let one : get_at names low l ≡ get_of g = cc in
      ap₂ (λ x xs. x ∷ xs) one (gets_same gs ls h.1)

  -- ---- what is named is there

  module _ (count compounds : ℕ) where
    first_inside : (s : Side) (x : ℕ) → x < count → IsInside (length names) count compounds (first_operand s x)
    first_inside side.Head x h = h
    first_inside side.Goal x h = h

    pub operand_inside : (s : Side) (p : Part) (o : Operand) → IsLoaded names low s p o → IsBelow count p → behind_operand o ≤ compounds → IsInside (length names) count compounds o
    operand_inside s (part.New x place) o h below room = rw h (first_inside s x below)
    operand_inside s (part.Old x place) o h below room = rw h below
    operand_inside s (part.Void x) o h below room = rw h (first_inside s x below)
    operand_inside s (part.Integer z) o h below room = rw h tt
    operand_inside s (part.Atom a) o h below room = rw h.1 (slice_get_within names h.0 (string_bytes a) h.2)
    operand_inside s (part.Inner r) o h below room = (let some = rw h.1 at room in rw h.1 (omega (arith, some)))

    pub operands_inside : (s : Side) (ps : List Part) (os : List Operand) → AllZip (IsLoaded names low s) ps os → All (IsBelow count) ps → behind_operands os ≤ compounds
        → All (IsInside (length names) count compounds) os
    operands_inside s [] [] h below room = All-nil (IsInside (length names) count compounds)
    operands_inside s [] (o ∷ os) h below room = absurd h
    operands_inside s (p ∷ ps) [] h below room = absurd h
    operands_inside s (p ∷ ps) (o ∷ os) h below room =
        All-cons (IsInside (length names) count compounds) o os (operand_inside s p o h.0 (All-head (IsBelow count) p ps below) (omega (arith, room)))
        (operands_inside s ps os h.1 (All-tail (IsBelow count) p ps below) (omega (arith, room)))

  -- where no compound is named, none has to be there
  plain_inside : (count : ℕ) (s : Side) (p : Part) (o : Operand) → IsLoaded names low s p o → IsBelow count p → IsPlain (part_of p) → IsInside (length names) count 0 o
  plain_inside count s (part.New x place) o h below plain = rw h (first_inside count 0 s x below)
  plain_inside count s (part.Old x place) o h below plain = rw h below
  plain_inside count s (part.Void x) o h below plain = rw h (first_inside count 0 s x below)
  plain_inside count s (part.Integer z) o h below plain = rw h tt
  plain_inside count s (part.Atom a) o h below plain = rw h.1 (slice_get_within names h.0 (string_bytes a) h.2)
  plain_inside count s (part.Inner r) o h below plain = absurd plain

  pub gets_sound : (arity count : ℕ) (gs : List compiled_get.Get) (ls : List Get) → AllZip (IsLoadedGet names low) gs ls → All (IsGetOf arity) (map get_of gs) → All (IsBelow count) (map part_got gs)
      → All (IsSoundGet (length names) arity count) ls
  gets_sound arity count [] [] h form below = All-nil (IsSoundGet (length names) arity count)
  gets_sound arity count [] (l ∷ ls) h form below = absurd h
  gets_sound arity count (g ∷ gs) [] h form below = absurd h
  gets_sound arity count (g ∷ gs) (l ∷ ls) h form below =
      let here = All-head (IsGetOf arity) (get_of g) (map get_of gs) form in
      All-cons (IsSoundGet (length names) arity count) l ls
      (record {
        argument = rw h.0.argument here.argument;
        inside = plain_inside count side.Head g.part l.operand h.0.operand (All-head (IsBelow count) g.part (map part_got gs) below) here.plain;
      })
      (gets_sound arity count gs ls h.1 (All-tail (IsGetOf arity) (get_of g) (map get_of gs) form) (All-tail (IsBelow count) g.part (map part_got gs) below))

  -- ---- blocks

  -- where no operand is wide, all are narrow
  not_wide : (o : Operand) → is_wide o ≡ false → IsNarrow o
  not_wide (operand.New x) h = tt
  not_wide (operand.Old x) h = tt
  not_wide (operand.Integer z) h = elim (cases_Bool (is_short z)) [
    | inl here ↦ here
    | inr none ↦ absurd (false≢true (sym (rw none at h)))
  ]
  not_wide (operand.Atom a) h = tt
  not_wide (operand.Inner k) h = tt

  all_narrow : (os : List Operand) → list_any is_wide os ≡ false → All IsNarrow os
  all_narrow [] h = All-nil IsNarrow
  all_narrow (o ∷ os) h = elim (cases_Bool (is_wide o)) [
    | inl here ↦ absurd (false≢true (sym h ∙ or_left (is_wide o) (list_any is_wide os) here))
    | inr none ↦ All-cons IsNarrow o os (not_wide o none) (all_narrow os (rw none at h))
  ]

  pub block_sound : (arity count compounds : ℕ) (s : Side) (b : compiled_block.Block) (l : Block) → IsLoadedBlock names low arity s b l → IsFull (block_of b) → All (IsBelow count) b.parts.items
      → behind_operands l.operands.items ≤ compounds → IsSound (length names) count compounds l
  block_sound arity count compounds s b l h full below room =
      let many = zip_many (IsLoaded names low s) b.parts.items l.operands.items h.operands in
      let parts = length-map b.parts.items part_of in
      record {
        name = slice_get_within names l.name (string_bytes b.name) h.name;
        some = omega (arith, full.some, many, parts);
        few = omega (arith, full.few, many, parts);
        inside = operands_inside count compounds s b.parts.items l.operands.items h.operands below room;
        narrow = λ no. all_narrow l.operands.items (sym h.wide ∙ no);
        pair = h.pair;
      }

  -- a register is there
  register_there : (arity compounds r : ℕ) → behind_register (register_in low arity r) ≤ compounds → IsRegister arity compounds (register_in low arity r)
  register_there arity compounds r h = elim (cases_Bool (nat_lt r arity)) [
    | inl here ↦ rw here (grind (arith, nat_tests, here))
    | inr none ↦ (let room = rw none at h in rw none (omega (arith, room)))
  ]

  -- one from low on is that of a compound
  of_compound : (arity compounds r : ℕ) → arity ≤ low → low ≤ r → behind_register (register_in low arity r) ≤ compounds → (k : ℕ) × (register_in low arity r ≡ Compound k) × (k < compounds)
  of_compound arity compounds r first above h = elim (cases_Bool (nat_lt r arity)) [
    | inl here ↦ absurd (grind (arith, nat_tests, here, first, above))
    | inr none ↦ (let room = rw none at h in (r - low, rw none refl, omega (arith, room)))
  ]

  -- so it is with the registers of these blocks
  pub are_of_compounds : (arity compounds : ℕ) (s : Side) (n : ℕ) (bs : List compiled_block.Block) (ls : List Block) → arity ≤ low → AllZip (IsLoadedBlock names low arity s) bs ls
      → All (IsAbove low) (take n (map block_of bs)) → behind_blocks ls ≤ compounds → All (IsOfCompound compounds) (take n ls)
  are_of_compounds arity compounds s zero bs ls first h above room = All-nil (IsOfCompound compounds)
  are_of_compounds arity compounds s (suc n) [] [] first h above room = All-nil (IsOfCompound compounds)
  are_of_compounds arity compounds s (suc n) [] (l ∷ ls) first h above room = absurd h
  are_of_compounds arity compounds s (suc n) (b ∷ bs) [] first h above room = absurd h
  are_of_compounds arity compounds s (suc n) (b ∷ bs) (l ∷ ls) first h above room =
      let here = All-head (IsAbove low) (block_of b) (take n (map block_of bs)) above in
      let within : behind_register l.register ≤ compounds = omega (arith, room) in
      All-cons (IsOfCompound compounds) l (take n ls)
      (rw h.0.register (of_compound arity compounds b.register first here (rw h.0.register at within)))
      (are_of_compounds arity compounds s n bs ls first h.1 (All-tail (IsAbove low) (block_of b) (take n (map block_of bs)) above) (omega (arith, room)))

  -- The blocks of a head are sound.
  pub blocks_sound : (arity count compounds : ℕ) (s : Side) (bs : List compiled_block.Block) (ls : List Block) → arity ≤ low → AllZip (IsLoadedBlock names low arity s) bs ls
      → All IsFull (map block_of bs) → AreNested low (map block_of bs) → All (IsBelow count) (all_parts bs) → behind_blocks ls ≤ compounds → AreSound (length names) arity count compounds ls
  blocks_sound arity count compounds s [] [] first h full nested below room = tt
  blocks_sound arity count compounds s [] (l ∷ ls) first h full nested below room = absurd h
  blocks_sound arity count compounds s (b ∷ bs) [] first h full nested below room = absurd h
  blocks_sound arity count compounds s (b ∷ bs) (l ∷ ls) first h full nested below room =
      let many = zip_many (IsLoadedBlock names low arity s) bs ls h.1 in
      let as_many = length-map bs block_of in
      let within : behind_register l.register ≤ compounds = omega (arith, room) in
      let rest : behind_blocks ls ≤ compounds = omega (arith, room) in (
        block_sound arity count compounds s b l h.0 (All-head IsFull (block_of b) (map block_of bs) full) (all_first (IsBelow count) b.parts.items (all_parts bs) below) (omega (arith, room)),
        rw h.0.register (register_there arity compounds b.register (rw h.0.register at within)),
        rw h.0.inner (omega (arith, nested.0, many, as_many)),
        rw h.0.inner (are_of_compounds arity compounds s b.inner bs ls first h.1 nested.1 rest),
        blocks_sound arity count compounds s bs ls first h.1 (All-tail IsFull (block_of b) (map block_of bs) full) nested.2 (all_last (IsBelow count) b.parts.items (all_parts bs) below) rest,
      )

  -- each block says whether it has a wide integer
  pub widths_said : (arity : ℕ) (s : Side) (bs : List compiled_block.Block) (ls : List Block) → AllZip (IsLoadedBlock names low arity s) bs ls → All SaysWidth ls
  widths_said arity s [] [] h = All-nil SaysWidth
  widths_said arity s [] (l ∷ ls) h = absurd h
  widths_said arity s (b ∷ bs) [] h = absurd h
  widths_said arity s (b ∷ bs) (l ∷ ls) h = All-cons SaysWidth l ls h.0.wide (widths_said arity s bs ls h.1)

  -- ---- what is met

  -- the parts of blocks and their operands
  pub parts_loaded : (arity : ℕ) (s : Side) (bs : List compiled_block.Block) (ls : List Block) → AllZip (IsLoadedBlock names low arity s) bs ls → AllZip (IsLoaded names low s) (all_parts bs) (all_operands ls)
  parts_loaded arity s [] [] h = tt
  parts_loaded arity s [] (l ∷ ls) h = absurd h
  parts_loaded arity s (b ∷ bs) [] h = absurd h
  parts_loaded arity s (b ∷ bs) (l ∷ ls) h = zip_append (IsLoaded names low s) b.parts.items (all_parts bs) l.operands.items (all_operands ls) h.0.operands (parts_loaded arity s bs ls h.1)

  pub got_loaded : (gs : List compiled_get.Get) (ls : List Get) → AllZip (IsLoadedGet names low) gs ls → AllZip (IsLoaded names low side.Head) (map part_got gs) (map operand_got ls)
  got_loaded [] [] h = tt
  got_loaded [] (l ∷ ls) h = absurd h
  got_loaded (g ∷ gs) [] h = absurd h
  got_loaded (g ∷ gs) (l ∷ ls) h = (h.0.operand, got_loaded gs ls h.1)

  -- In a head a variable is new where it was.
  met_same : (met : ℕ → Bool) (p : Part) (o : Operand) → IsLoaded names low side.Head p o → emitted.met_after met p ≡ loaded.met_after met o
  met_same met (part.New x place) o h = rw h refl
  met_same met (part.Old x place) o h = rw h refl
  met_same met (part.Void x) o h = rw h refl
  met_same met (part.Integer z) o h = rw h refl
  met_same met (part.Atom a) o h = rw h.1 refl
  met_same met (part.Inner r) o h = rw h.1 refl

  mark_same : (places : List Place) (met : ℕ → Bool) (p : Part) (o : Operand) → IsLoaded names low side.Head p o → emitted.IsMarked places met p → loaded.IsMarked met o
  mark_same places met (part.New x place) o h m = rw h m.0
  mark_same places met (part.Old x place) o h m = rw h m.0
  mark_same places met (part.Void x) o h m = rw h m.0
  mark_same places met (part.Integer z) o h m = rw h tt
  mark_same places met (part.Atom a) o h m = rw h.1 tt
  mark_same places met (part.Inner r) o h m = rw h.1 tt

  pub marks_same : (places : List Place) (met : ℕ → Bool) (ps : List Part) (os : List Operand) → AllZip (IsLoaded names low side.Head) ps os → emitted.AreMarked places met ps → loaded.AreMarked met os
  marks_same places met [] [] h m = tt
  marks_same places met [] (o ∷ os) h m = absurd h
  marks_same places met (p ∷ ps) [] h m = absurd h
  marks_same places met (p ∷ ps) (o ∷ os) h m = (
    mark_same places met p o h.0 m.0,
    marks_same places (loaded.met_after met o) ps os h.1 (subst (λ f. emitted.AreMarked places f ps) (met_same met p o h.0) m.1),
  )

  pub behind_same : (met : ℕ → Bool) (ps : List Part) (os : List Operand) → AllZip (IsLoaded names low side.Head) ps os → emitted.met_behind met ps ≡ loaded.met_behind met os
  behind_same met [] [] h = refl
  behind_same met [] (o ∷ os) h = absurd h
  behind_same met (p ∷ ps) [] h = absurd h
  behind_same met (p ∷ ps) (o ∷ os) h = ap (λ f. emitted.met_behind f ps) (met_same met p o h.0) ∙ behind_same (loaded.met_after met o) ps os h.1

-- ---- goals

module _ (names : List (List ℕ)) (low : ℕ) where
  -- no operand of a goal is new
  none_new : (p : Part) (o : Operand) → IsLoaded names low side.Goal p o → IsOld o
  none_new (part.New x place) o h = rw h tt
  none_new (part.Old x place) o h = rw h tt
  none_new (part.Void x) o h = rw h tt
  none_new (part.Integer z) o h = rw h tt
  none_new (part.Atom a) o h = rw h.1 tt
  none_new (part.Inner r) o h = rw h.1 tt

  all_old : (ps : List Part) (os : List Operand) → AllZip (IsLoaded names low side.Goal) ps os → All IsOld os
  all_old [] [] h = All-nil IsOld
  all_old [] (o ∷ os) h = absurd h
  all_old (p ∷ ps) [] h = absurd h
  all_old (p ∷ ps) (o ∷ os) h = All-cons IsOld o os (none_new p o h.0) (all_old ps os h.1)

  -- the blocks of a goal are sound
  each_sound : (count compounds : ℕ) (bs : List compiled_block.Block) (ls : List Block) → AllZip (IsLoadedBlock names low 0 side.Goal) bs ls → All IsFull (map block_of bs) → All (IsBelow count) (all_parts bs)
      → behind_blocks ls ≤ compounds → All (IsSound (length names) count compounds) ls
  each_sound count compounds [] [] h full below room = All-nil (IsSound (length names) count compounds)
  each_sound count compounds [] (l ∷ ls) h full below room = absurd h
  each_sound count compounds (b ∷ bs) [] h full below room = absurd h
  each_sound count compounds (b ∷ bs) (l ∷ ls) h full below room =
      All-cons (IsSound (length names) count compounds) l ls
      (block_sound names low 0 count compounds side.Goal b l h.0 (All-head IsFull (block_of b) (map block_of bs) full) (all_first (IsBelow count) b.parts.items (all_parts bs) below) (omega (arith, room)))
      (each_sound count compounds bs ls h.1 (All-tail IsFull (block_of b) (map block_of bs) full) (all_last (IsBelow count) b.parts.items (all_parts bs) below) (omega (arith, room)))

  -- they make compounds
  each_of_compound : (compounds : ℕ) (bs : List compiled_block.Block) (ls : List Block) → AllZip (IsLoadedBlock names low 0 side.Goal) bs ls → All (IsAbove low) (map block_of bs)
      → behind_blocks ls ≤ compounds → All (IsOfCompound compounds) ls
  each_of_compound compounds bs ls h above room =
      let many = zip_many (IsLoadedBlock names low 0 side.Goal) bs ls h in
      let all = take_all (length bs) ls (omega (arith, many)) in
      All-same (IsOfCompound compounds) ls (take (length bs) ls) (sym all)
      (are_of_compounds names low 0 compounds side.Goal (length bs) bs ls (omega arith) h (All-take (IsAbove low) (length bs) (map block_of bs) above) room)

  -- The code of a goal's arguments is what was compiled.
  pub arguments_loaded : (code : compiled_arguments.Arguments) (a : Arguments) → IsWithin low code → All (IsAbove low) (map block_of code.blocks.items) → All IsFull (map block_of code.blocks.items)
      → AllZip (IsLoaded names low side.Goal) code.parts.items a.operands.items → AllZip (IsLoadedBlock names low 0 side.Goal) code.blocks.items a.blocks.items
      → a.compounds ≡ max (behind_operands a.operands.items) (behind_blocks a.blocks.items) → IsLoadedArguments names low code a
  arguments_loaded code a within above full loaded made room =
      let fits = all_unmapped (HasRegisters low 0) block_of code.blocks.items (within_fit low code.registers (map block_of code.blocks.items) within.blocks above) in
      let met = zip_append (IsLoaded names low side.Goal) code.parts.items (all_parts code.blocks.items) a.operands.items (all_operands a.blocks.items) loaded
      (parts_loaded names low 0 side.Goal code.blocks.items a.blocks.items made) in
      record {
        parts_are = operands_same names low side.Goal code.parts.items a.operands.items loaded;
        blocks_are = blocks_same names low 0 side.Goal code.blocks.items a.blocks.items made fits;
        operands_sound = λ count below. operands_inside names low count a.compounds side.Goal code.parts.items a.operands.items loaded below (omega (arith, room));
        blocks_sound = λ count below. each_sound count a.compounds code.blocks.items a.blocks.items made full below (omega (arith, room));
        of_compounds = each_of_compound a.compounds code.blocks.items a.blocks.items made above (omega (arith, room));
        old = all_old (code.parts.items ++ all_parts code.blocks.items) (a.operands.items ++ all_operands a.blocks.items) met;
        wide = widths_said names low 0 side.Goal code.blocks.items a.blocks.items made;
        compounds = room;
      }

-- ---- heads

-- what is no compound has no register
plain_from : (low : ℕ) (p : table.Part) → IsPlain p → IsFrom low p
plain_from low (table.Place x) h = tt
plain_from low (table.Number z) h = tt
plain_from low (table.Atom a) h = tt
plain_from low (table.Inner r) h = absurd h

module _ (low arity : ℕ) (gs : List compiled_get.Get) (bs : List compiled_block.Block) (ts : Tree) (first : arity ≤ low) (many : count ts ≡ arity) (form : is_row ts ≡ true)
    (gets_are : map get_of gs ≡ heads.gets 0 ts) (blocks_are : map block_of bs ≡ heads.head_blocks 0 low ts) where
  gets_of_form : All (IsGetOf arity) (map get_of gs)
  gets_of_form = All-same (IsGetOf arity) (map get_of gs) (heads.gets 0 ts) gets_are (gets_fit arity 0 ts form (omega (arith, many)))

  -- no get has a compound
  pub gets_from : All (λ g. IsFrom low (part_of g.part)) gs
  gets_from = all_unmapped (λ g. IsFrom low g.part) get_of gs (All-weaker (IsGetOf arity) (λ g. IsFrom low g.part) (λ g h. plain_from low g.part h.plain) (map get_of gs) gets_of_form)

  -- the blocks have the registers of arguments and those from low on
  blocks_from : All (λ b. HasRegisters low arity (block_of b)) bs
  blocks_from = all_unmapped (HasRegisters low arity) block_of bs (All-same (HasRegisters low arity) (map block_of bs) (heads.head_blocks 0 low ts) blocks_are (heads_fit low arity 0 low ts form (omega (arith, many)) (omega arith)))

  -- so compounds among the parts of blocks have registers from low on
  pub inner_from : All (λ b. All (IsFrom low) (block_of b).parts) bs
  inner_from = All-weaker (λ b. HasRegisters low arity (block_of b)) (λ b. All (IsFrom low) (block_of b).parts) (λ b h. h.parts) bs blocks_from

  -- The code of a head is what was compiled.
  pub head_loaded : (names : List (List ℕ)) (h : Head) → AllZip (IsLoadedGet names low) gs h.gets.items → AllZip (IsLoadedBlock names low arity side.Head) bs h.blocks.items
      → h.compounds ≡ behind_blocks h.blocks.items → IsLoadedHead names low arity gs bs h
  head_loaded names h got made room =
      let full = All-same IsFull (map block_of bs) (heads.head_blocks 0 low ts) blocks_are (heads_full 0 low ts (row_fits ts form)) in
      let nested = subst (AreNested low) (sym blocks_are) (heads_nested low 0 low ts (omega arith)) in
      let met = zip_append (IsLoaded names low side.Head) (map part_got gs) (all_parts bs) (map operand_got h.gets.items) (all_operands h.blocks.items)
      (got_loaded names low gs h.gets.items got) (parts_loaded names low arity side.Head bs h.blocks.items made) in
      record {
        gets_are = gets_same names low gs h.gets.items got;
        blocks_are = blocks_same names low arity side.Head bs h.blocks.items made blocks_from;
        gets_sound = λ count below. gets_sound names low arity count gs h.gets.items got gets_of_form (all_first (IsBelow count) (map part_got gs) (all_parts bs) below);
        blocks_sound = λ count below. blocks_sound names low arity count h.compounds side.Head bs h.blocks.items first made full nested (all_last (IsBelow count) (map part_got gs) (all_parts bs) below) (omega (arith, room));
        marked = λ places were marks. marks_same names low places were (parts_met gs bs) (map operand_got h.gets.items ++ all_operands h.blocks.items) met marks;
        behind = λ were x. ap (λ f. f x) (behind_same names low were (parts_met gs bs) (map operand_got h.gets.items ++ all_operands h.blocks.items) met);
        wide = widths_said names low arity side.Head bs h.blocks.items made;
        compounds = room;
      }
