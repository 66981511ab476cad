-- Loaded code stays what it is where names come.
use Rattle.std.proofs.Common.{◌≡◌, ℕ, List, [], ◌∷◌, length, map, refl, ap, ap₂, ◌∙◌}
use Rattle.std.specs.List.{All}
use Rattle.std.proofs.lemmas.List.Elements.{All-head, All-tail, All-weaker}
use Rattle.iso_atoms.specs.Texts.{KeepsTexts}
use Rattle.iso_store_core.proofs.AtomLemmas.{text-kept, atom-kept}
use Rattle.iso_compile.specs.Table as table
use Rattle.iso_compile.specs.Emitted.{all_parts}
use Rattle.iso_compile.specs.declared.instructions.Block as compiled_block
use Rattle.iso_compile.specs.declared.instructions.Get as compiled_get
use Rattle.iso_compile.specs.declared.goals.Arguments as compiled_arguments
use Rattle.iso_code.specs.declared.operands.Operand.{Operand}
use Rattle.iso_code.specs.declared.operands.Operand.TheVariants as operand
use Rattle.iso_code.specs.declared.operands.Block.{Block}
use Rattle.iso_code.specs.declared.operands.Get.{Get}
use Rattle.iso_code.specs.declared.operands.Head.{Head}
use Rattle.iso_code.specs.declared.operands.Arguments.{Arguments}
use Rattle.iso_code.specs.Loaded.{part_at, block_at, get_at, IsInside, IsSound, AreSound, IsSoundGet}
use Rattle.iso_code.specs.Loading.{IsBelow, parts_met, IsLoadedHead, IsLoadedArguments}

module _ (old new : List (List ℕ)) (keeps : KeepsTexts old new) where
  -- ---- what is there stays there

  inside_kept : (count compounds : ℕ) (o : Operand) → IsInside (length old) count compounds o → IsInside (length new) count compounds o
  inside_kept count compounds (operand.New x) h = h
  inside_kept count compounds (operand.Old x) h = h
  inside_kept count compounds (operand.Integer z) h = h
  inside_kept count compounds (operand.Atom a) h = atom-kept old new keeps a h
  inside_kept count compounds (operand.Inner k) h = h

  all_inside_kept : (count compounds : ℕ) (os : List Operand) → All (IsInside (length old) count compounds) os → All (IsInside (length new) count compounds) os
  all_inside_kept count compounds = All-weaker (IsInside (length old) count compounds) (IsInside (length new) count compounds) (inside_kept count compounds)

  sound_kept : (count compounds : ℕ) (b : Block) → IsSound (length old) count compounds b → IsSound (length new) count compounds b
  sound_kept count compounds b h = record {
    name = atom-kept old new keeps b.name h.name;
    some = h.some;
    few = h.few;
    inside = all_inside_kept count compounds b.operands.items h.inside;
    narrow = h.narrow;
    pair = h.pair;
  }

  pub all_sound_kept : (count compounds : ℕ) (bs : List Block) → All (IsSound (length old) count compounds) bs → All (IsSound (length new) count compounds) bs
  all_sound_kept count compounds = All-weaker (IsSound (length old) count compounds) (IsSound (length new) count compounds) (sound_kept count compounds)

  pub are_sound_kept : (arity count compounds : ℕ) (bs : List Block) → AreSound (length old) arity count compounds bs → AreSound (length new) arity count compounds bs
  are_sound_kept arity count compounds [] h = tt
  are_sound_kept arity count compounds (b ∷ bs) h = (sound_kept count compounds b h.0, h.1, h.2, h.3, are_sound_kept arity count compounds bs h.4)

  get_sound_kept : (arity count : ℕ) (g : Get) → IsSoundGet (length old) arity count g → IsSoundGet (length new) arity count g
  get_sound_kept arity count g h = record { argument = h.argument; inside = inside_kept count 0 g.operand h.inside }

  pub gets_sound_kept : (arity count : ℕ) (gs : List Get) → All (IsSoundGet (length old) arity count) gs → All (IsSoundGet (length new) arity count) gs
  gets_sound_kept arity count = All-weaker (IsSoundGet (length old) arity count) (IsSoundGet (length new) arity count) (get_sound_kept arity count)

  -- ---- and by the table it stays the same

  module _ (low count compounds : ℕ) where
    part_kept : (o : Operand) → IsInside (length old) count compounds o → part_at new low o ≡ part_at old low o
    part_kept (operand.New x) h = refl
    part_kept (operand.Old x) h = refl
    part_kept (operand.Integer z) h = refl
    part_kept (operand.Atom a) h = ap table.Atom (text-kept old new keeps a h)
    part_kept (operand.Inner k) h = refl

    pub parts_kept : (os : List Operand) → All (IsInside (length old) count compounds) os → map (part_at new low) os ≡ map (part_at old low) os
    parts_kept [] h = refl
    parts_kept (o ∷ os) h =
        ap₂ (λ x xs. x ∷ xs) (part_kept o (All-head (IsInside (length old) count compounds) o os h)) (parts_kept os (All-tail (IsInside (length old) count compounds) o os h))

    block_kept : (b : Block) → IsSound (length old) count compounds b → block_at new low b ≡ block_at old low b
    block_kept b h =
        let name = text-kept old new keeps b.name h.name in
        let parts = parts_kept b.operands.items h.inside in
        cc

    pub blocks_kept : (bs : List Block) → All (IsSound (length old) count compounds) bs → map (block_at new low) bs ≡ map (block_at old low) bs
    blocks_kept [] h = refl
    blocks_kept (b ∷ bs) h =
        ap₂ (λ x xs. x ∷ xs) (block_kept b (All-head (IsSound (length old) count compounds) b bs h)) (blocks_kept bs (All-tail (IsSound (length old) count compounds) b bs h))

    pub head_blocks_kept : (arity : ℕ) (bs : List Block) → AreSound (length old) arity count compounds bs → map (block_at new low) bs ≡ map (block_at old low) bs
    head_blocks_kept arity [] h = refl
    head_blocks_kept arity (b ∷ bs) h = ap₂ (λ x xs. x ∷ xs) (block_kept b h.0) (head_blocks_kept arity bs h.4)

  pub gets_kept : (low arity count : ℕ) (gs : List Get) → All (IsSoundGet (length old) arity count) gs → map (get_at new low) gs ≡ map (get_at old low) gs
  gets_kept low arity count [] h = refl
  gets_kept low arity count (g ∷ gs) h =
      let part = part_kept low count 0 g.operand (All-head (IsSoundGet (length old) arity count) g gs h).inside in
      let one : get_at new low g ≡ get_at old low g = cc in
      ap₂ (λ x xs. x ∷ xs) one (gets_kept low arity count gs (All-tail (IsSoundGet (length old) arity count) g gs h))

  -- A head that was loaded is so where names came since; its variables are below some count.
  pub head_kept : (low arity count : ℕ) (gs : List compiled_get.Get) (bs : List compiled_block.Block) (h : Head) → All (IsBelow count) (parts_met gs bs)
      → IsLoadedHead old low arity gs bs h → IsLoadedHead new low arity gs bs h
  head_kept low arity count gs bs h below was = record {
    gets_are = gets_kept low arity count h.gets.items (was.gets_sound count below) ∙ was.gets_are;
    blocks_are = head_blocks_kept low count h.compounds arity h.blocks.items (was.blocks_sound count below) ∙ was.blocks_are;
    gets_sound = λ n under. gets_sound_kept arity n h.gets.items (was.gets_sound n under);
    blocks_sound = λ n under. are_sound_kept arity n h.compounds h.blocks.items (was.blocks_sound n under);
    marked = was.marked;
    behind = was.behind;
    wide = was.wide;
    compounds = was.compounds;
  }

  -- So it is with the arguments of a goal.
  pub arguments_kept : (low count : ℕ) (code : compiled_arguments.Arguments) (a : Arguments) → All (IsBelow count) code.parts.items → All (IsBelow count) (all_parts code.blocks.items)
      → IsLoadedArguments old low code a → IsLoadedArguments new low code a
  arguments_kept low count code a below inner was = record {
    parts_are = parts_kept low count a.compounds a.operands.items (was.operands_sound count below) ∙ was.parts_are;
    blocks_are = blocks_kept low count a.compounds a.blocks.items (was.blocks_sound count inner) ∙ was.blocks_are;
    operands_sound = λ n under. all_inside_kept n a.compounds a.operands.items (was.operands_sound n under);
    blocks_sound = λ n under. all_sound_kept n a.compounds a.blocks.items (was.blocks_sound n under);
    of_compounds = was.of_compounds;
    old = was.old;
    wide = was.wide;
    compounds = was.compounds;
  }
