-- The registers of code.
use Rattle.std.proofs.Common.{◌≡◌, ℕ, ◌+◌, ◌≤◌, ◌++◌, List, [], ◌∷◌, map, true, sym, subst, arith}
use Rattle.std.proofs.lemmas.Bool.{false≢true, and_parts}
use Rattle.iso_model.specs.Terms.Trees.{Tree, Variable, Integer, Name, Apply, End, More, count}
use Rattle.iso_compile.specs.Table.{Block}
use Rattle.iso_compile.specs.TermCode.{tops, deep, parts, blocks}
use Rattle.iso_compile.specs.Heads.{head_blocks}
use Rattle.iso_compile.specs.declared.goals.Arguments.{Arguments}
use Rattle.iso_compile.specs.Emitted.{part_of, block_of}
use Rattle.iso_compile.specs.Emitting.{IsWithin}
use Rattle.iso_compile.proofs.ShapeLemmas.{is_shaped, is_shaped_row}
use Rattle.iso_compile.specs.Orders.{PartsWithin, BlocksWithin}

parts_within : (low high r : ℕ) (ts : Tree) → is_shaped_row ts ≡ true → low ≤ r → r + tops ts ≤ high → PartsWithin low high (parts r ts)
parts_within low high r (More (Variable v) ts) form above below = parts_within low high (r + 0) ts form (omega (arith, above)) (omega (arith, below))
parts_within low high r (More (Integer z) ts) form above below = parts_within low high (r + 0) ts form (omega (arith, above)) (omega (arith, below))
parts_within low high r (More (Name a) ts) form above below = parts_within low high (r + 0) ts form (omega (arith, above)) (omega (arith, below))
parts_within low high r (More (Apply f us) ts) form above below =
    (above, omega (arith, below), parts_within low high (r + 1) ts (and_parts (is_shaped (Apply f us)) (is_shaped_row ts) form).1 (omega (arith, above)) (omega (arith, below)))
parts_within low high r (More End ts) form above below = absurd (false≢true form)
parts_within low high r (More (More u us) ts) form above below = absurd (false≢true form)
parts_within low high r (Variable v) form above below = tt
parts_within low high r (Integer z) form above below = tt
parts_within low high r (Name a) form above below = tt
parts_within low high r (Apply f us) form above below = tt
parts_within low high r End form above below = tt

within_append : (low high : ℕ) (xs ys : List Block) → BlocksWithin low high xs → BlocksWithin low high ys → BlocksWithin low high (xs ++ ys)
within_append low high [] ys h k = k
within_append low high (x ∷ xs) ys h k = (h.0, h.1, within_append low high xs ys h.2 k)

blocks_within : (low high r m : ℕ) (ts : Tree) → is_shaped_row ts ≡ true → low ≤ m → r + tops ts ≤ high → m + deep ts ≤ high → BlocksWithin low high (blocks r m ts)
blocks_within low high r m (More (Variable v) ts) form above top below = blocks_within low high (r + 0) (m + 0) ts form (omega (arith, above)) (omega (arith, top)) (omega (arith, below))
blocks_within low high r m (More (Integer z) ts) form above top below = blocks_within low high (r + 0) (m + 0) ts form (omega (arith, above)) (omega (arith, top)) (omega (arith, below))
blocks_within low high r m (More (Name a) ts) form above top below = blocks_within low high (r + 0) (m + 0) ts form (omega (arith, above)) (omega (arith, top)) (omega (arith, below))
blocks_within low high r m (More (Apply f us) ts) form above top below =
    let forms = and_parts (is_shaped (Apply f us)) (is_shaped_row ts) form in
    let inside = forms.0 in
    within_append low high (blocks r m (Apply f us)) (blocks (r + 1) (m + (tops us + deep us)) ts)
    (omega (arith, top), parts_within low high m us inside above (omega (arith, below)), blocks_within low high m (m + tops us) us inside (omega (arith, above)) (omega (arith, below)) (omega (arith, below)))
    (blocks_within low high (r + 1) (m + (tops us + deep us)) ts forms.1 (omega (arith, above)) (omega (arith, top)) (omega (arith, below)))
blocks_within low high r m (More End ts) form above top below = absurd (false≢true form)
blocks_within low high r m (More (More u us) ts) form above top below = absurd (false≢true form)
blocks_within low high r m End form above top below = tt
blocks_within low high r m (Variable v) form above top below = absurd (false≢true form)
blocks_within low high r m (Integer z) form above top below = absurd (false≢true form)
blocks_within low high r m (Name a) form above top below = absurd (false≢true form)
blocks_within low high r m (Apply f us) form above top below = absurd (false≢true form)

heads_within : (low high i m : ℕ) (ts : Tree) → is_shaped_row ts ≡ true → low ≤ m → i + count ts ≤ high → m + deep ts ≤ high → BlocksWithin low high (head_blocks i m ts)
heads_within low high i m (More (Variable v) ts) form above top below = heads_within low high (i + 1) (m + 0) ts form (omega (arith, above)) (omega (arith, top)) (omega (arith, below))
heads_within low high i m (More (Integer z) ts) form above top below = heads_within low high (i + 1) (m + 0) ts form (omega (arith, above)) (omega (arith, top)) (omega (arith, below))
heads_within low high i m (More (Name a) ts) form above top below = heads_within low high (i + 1) (m + 0) ts form (omega (arith, above)) (omega (arith, top)) (omega (arith, below))
heads_within low high i m (More (Apply f us) ts) form above top below =
    let forms = and_parts (is_shaped (Apply f us)) (is_shaped_row ts) form in
    let inside = forms.0 in
    within_append low high (blocks i m (Apply f us)) (head_blocks (i + 1) (m + (tops us + deep us)) ts)
    (omega (arith, top), parts_within low high m us inside above (omega (arith, below)), blocks_within low high m (m + tops us) us inside (omega (arith, above)) (omega (arith, below)) (omega (arith, below)))
    (heads_within low high (i + 1) (m + (tops us + deep us)) ts forms.1 (omega (arith, above)) (omega (arith, top)) (omega (arith, below)))
heads_within low high i m (More End ts) form above top below = absurd (false≢true form)
heads_within low high i m (More (More u us) ts) form above top below = absurd (false≢true form)
heads_within low high i m End form above top below = tt
heads_within low high i m (Variable v) form above top below = absurd (false≢true form)
heads_within low high i m (Integer z) form above top below = absurd (false≢true form)
heads_within low high i m (Name a) form above top below = absurd (false≢true form)
heads_within low high i m (Apply f us) form above top below = absurd (false≢true form)

-- those of an emitted head
pub head_within : (low m high : ℕ) (ts : Tree) (bs : List Block) → is_shaped_row ts ≡ true → count ts ≤ low → m ≡ low → high ≡ m + deep ts → bs ≡ head_blocks 0 m ts → BlocksWithin low high bs
head_within low m high ts bs form room first next e =
    subst (BlocksWithin low high) (sym e) (heads_within low high 0 m ts form (omega (arith, first)) (omega (arith, room, first, next)) (omega (arith, next)))

-- those of emitted arguments
pub arguments_within : (low r m high : ℕ) (ts : Tree) (code : Arguments) → is_shaped_row ts ≡ true → r ≡ low → m ≡ r + tops ts → high ≡ m + deep ts → code.registers ≡ high
    → map block_of code.blocks.items ≡ blocks r m ts → map part_of code.parts.items ≡ parts r ts → IsWithin low code
arguments_within low r m high ts code form first behind next all e g = record {
  blocks = subst (BlocksWithin low code.registers) (sym e) (blocks_within low code.registers r m ts form (omega (arith, first, behind)) (omega (arith, behind, next, all)) (omega (arith, next, all)));
  parts = subst (PartsWithin low code.registers) (sym g) (parts_within low code.registers r ts form (omega (arith, first)) (omega (arith, behind, next, all)));
}
