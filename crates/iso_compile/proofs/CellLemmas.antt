-- How many cells code takes.
use Rattle.std.proofs.Common.{◌≡◌, ◌≤◌, ◌+◌, ℕ, ℤ, true, List, [], ◌∷◌, ◌++◌, length, map, inl, inr, refl, ap, ap₂, ◌∙◌, arith}
use Rattle.std.proofs.lemmas.Bool.{false≢true, cases_Bool, and_parts}
use Rattle.iso_model.specs.declared.terms.Term.{Term}
use Rattle.iso_model.specs.Terms.Integers.{is_short}
use Rattle.iso_model.specs.Terms.Trees.{Tree, Variable, Integer, Name, Apply, End, More, count}
use Rattle.iso_model.specs.Terms.TermOf.{row_of}
use Rattle.iso_model.specs.Terms.Sizes.{size, integer_size}
use Rattle.iso_compile.specs.Table.{Block, Part}
use Rattle.iso_compile.specs.Heads.{Get, part_got, gets, head_blocks}
use Rattle.iso_compile.specs.TermCode.{tops, deep, part, parts, blocks}
use Rattle.iso_compile.specs.Tasks.{is_atomic}
use Rattle.iso_compile.specs.Orders.{boxed, part_cells, parts_cells, block_cells, cells}
use Rattle.iso_compile.specs.CodeLaws.{BlocksTakeCells}
use Rattle.iso_compile.proofs.ShapeLemmas.{is_shaped, is_shaped_row, row_shaped}

length_parts : (r : ℕ) (ts : Tree) → length (parts r ts) ≡ count ts
length_parts r (More t ts) = let e = length_parts (r + tops t) ts in omega (arith, e)
length_parts r (Variable n) = refl
length_parts r (Integer z) = refl
length_parts r (Name a) = refl
length_parts r (Apply f ts) = refl
length_parts r End = refl

cells_append : (xs ys : List Block) → block_cells (xs ++ ys) ≡ block_cells xs + block_cells ys
cells_append [] ys = omega arith
cells_append (b ∷ xs) ys = let e = cells_append xs ys in omega (arith, e)

row_cells : (r m : ℕ) (ts : Tree) → is_shaped_row ts ≡ true → parts_cells (parts r ts) + block_cells (blocks r m ts) ≡ cells ts
row_cells r m (More (Variable v) ts) form = let e = row_cells (r + 0) (m + 0) ts form in omega (arith, e)
row_cells r m (More (Integer z) ts) form = let e = row_cells (r + 0) (m + 0) ts form in omega (arith, e)
row_cells r m (More (Name a) ts) form = let e = row_cells (r + 0) (m + 0) ts form in omega (arith, e)
row_cells r m (More (Apply f us) ts) form =
    let forms = and_parts (is_shaped (Apply f us)) (is_shaped_row ts) form in
    let e = cells_append (blocks r m (Apply f us)) (blocks (r + 1) (m + (tops us + deep us)) ts) in
    let a = row_cells m (m + tops us) us forms.0 in
    let b = row_cells (r + 1) (m + (tops us + deep us)) ts forms.1 in
    let n = length_parts m us in
    omega (arith, e, a, b, n)
row_cells r m (More End ts) form = absurd (false≢true form)
row_cells r m (More (More t us) ts) form = absurd (false≢true form)
row_cells r m End form = refl
row_cells r m (Variable n) form = absurd (false≢true form)
row_cells r m (Integer z) form = absurd (false≢true form)
row_cells r m (Name a) form = absurd (false≢true form)
row_cells r m (Apply f us) form = absurd (false≢true form)

head_row_cells : (i m : ℕ) (ts : Tree) → is_shaped_row ts ≡ true → parts_cells (map part_got (gets i ts)) + block_cells (head_blocks i m ts) ≡ cells ts
head_row_cells i m (More (Variable v) ts) form = let e = head_row_cells (i + 1) (m + 0) ts form in omega (arith, e)
head_row_cells i m (More (Integer z) ts) form = let e = head_row_cells (i + 1) (m + 0) ts form in omega (arith, e)
head_row_cells i m (More (Name a) ts) form = let e = head_row_cells (i + 1) (m + 0) ts form in omega (arith, e)
head_row_cells i m (More (Apply f us) ts) form =
    let forms = and_parts (is_shaped (Apply f us)) (is_shaped_row ts) form in
    let e = cells_append (blocks i m (Apply f us)) (head_blocks (i + 1) (m + (tops us + deep us)) ts) in
    let a = row_cells m (m + tops us) us forms.0 in
    let b = head_row_cells (i + 1) (m + (tops us + deep us)) ts forms.1 in
    let n = length_parts m us in
    omega (arith, e, a, b, n)
head_row_cells i m (More End ts) form = absurd (false≢true form)
head_row_cells i m (More (More t us) ts) form = absurd (false≢true form)
head_row_cells i m End form = refl
head_row_cells i m (Variable n) form = absurd (false≢true form)
head_row_cells i m (Integer z) form = absurd (false≢true form)
head_row_cells i m (Name a) form = absurd (false≢true form)
head_row_cells i m (Apply f us) form = absurd (false≢true form)

integer_counts : (z : ℤ) → 1 + boxed z ≤ integer_size z
integer_counts z = elim (cases_Bool (is_short z)) [
  | inl short ↦ rw short (omega arith)
  | inr long ↦ rw long (omega arith)
]

-- a term counts its cells, and the word that refers to it
row_counts : (ts : Tree) → is_shaped_row ts ≡ true → count ts + cells ts ≤ size ts
row_counts (More (Variable v) ts) form = let e = row_counts ts form in omega (arith, e)
row_counts (More (Integer z) ts) form = let e = row_counts ts form in let n = integer_counts z in omega (arith, e, n)
row_counts (More (Name a) ts) form = let e = row_counts ts form in omega (arith, e)
row_counts (More (Apply f us) ts) form =
    let forms = and_parts (is_shaped (Apply f us)) (is_shaped_row ts) form in
    let a = row_counts us forms.0 in
    let b = row_counts ts forms.1 in
    omega (arith, a, b)
row_counts (More End ts) form = absurd (false≢true form)
row_counts (More (More t us) ts) form = absurd (false≢true form)
row_counts End form = omega arith
row_counts (Variable n) form = absurd (false≢true form)
row_counts (Integer z) form = absurd (false≢true form)
row_counts (Name a) form = absurd (false≢true form)
row_counts (Apply f us) form = absurd (false≢true form)

pub blocks_take_cells : BlocksTakeCells
blocks_take_cells r m ts =
    let form = row_shaped ts in
    let few = row_counts (row_of ts) form in
    (row_cells r m (row_of ts) form, head_row_cells r m (row_of ts) form, omega (arith, few))

-- what was emitted takes at most the cells that the terms count
pub few_cells : (r m : ℕ) (ts : List Term) (ps : List Part) (bs : List Block) → ps ≡ parts r (row_of ts) → bs ≡ blocks r m (row_of ts) → parts_cells ps + block_cells bs ≤ size (row_of ts)
few_cells r m ts ps bs e g =
    let all = blocks_take_cells r m ts in
    let same = ap₂ (λ qs cs. parts_cells qs + block_cells cs) e g in
    let is = all.0 in
    let few = all.2 in
    omega (arith, same, is, few)

pub few_head_cells : (m : ℕ) (ts : List Term) (gs : List Get) (ps : List Part) (bs : List Block) → gs ≡ gets 0 (row_of ts) → ps ≡ map part_got gs → bs ≡ head_blocks 0 m (row_of ts) → parts_cells ps + block_cells bs ≤ size (row_of ts)
few_head_cells m ts gs ps bs e f g =
    let all = blocks_take_cells 0 m ts in
    let same = ap₂ (λ qs cs. parts_cells qs + block_cells cs) (f ∙ ap (map part_got) e) g in
    let is = all.1 in
    let few = all.2 in
    omega (arith, same, is, few)

-- a variable or a constant alone
pub few_atomic_cells : (t : Tree) (p : Part) (ps : List Part) (bs : List Block) → is_atomic t ≡ true → p ≡ part 0 t → ps ≡ p ∷ [] → bs ≡ [] → parts_cells ps + block_cells bs ≤ size t
few_atomic_cells t p ps bs atomic is alone none =
    let same = ap₂ (λ qs cs. parts_cells qs + block_cells cs) (alone ∙ ap (λ q. q ∷ []) is) none in
    let few = atomic_cells t atomic in
    omega (arith, same, few)
  where
    atomic_cells : (u : Tree) → is_atomic u ≡ true → part_cells (part 0 u) ≤ size u
    atomic_cells (Variable n) h = omega arith
    atomic_cells (Integer z) h = let n = integer_counts z in omega (arith, n)
    atomic_cells (Name a) h = omega arith
    atomic_cells (Apply f ts) h = absurd (false≢true h)
    atomic_cells End h = absurd (false≢true h)
    atomic_cells (More u us) h = absurd (false≢true h)
