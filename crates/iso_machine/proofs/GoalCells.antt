-- How many cells the goal of an instruction takes: at most twice what its arguments count.
use Rattle.std.proofs.Common.{◌≡◌, ◌≤◌, ◌+◌, ◌*◌, ℕ, zero, suc, ℤ, true, List, [], ◌∷◌, ◌++◌, length, map, inl, inr, None, Some, refl, ap, ◌∙◌, sym, arith}
use Rattle.std.proofs.lemmas.Bool.{false≢true, cases_Bool, and_parts}
use Rattle.std.proofs.lemmas.List.{length-map}
use Rattle.std.proofs.lemmas.List.Elements.{All-same}
use Rattle.iso_model.specs.Terms.Integers.{is_short}
use Rattle.iso_model.specs.Terms.Trees.{Tree, Variable, Integer, Name, Apply, End, More, count}
use Rattle.iso_model.specs.Terms.Sizes.{size, integer_size}
use Rattle.iso_model.specs.Terms.Sorts.{is_term, is_row}
use Rattle.iso_model.specs.Search.Walker.{arguments_size}
use Rattle.iso_model.proofs.OnTerms.SortLemmas.{row_of_arguments, row_fits}
use Rattle.iso_compile.specs.Control.{IsCall, called_arguments}
use Rattle.iso_compile.specs.Emitted.{block_of}
use Rattle.iso_compile.specs.Orders.{boxed, parts_cells, block_cells, cells}
use Rattle.iso_compile.specs.Table as table
use Rattle.iso_compile.specs.TermCode.{tops, deep, part, parts, blocks}
use Rattle.iso_compile.specs.declared.goals.Call as called
use Rattle.iso_program.specs.Kept.{IsTemplate}
use Rattle.iso_code.specs.Loaded.{part_at, block_at}
use Rattle.iso_code.specs.Loading.{IsAbove, IsFull, IsLoadedArguments}
use Rattle.iso_code.specs.declared.operands.Block.{Block}
use Rattle.iso_code.specs.declared.operands.Operand.{Operand}
use Rattle.iso_code.specs.declared.operands.Operand.TheVariants.{New, Old, Integer as Number, Atom, Inner}
use Rattle.iso_code.proofs.FormLemmas.{blocks_above, blocks_full}
use Rattle.iso_writing.specs.Pushing.{cells_of_blocks}
use Rattle.iso_instructions.specs.declared.instructions.Goal.{Goal}
use Rattle.iso_bodies.specs.Instructions.{IsLoadedGoal}
use Rattle.iso_frames.specs.Costs.{compound_cells, goal_cells}

-- ---- terms, by the table

length_parts : (r : ℕ) (ts : Tree) → length (parts r ts) ≡ count ts
length_parts r (More t ts) = (let e = length_parts (r + tops t) ts in omega (arith, e))
length_parts r (Variable n) = refl
length_parts r (Integer z) = refl
length_parts r (Name a) = refl
length_parts r (Apply f ts) = refl
length_parts r End = refl

cells_append : (xs ys : List table.Block) → block_cells (xs ++ ys) ≡ block_cells xs + block_cells ys
cells_append [] ys = omega arith
cells_append (b ∷ xs) ys = (let e = cells_append xs ys in omega (arith, e))

integer_counts : (z : ℤ) → 1 + boxed z ≤ integer_size z
integer_counts z = elim (cases_Bool (is_short z)) [
  | inl short ↦ rw short (omega arith)
  | inr long ↦ rw long (omega arith)
]

mutual
  -- the parts and the blocks of a list of terms take its cells
  row_cells : (ts : Tree) → is_row ts ≡ true → (r m : ℕ)
      → parts_cells (parts r ts) + block_cells (blocks r m ts) ≡ cells ts
  row_cells End form r m = refl
  row_cells (Variable n) form r m = absurd (false≢true form)
  row_cells (Integer z) form r m = absurd (false≢true form)
  row_cells (Name a) form r m = absurd (false≢true form)
  row_cells (Apply f us) form r m = absurd (false≢true form)
  row_cells (More t ts) form r m =
      let both = and_parts (is_term t) (is_row ts) form in
      let split = cells_append (blocks r m t) (blocks (r + tops t) (m + deep t) ts) in
      let one = term_cells t both.0 r m in
      let others = row_cells ts both.1 (r + tops t) (m + deep t) in
      omega (arith, split, one, others)

  -- so do those of one term
  term_cells : (t : Tree) → is_term t ≡ true → (r m : ℕ)
      → parts_cells (part r t ∷ []) + block_cells (blocks r m t) ≡ cells t
  term_cells (Variable n) form r m = refl
  term_cells (Integer z) form r m = omega arith
  term_cells (Name a) form r m = refl
  term_cells (Apply f ts) form r m =
      let inner = row_cells ts (row_of_arguments f ts form) m (m + tops ts) in
      let many = length_parts m ts in
      omega (arith, inner, many)
  term_cells End form r m = absurd (false≢true form)
  term_cells (More t ts) form r m = absurd (false≢true form)

mutual
  -- a list of terms counts its cells, and the words that refer to its terms
  row_counts : (ts : Tree) → is_row ts ≡ true → count ts + cells ts ≤ size ts
  row_counts End form = omega arith
  row_counts (Variable n) form = absurd (false≢true form)
  row_counts (Integer z) form = absurd (false≢true form)
  row_counts (Name a) form = absurd (false≢true form)
  row_counts (Apply f us) form = absurd (false≢true form)
  row_counts (More t ts) form =
      let both = and_parts (is_term t) (is_row ts) form in
      let one = term_counts t both.0 in
      let others = row_counts ts both.1 in
      omega (arith, one, others)

  term_counts : (t : Tree) → is_term t ≡ true → 1 + cells t ≤ size t
  term_counts (Variable n) form = omega arith
  term_counts (Integer z) form = integer_counts z
  term_counts (Name a) form = omega arith
  term_counts (Apply f ts) form = (let inner = row_counts ts (row_of_arguments f ts form) in omega (arith, inner))
  term_counts End form = absurd (false≢true form)
  term_counts (More t ts) form = absurd (false≢true form)

-- ---- what was loaded

module _ (names : List (List ℕ)) (low : ℕ) where
  -- names and registers take no cells
  parts_same : (os : List Operand)
      → parts_cells (map (part_at [] 0) os) ≡ parts_cells (map (part_at names low) os)
  parts_same [] = refl
  parts_same (New x ∷ os) = (let rest = parts_same os in omega (arith, rest))
  parts_same (Old x ∷ os) = (let rest = parts_same os in omega (arith, rest))
  parts_same (Number z ∷ os) = (let rest = parts_same os in omega (arith, rest))
  parts_same (Atom a ∷ os) = (let rest = parts_same os in omega (arith, rest))
  parts_same (Inner k ∷ os) = (let rest = parts_same os in omega (arith, rest))

  blocks_same : (bs : List Block) → cells_of_blocks bs ≡ block_cells (map (block_at names low) bs)
  blocks_same [] = refl
  blocks_same (b ∷ bs) =
      let parts = parts_same b.operands.items in
      let many = length-map b.operands.items (part_at names low) in
      let rest = blocks_same bs in
      omega (arith, parts, many, rest)

-- a compound takes at most two cells for each argument
compound_least : (n : ℕ) → compound_cells n ≤ n + n
compound_least zero = omega arith
compound_least (suc n) = omega arith

module _ {names : List (List ℕ)} {low : ℕ} {c : called.Call} {g : Goal} {t : Tree} (ts : Tree)
    (is : called_arguments t ≡ ts) (row : is_row ts ≡ true) (call : IsCall low c t) (goal : IsLoadedGoal names low c g)
  where
    arguments : IsLoadedArguments names low c.arguments g.arguments
    arguments =
        let are : map block_of c.arguments.blocks.items ≡ blocks low (low + tops ts) ts =
        call.blocks_are ∙ ap (λ (u : Tree). blocks low (low + tops u) u) is in
        goal.arguments
        (All-same (IsAbove low) (map block_of c.arguments.blocks.items) (blocks low (low + tops ts) ts) are
        (blocks_above low low (low + tops ts) ts (omega arith) (omega arith)))
        (All-same IsFull (map block_of c.arguments.blocks.items) (blocks low (low + tops ts) ts) are
        (blocks_full low (low + tops ts) ts (row_fits ts row)))

    -- the goal takes its arguments' cells, and those of a compound
    row_goal : goal_cells g ≡ cells ts + compound_cells (count ts)
    row_goal =
        let ops = g.arguments.operands.items in
        let parts_are = arguments.parts_are ∙ (call.parts_are ∙ ap (parts low) is) in
        let blocks_are = arguments.blocks_are ∙ (call.blocks_are ∙ ap (λ (u : Tree). blocks low (low + tops u) u) is) in
        let made = blocks_same names low g.arguments.blocks.items ∙ ap block_cells blocks_are in
        let put = parts_same names low ops ∙ ap parts_cells parts_are in
        let all = row_cells ts row low (low + tops ts) in
        let many = sym (length-map ops (part_at names low)) ∙ (ap length parts_are ∙ length_parts low ts) in
        let compound = ap compound_cells many in
        omega (arith, made, put, all, compound)

    row_goal_most : goal_cells g ≤ 2 * size ts
    row_goal_most =
        let is = row_goal in
        let few = row_counts ts row in
        let compound = compound_least (count ts) in
        omega (arith, is, few, compound)

none_some : {A : Type 0} {x : A} → None ≡ Some x → ⊥
none_some e = cc

-- A goal that can be made takes at most twice what its arguments count.
pub goal_most : {names : List (List ℕ)} {low : ℕ} {c : called.Call} {g : Goal} (n : ℕ) (t : Tree) → IsTemplate n t
    → IsCall low c t → IsLoadedGoal names low c g → goal_cells g ≤ 2 * arguments_size t
goal_most n (Name a) h call goal = row_goal_most End refl refl call goal
goal_most n (Apply f ts) h call goal = row_goal_most ts refl (row_of_arguments f ts h.is) call goal
goal_most n (Variable x) h call goal = absurd (none_some h.key.1)
goal_most n (Integer z) h call goal = absurd (none_some h.key.1)
goal_most n End h call goal = absurd (false≢true h.is)
goal_most n (More t ts) h call goal = absurd (false≢true h.is)
