-- How many cells entering a clause takes.
use Rattle.std.proofs.Common.{◌≡◌, ◌≤◌, ◌+◌, ◌++◌, ℕ, List, [], ◌∷◌, length, map, Bool, Some, refl, ap, ◌∙◌, arith}
use Rattle.std.proofs.lemmas.List.{length-map}
use Rattle.std.proofs.lemmas.List.Elements.{All-append, All-weaker}
use Rattle.iso_model.specs.Terms.Trees.{Tree, count}
use Rattle.iso_model.specs.Terms.Sizes.{size}
use Rattle.iso_model.specs.Search.Databases as databases
use Rattle.iso_store_core.specs.Presents.{Present, Grows}
use Rattle.iso_store_core.proofs.RetainLemmas.{grows_most}
use Rattle.iso_alloc.specs.Plans.{arguments_of}
use Rattle.iso_compile.specs.declared.instructions.Get as compiled_get
use Rattle.iso_compile.specs.Heads as heads
use Rattle.iso_compile.specs.Orders.{parts_cells, block_cells}
use Rattle.iso_compile.specs.Emitted.{part_of, part_got, get_of}
use Rattle.iso_code.specs.declared.operands.Head.{Head}
use Rattle.iso_code.specs.declared.operands.Block.{Block}
use Rattle.iso_code.specs.declared.operands.Get.{Get}
use Rattle.iso_code.specs.declared.operands.Operand.{Operand}
use Rattle.iso_code.specs.declared.operands.Operand.TheVariants.{New, Old, Integer, Atom, Inner}
use Rattle.iso_code.specs.Loaded.{IsInside, part_at, get_at, block_at, operand_got, all_operands}
use Rattle.iso_writing.specs.Pushing.{news, cells_of_blocks}
use Rattle.iso_instructions.specs.declared.instructions.Code.{Code}
use Rattle.iso_machine_core.specs.Entering.{IsEntry, head_operands}
use Rattle.iso_bodies.specs.Clauses.{none_met}
use Rattle.iso_clause_code.specs.Keeping.{KeepsCode}
use Rattle.iso_clause_code.proofs.LowLemmas.{IsLow, inside_low, gets_low, blocks_low, news_most}
use Rattle.iso_clause_code.proofs.EntryLemmas.{kept_entry}

-- ---- new variables

news_append : (xs ys : List Operand) → news (xs ++ ys) ≡ news xs + news ys
news_append [] ys = omega arith
news_append (New x ∷ xs) ys = let rest = news_append xs ys in omega (arith, rest)
news_append (Old x ∷ xs) ys = news_append xs ys
news_append (Integer z ∷ xs) ys = news_append xs ys
news_append (Atom a ∷ xs) ys = news_append xs ys
news_append (Inner k ∷ xs) ys = news_append xs ys

-- At most so many variables as the clause has get cells.
pub entry_news : (names : List (List ℕ)) (head : Head) (fresh : List Operand) (arity variables low : ℕ) (met : ℕ → Bool) (ts : Tree) → IsEntry names head fresh arity variables low met ts
    → news (all_operands head.blocks.items) + news fresh ≤ variables
entry_news names head fresh arity variables low met ts h =
    let got = map operand_got head.gets.items in
    let inner = all_operands head.blocks.items in
    let most = news_most variables met (head_operands head ++ fresh)
    (All-append (IsLow variables) (head_operands head) fresh
    (All-append (IsLow variables) got inner (gets_low (length names) arity variables head.gets.items h.gets) (blocks_low (length names) arity variables head.compounds head.blocks.items h.blocks))
    (All-weaker (IsInside (length names) variables 0) (IsLow variables) (inside_low (length names) variables 0) fresh h.inside))
    h.marked in
    let both = news_append (head_operands head) fresh in
    let first = news_append got inner in
    omega (arith, most, both, first)

-- ---- cells

module _ (names : List (List ℕ)) (low : ℕ) where
  -- names and registers take none
  parts_same : (os : List Operand) → parts_cells (map (part_at [] 0) os) ≡ parts_cells (map (part_at names low) os)
  parts_same [] = refl
  parts_same (New x ∷ os) = let rest = parts_same os in omega (arith, rest)
  parts_same (Old x ∷ os) = let rest = parts_same os in omega (arith, rest)
  parts_same (Integer z ∷ os) = let rest = parts_same os in omega (arith, rest)
  parts_same (Atom a ∷ os) = let rest = parts_same os in omega (arith, rest)
  parts_same (Inner k ∷ os) = let rest = parts_same os in omega (arith, rest)

  got_parts : (gs : List Get) → map (part_at names low) (map operand_got gs) ≡ map heads.part_got (map (get_at names low) gs)
  got_parts [] = refl
  got_parts (g ∷ gs) = ap (λ ps. part_at names low g.operand ∷ ps) (got_parts gs)

  blocks_same : (bs : List Block) → cells_of_blocks bs ≡ block_cells (map (block_at names low) bs)
  blocks_same [] = refl
  blocks_same (b ∷ bs) =
      let parts = parts_same b.operands.items in
      let many = length-map b.operands.items (part_at names low) in
      let rest = blocks_same bs in
      omega (arith, parts, many, rest)

compiled_parts : (gs : List compiled_get.Get) → map heads.part_got (map get_of gs) ≡ map part_of (map part_got gs)
compiled_parts [] = refl
compiled_parts (g ∷ gs) = ap (λ ps. part_of g.part ∷ ps) (compiled_parts gs)

module _ (names : List (List ℕ)) (code : Code) (c : databases.Clause) (k : KeepsCode names code c) where
  -- The code of the head takes no more cells than its arguments count, variables aside.
  pub kept_cells : parts_cells (map (part_at [] 0) (map operand_got code.head.gets.items)) + cells_of_blocks code.head.blocks.items ≤ size (arguments_of (Some c.head))
  kept_cells =
      let got = parts_same names k.plan.registers (map operand_got code.head.gets.items)
      ∙ ap parts_cells (got_parts names k.plan.registers code.head.gets.items ∙ ap (map heads.part_got) k.loaded.head.gets_are ∙ compiled_parts k.compiled.gets.items) in
      let made = blocks_same names k.plan.registers code.head.blocks.items ∙ ap block_cells k.loaded.head.blocks_are in
      let most = k.is.cells in
      omega (arith, got, made, most)

  -- At most so many cells are variables as the clause has variables.
  pub kept_news : news (all_operands code.head.blocks.items) + news code.fresh.items ≤ c.variables
  kept_news = entry_news names code.head code.fresh.items (count (arguments_of (Some c.head))) c.variables k.plan.registers none_met (arguments_of (Some c.head)) (kept_entry names code c k)

  -- So a store grows by no more where the clause is entered.
  pub kept_grows : {W : Type 0} {p q : Present W}
      → Grows p q (parts_cells (map (part_at [] 0) (map operand_got code.head.gets.items)) + cells_of_blocks code.head.blocks.items + news (all_operands code.head.blocks.items) + news code.fresh.items)
      (news (all_operands code.head.blocks.items) + news code.fresh.items)
      → Grows p q (c.variables + size (arguments_of (Some c.head))) c.variables
  kept_grows grows = let cells = kept_cells in let new = kept_news in grows_most _ _ (omega (arith, cells, new)) new grows
