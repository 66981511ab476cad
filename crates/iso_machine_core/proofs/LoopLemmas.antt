-- Blocks of a head that are met one after the other.
use Rattle.std.proofs.Common.{◌≡◌, ◌+◌, ◌-◌, ◌≤◌, ℕ, zero, suc, Bool, false, List, [], ◌∷◌, ◌++◌, length, map, take, drop, Some, None, sym, ap, subst, ◌∙◌, arith}
use Rattle.std.proofs.Math.Seq.{take-add}
use Rattle.std.proofs.lemmas.List.{take_rest, take-append-drop, drop-drop, length-drop}
use Rattle.iso_store_core.specs.Presents.{Present, Grows}
use Rattle.iso_store_core.proofs.RetainLemmas.{grows_on, grows_most}
use Rattle.iso_compile.specs.Table.{run}
use Rattle.iso_compile.specs.CodeLaws.{State, left}
use Rattle.iso_code.specs.declared.operands.Block.{Block}
use Rattle.iso_code.specs.Loaded.{block_at, all_operands, AreMarked, met_behind, AreNextGroups, AreSound}
use Rattle.iso_code.specs.Standing.{Steps, Files, Setting, Ready, Ends}
use Rattle.iso_writing.specs.Pushing.{news, cells_of_blocks}
use Rattle.iso_code.proofs.MarkLemmas.{marked_both, behind_both, operands_both}
use Rattle.iso_writing.proofs.VariableLemmas.{news_both}
use Rattle.iso_machine_core.specs.Heads.{BeforeBlocks, PassesTo, Passes, MeetsBlocks}

-- some, one more, and some of those behind it are so many of all
pub taken_on : {X : Type 0} (xs : List X) (i k : ℕ) (x : X) → drop i xs ≡ x ∷ drop (i + 1) xs → take (i + (1 + k)) xs ≡ take i xs ++ (x ∷ take k (drop (i + 1) xs))
taken_on xs i k x h =
    let e : 1 + k ≡ suc k = omega arith in
    take-add i (1 + k) xs ∙ ap (λ l. take i xs ++ take (1 + k) l) h ∙ ap (λ n. take i xs ++ take n (x ∷ drop (i + 1) xs)) e

-- the groups behind some blocks are next behind these
pub nexts_rest : (met : ℕ → Bool) (bs : List Block) (i : ℕ) → AreNextGroups met bs → AreNextGroups (met_behind met (all_operands (take i bs))) (drop i bs)
nexts_rest met bs zero h = h
nexts_rest met [] (suc i) h = h
nexts_rest met (b ∷ bs) (suc i) h = rw (behind_both met b.operands.items (all_operands (take i bs))) (nexts_rest (met_behind met b.operands.items) bs i h.1)

-- sound blocks are sound behind some of them
pub sound_rest : (names arguments count compounds : ℕ) (bs : List Block) (i : ℕ) → AreSound names arguments count compounds bs → AreSound names arguments count compounds (drop i bs)
sound_rest names arguments count compounds bs zero h = h
sound_rest names arguments count compounds [] (suc i) h = h
sound_rest names arguments count compounds (b ∷ bs) (suc i) h = sound_rest names arguments count compounds bs i h.4

-- So many blocks were met: what is left of the table's, from the state that the store stands for now.
pub record BlocksTo {W : Type 0} (names : List (List ℕ)) (bs : List Block) (i : ℕ) (p q : Present W) (f : Files W) (t : Setting) (met : ℕ → Bool) (state : State) : Type 0 where
  pub after : State
  pub comes : run t.first (map (block_at names t.low) bs) zero state.subst state.registers left ≡ run t.first (map (block_at names t.low) (drop i bs)) zero after.subst after.registers left
  pub ready : Ready q f t (met_behind met (all_operands (take i bs))) after
  pub steps : Steps p state.subst q after.subst

-- It is so, whatever the store stood for.
abbrev pub MeetsTo : {W : Type 0} → List (List ℕ) → List Block → ℕ → ℕ → Present W → Present W → Files W → Files W → Type 0
MeetsTo names bs i first p q f f' = (t : Setting) (met : ℕ → Bool) (state : State) → BeforeBlocks bs first p f t met state → BlocksTo names bs i p q f' t met state

module _ {W : Type 0} (names : List (List ℕ)) (bs : List Block) (first : ℕ) (p q : Present W) (f f' : Files W) where
  -- before the next one is met
  pub before_rest : (i : ℕ) (t : Setting) (met : ℕ → Bool) (state : State) → BeforeBlocks bs first p f t met state → (to : BlocksTo names bs i p q f' t met state)
      → BeforeBlocks (drop i bs) first q f' t (met_behind met (all_operands (take i bs))) to.after
  before_rest i t met state before to = record {
    ready = to.ready;
    numbers = before.numbers;
    marked = (marked_both met (all_operands (take i bs)) (all_operands (drop i bs)) (subst (AreMarked met) (ap all_operands (sym (take-append-drop i bs)) ∙ operands_both (take i bs) (drop i bs)) before.marked)).1;
    nexts = nexts_rest met bs i before.nexts;
  }

module _ {W : Type 0} (names : List (List ℕ)) (bs : List Block) (first : ℕ) (p q o : Present W) (f f' f'' : Files W) (i : ℕ) (b : Block) (is : drop i bs ≡ b ∷ drop (i + 1) bs) (ns : List (List ℕ)) (same : ns ≡ names) where
  -- one more was met, and so many behind it were passed over
  pub meets_on : (k : ℕ) → MeetsTo names bs i first p q f f' → Passes ns b (drop (i + 1) bs) first q o f' f'' (Some k) → MeetsTo names bs (i + (1 + k)) first p o f f''
  meets_on k meets passes t met state before =
      let to = meets t met state before in
      let here = subst (λ l. BeforeBlocks l first q f' t (met_behind met (all_operands (take i bs))) to.after) is (before_rest names bs first p q f f' i t met state before to) in
      let on = subst (λ x. PassesTo x b (drop (i + 1) bs) q o f'' t (met_behind met (all_operands (take i bs))) to.after k) same (passes t (met_behind met (all_operands (take i bs))) to.after here) in
      let place : drop k (drop (i + 1) bs) ≡ drop (i + (1 + k)) bs = drop-drop k (i + 1) bs ∙ ap (λ n. drop n bs) (omega arith) in
      record {
        after = on.after;
        comes = to.comes
            ∙ ap (λ l. run t.first (map (block_at names t.low) l) zero to.after.subst to.after.registers left) is
            ∙ on.comes
            ∙ ap (λ l. run t.first (map (block_at names t.low) l) zero on.after.subst on.after.registers left) place;
        ready = subst (λ m. Ready o f'' t m on.after)
            (sym (behind_both met (all_operands (take i bs)) (all_operands (b ∷ take k (drop (i + 1) bs))))
            ∙ ap (met_behind met) (sym (operands_both (take i bs) (b ∷ take k (drop (i + 1) bs))) ∙ ap all_operands (sym (taken_on bs i k b is))))
            on.ready;
        steps = λ w a h. on.steps w a (to.steps w a h);
      }

  -- it was met, and comes to nothing
  pub meets_none : MeetsTo names bs i first p q f f' → Passes ns b (drop (i + 1) bs) first q o f' f'' None → MeetsBlocks names bs first p o f f'' false
  meets_none meets passes t met state before =
      let to = meets t met state before in
      let here = subst (λ l. BeforeBlocks l first q f' t (met_behind met (all_operands (take i bs))) to.after) is (before_rest names bs first p q f f' i t met state before to) in
      let none = subst (λ x. run t.first (map (block_at x t.low) (b ∷ drop (i + 1) bs)) zero to.after.subst to.after.registers left ≡ None) same (passes t (met_behind met (all_operands (take i bs))) to.after here) in
      let comes : run t.first (map (block_at names t.low) bs) zero state.subst state.registers left ≡ None =
      to.comes ∙ ap (λ l. run t.first (map (block_at names t.low) l) zero to.after.subst to.after.registers left) is ∙ none in
      subst (λ o'. Ends p state.subst o f'' t (met_behind met (all_operands bs)) false o') (sym comes) tt

-- ---- cells

cells_on : (bs cs : List Block) → cells_of_blocks (bs ++ cs) ≡ cells_of_blocks bs + cells_of_blocks cs
cells_on [] cs = omega arith
cells_on (b ∷ bs) cs = (let h = cells_on bs cs in omega (arith, h))

-- so many cells, and so many of variables, two lists of blocks take
pub both_cells : (bs cs : List Block) → (cells_of_blocks (bs ++ cs) ≡ cells_of_blocks bs + cells_of_blocks cs) × (news (all_operands (bs ++ cs)) ≡ news (all_operands bs) + news (all_operands cs))
both_cells bs cs = (cells_on bs cs, ap news (operands_both bs cs) ∙ news_both (all_operands bs) (all_operands cs))

-- the first blocks take no more than all
pub first_cells : (bs : List Block) (i : ℕ) → (cells_of_blocks (take i bs) ≤ cells_of_blocks bs) × (news (all_operands (take i bs)) ≤ news (all_operands bs))
first_cells bs i =
    let both = both_cells (take i bs) (drop i bs) in
    let whole = sym (take-append-drop i bs) in
    let c : cells_of_blocks bs ≡ cells_of_blocks (take i bs) + cells_of_blocks (drop i bs) = ap cells_of_blocks whole ∙ both.0 in
    let n : news (all_operands bs) ≡ news (all_operands (take i bs)) + news (all_operands (drop i bs)) = ap (λ l. news (all_operands l)) whole ∙ both.1 in
    (omega (arith, c), omega (arith, n))

-- how many are left behind some
pub length_rest : {X : Type 0} (xs : List X) (n : ℕ) → n ≤ length xs → length (drop n xs) + n ≡ length xs
length_rest xs n h = (let k = length-drop n xs in omega (arith, k, h))

module _ (bs : List Block) (i : ℕ) (b : Block) (is : drop i bs ≡ b ∷ drop (i + 1) bs) where
  -- the next block and those behind it are sound
  pub next_sound : (names names' arguments count count' compounds compounds' : ℕ) → names' ≡ names → count' ≡ count → compounds' ≡ compounds
      → AreSound names arguments count compounds bs → AreSound names' arguments count' compounds' (b ∷ take (length bs - (i + 1)) (drop (i + 1) bs))
  next_sound names names' arguments count count' compounds compounds' n c m sound =
      let here = subst (AreSound names arguments count compounds) (is ∙ ap (λ l. b ∷ l) (sym (take_rest bs (i + 1)))) (sound_rest names arguments count compounds bs i sound) in
      let all : List Block = b ∷ take (length bs - (i + 1)) (drop (i + 1) bs) in
      subst (λ x. AreSound x arguments count' compounds' all) (sym n) (subst (λ x. AreSound names arguments x compounds' all) (sym c) (subst (λ x. AreSound names arguments count x all) (sym m) here))

  -- before the next block is met
  pub next_before : {W : Type 0} (names : List (List ℕ)) (first : ℕ) (p q : Present W) (f f' : Files W) → MeetsTo names bs i first p q f f' → (t : Setting) (met : ℕ → Bool) (state : State) → BeforeBlocks bs first p f t met state
      → (setting : Setting) × (marked : ℕ → Bool) × (after : State) × BeforeBlocks (b ∷ take (length bs - (i + 1)) (drop (i + 1) bs)) first q f' setting marked after
  next_before names first p q f f' meets t met state before =
      let to = meets t met state before in
      let here = subst (λ l. BeforeBlocks l first q f' t (met_behind met (all_operands (take i bs))) to.after) is (before_rest names bs first p q f f' i t met state before to) in
      (t, met_behind met (all_operands (take i bs)), to.after, rw (take_rest bs (i + 1)) here)

  -- cells behind one more block, and so many behind it
  pub cells_next : {W : Type 0} {p q o : Present W} (k : ℕ) (rest : List Block) → rest ≡ drop (i + 1) bs → Grows p q (cells_of_blocks (take i bs) + news (all_operands (take i bs))) (news (all_operands (take i bs)))
      → Grows q o (cells_of_blocks (b ∷ take k rest) + news (all_operands (b ∷ take k rest))) (news (all_operands (b ∷ take k rest)))
      → Grows p o (cells_of_blocks (take (i + (1 + k)) bs) + news (all_operands (take (i + (1 + k)) bs))) (news (all_operands (take (i + (1 + k)) bs)))
  cells_next {W} {p} {q} {o} k rest same one other =
      let more = subst (λ l. Grows q o (cells_of_blocks (b ∷ take k l) + news (all_operands (b ∷ take k l))) (news (all_operands (b ∷ take k l)))) same other in
      let both = both_cells (take i bs) (b ∷ take k (drop (i + 1) bs)) in
      let whole = taken_on bs i k b is in
      let c = ap cells_of_blocks whole ∙ both.0 in
      let n = ap (λ l. news (all_operands l)) whole ∙ both.1 in
      grows_most _ _ (omega (arith, c, n)) (omega (arith, n)) (grows_on one more)

-- cells behind some blocks are at most those behind all
pub cells_all : {W : Type 0} {p o : Present W} (bs : List Block) (j : ℕ) → Grows p o (cells_of_blocks (take j bs) + news (all_operands (take j bs))) (news (all_operands (take j bs)))
    → Grows p o (cells_of_blocks bs + news (all_operands bs)) (news (all_operands bs))
cells_all bs j grows = (let few = first_cells bs j in grows_most _ _ (omega (arith, few.0, few.1)) few.1 grows)
