-- A head is met: its gets, and then its blocks.
use Rattle.std.proofs.Common.{◌≡◌, ◌++◌, ℕ, zero, Bool, true, false, List, [], ◌∷◌, map, Option, Some, None, refl, sym, subst}
use Rattle.std.specs.Option.{option_and_then}
use Rattle.iso_model.specs.Terms.Substitutions.{Subst}
use Rattle.iso_model.specs.Terms.Unification.{unify_under}
use Rattle.iso_store_core.specs.Presents.{Present}
use Rattle.iso_compile.specs.Table.{Registers, part_term, run}
use Rattle.iso_compile.specs.Heads as heads
use Rattle.iso_compile.specs.Heads.{get_all, head_run}
use Rattle.iso_compile.specs.CodeLaws.{State, left}
use Rattle.iso_code.specs.declared.operands.Block.{Block}
use Rattle.iso_code.specs.declared.operands.Get.{Get}
use Rattle.iso_code.specs.Loaded.{block_at, get_at, all_operands, operand_got, AreMarked, met_behind, AreNextGroups}
use Rattle.iso_code.specs.Standing.{Steps, Files, files, Setting, Ready, Ends}
use Rattle.iso_reading.specs.Reading.{StandsReady}
use Rattle.iso_reading.specs.Gets.{MeetsGets}
use Rattle.iso_machine_core.specs.Heads.{BeforeBlocks, MeetsBlocks, MeetsHead}
use Rattle.iso_code.proofs.MarkLemmas.{marked_both, behind_both}

-- gets and then others are the others from where gets come to
pub gets_then : (next : ℕ) (gs : List heads.Get) (s : Subst) (rs : Registers) (go : Subst → Registers → Option State)
    → get_all next gs s rs go ≡ option_and_then (λ n. go n.subst n.registers) (get_all next gs s rs left)
gets_then next [] s rs go = refl
gets_then next (g ∷ gs) s rs go = through (λ u. gets_then next gs u rs go) (unify_under s (rs g.register) (part_term next rs g.part))
  where
    through : ((u : Subst) → get_all next gs u rs go ≡ option_and_then (λ n. go n.subst n.registers) (get_all next gs u rs left)) → (o : Option Subst)
        → option_and_then (λ u. get_all next gs u rs go) o ≡ option_and_then (λ n. go n.subst n.registers) (option_and_then (λ u. get_all next gs u rs left) o)
    through on (Some u) = on u
    through on None = refl

module _ {W : Type 0} (names : List (List ℕ)) (gets : List Get) (bs : List Block) (first : ℕ) (p : Present W) (es as_ cs : List W) (t : Setting) (met : ℕ → Bool) (state : State)
    (ready : Ready p (files es as_ cs) t met state) (numbers : t.first ≡ first) (marked : AreMarked met (map operand_got gets ++ all_operands bs)) (nexts : AreNextGroups (met_behind met (map operand_got gets)) bs) where
  -- the gets may be done
  pub gets_ready : StandsReady p es as_ cs (map operand_got gets)
  gets_ready = record { setting = t; met = met; state = state; ready = ready; marked = (marked_both met (map operand_got gets) (all_operands bs) marked).0 }

  behind : (q : Present W) (es' : List W) → (n : State) → Ready q (files es' as_ cs) t (met_behind met (map operand_got gets)) n → BeforeBlocks bs first q (files es' as_ cs) t (met_behind met (map operand_got gets)) n
  behind q es' n r = record { ready = r; numbers = numbers; marked = (marked_both met (map operand_got gets) (all_operands bs) marked).1; nexts = nexts }

  -- behind them the blocks may be met
  pub blocks_before : (q : Present W) (es' : List W) → MeetsGets names gets p q es es' as_ cs true
      → (setting : Setting) × (marked_then : ℕ → Bool) × (after : State) × BeforeBlocks bs first q (files es' as_ cs) setting marked_then after
  blocks_before q es' meets =
      step (get_all t.first (map (get_at names t.low) gets) state.subst state.registers left) (meets t met state ready ((marked_both met (map operand_got gets) (all_operands bs) marked).0))
    where
      step : (o : Option State) → Ends p state.subst q (files es' as_ cs) t (met_behind met (map operand_got gets)) true o
          → (setting : Setting) × (marked_then : ℕ → Bool) × (after : State) × BeforeBlocks bs first q (files es' as_ cs) setting marked_then after
      step (Some n) h = (t, met_behind met (map operand_got gets), n, behind q es' n h.0)
      step None h = absurd h

module _ {W : Type 0} (names : List (List ℕ)) (gets : List Get) (bs : List Block) (first : ℕ) (p q o : Present W) (es es' as_ cs cs' : List W) (f : Files W) where
  -- the gets were done, and then the blocks
  pub head_met : (answer : Bool) → MeetsGets names gets p q es es' as_ cs true → (ns : List (List ℕ)) → ns ≡ names → cs' ≡ cs → MeetsBlocks ns bs first q o (files es' as_ cs') f answer
      → MeetsHead names gets bs first p o (files es as_ cs) f answer
  head_met answer meets ns same kept blocks t met state ready numbers marked nexts =
      subst (λ x. Ends p state.subst o f t (met_behind met (map operand_got gets ++ all_operands bs)) answer x)
      (sym (gets_then t.first (map (get_at names t.low) gets) state.subst state.registers (λ u us. run t.first (map (block_at names t.low) bs) zero u us left)))
      (step (get_all t.first (map (get_at names t.low) gets) state.subst state.registers left) (meets t met state ready ((marked_both met (map operand_got gets) (all_operands bs) marked).0)))
    where
      through : (n : State) → Steps p state.subst q n.subst → (a : Bool) (r : Option State)
          → Ends q n.subst o f t (met_behind (met_behind met (map operand_got gets)) (all_operands bs)) a r → Ends p state.subst o f t (met_behind met (map operand_got gets ++ all_operands bs)) a r
      through n steps true (Some m) h = (subst (λ k. Ready o f t k m) (sym (behind_both met (map operand_got gets) (all_operands bs))) h.0, λ w a at. h.1 w a (steps w a at))
      through n steps false None h = tt
      through n steps true None h = absurd h
      through n steps false (Some m) h = absurd h

      step : (r : Option State) → Ends p state.subst q (files es' as_ cs) t (met_behind met (map operand_got gets)) true r
          → Ends p state.subst o f t (met_behind met (map operand_got gets ++ all_operands bs)) answer (option_and_then (λ n. run t.first (map (block_at names t.low) bs) zero n.subst n.registers left) r)
      step (Some n) h =
          let before = behind names gets bs first p es as_ cs t met state ready numbers marked nexts q es' n h.0 in
          let there = subst (λ x. MeetsBlocks ns bs first q o (files es' as_ x) f answer) kept blocks in
          let here = subst (λ x. MeetsBlocks x bs first q o (files es' as_ cs) f answer) same there in
          through n h.1 answer (run t.first (map (block_at names t.low) bs) zero n.subst n.registers left) (here t (met_behind met (map operand_got gets)) n before)
      step None h = absurd h

  -- the gets don't meet the arguments
  pub head_missed : MeetsGets names gets p o es es' as_ cs' false → cs' ≡ cs → MeetsHead names gets bs first p o (files es as_ cs) f false
  head_missed meets kept t met state ready numbers marked nexts =
      subst (λ x. Ends p state.subst o f t (met_behind met (map operand_got gets ++ all_operands bs)) false x)
      (sym (gets_then t.first (map (get_at names t.low) gets) state.subst state.registers (λ u us. run t.first (map (block_at names t.low) bs) zero u us left)))
      (step (get_all t.first (map (get_at names t.low) gets) state.subst state.registers left)
      (meets t met state (subst (λ x. Ready p (files es as_ x) t met state) (sym kept) ready) ((marked_both met (map operand_got gets) (all_operands bs) marked).0)))
    where
      step : (r : Option State) → Ends p state.subst o (files es' as_ cs') t (met_behind met (map operand_got gets)) false r
          → Ends p state.subst o f t (met_behind met (map operand_got gets ++ all_operands bs)) false (option_and_then (λ n. run t.first (map (block_at names t.low) bs) zero n.subst n.registers left) r)
      step None h = tt
      step (Some n) h = absurd h
