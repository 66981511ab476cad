-- How many cells the goals of a clause's body take: at most twice what their arguments count.
use Rattle.std.proofs.Common.{◌≡◌, ◌≤◌, ◌+◌, ◌*◌, ◌-◌, ◌++◌, ℕ, zero, suc, List, [], ◌∷◌, length, Bool, true, false, Some, refl, subst, arith, if◌then◌else◌}
use Rattle.std.specs.List.{AllZip, slice_get}
use Rattle.iso_model.specs.Search.Bodies.{Body, is_true}
use Rattle.iso_model.specs.Search.Databases as databases
use Rattle.iso_model.specs.Search.Walker.{body_size}
use Rattle.iso_prep.specs.Classes.{goals_of}
use Rattle.iso_alloc.specs.Plans.{Layout}
use Rattle.iso_model.specs.Terms.Trees.{Tree}
use Rattle.iso_compile.specs.declared.control.Mark.TheVariants as mark
use Rattle.iso_compile.specs.Control.{Member, Goal, CutTo, Continues, proceeds, executes, calls, answers, cuts, cuts_back, joins, tries, commits, chooses, jumps}
use Rattle.iso_compile.specs.Evaluations.{ComesTo}
use Rattle.iso_compile.specs.declared.control.Instruction as compiled
use Rattle.iso_compile.specs.declared.control.Instruction.TheVariants as control
use Rattle.iso_program.proofs.ClauseLemmas.{templates-parts}
use Rattle.iso_instructions.specs.declared.instructions.Code.{Code}
use Rattle.iso_instructions.specs.declared.instructions.Instruction.{Instruction}
use Rattle.iso_instructions.specs.declared.instructions.Instruction.TheVariants.{Is, Compare, Proceed, Cut, GetLevel, TryElse, Jump}
use Rattle.iso_bodies.specs.Instructions.{IsLoadedInstruction}
use Rattle.iso_clause_code.specs.Keeping.{KeepsCode}
use Rattle.iso_frames.specs.Running.{FitMembers}
use Rattle.iso_frames.specs.Costs.{cells_from}
use Rattle.iso_frames.proofs.CodeCosts.{cells_end, cells_jump, cells_execute, cells_call, cells_try, cells_on}
use Rattle.iso_environments.proofs.EnteredLemmas.{body_remains}
use Rattle.iso_machine.proofs.GoalCells.{goal_most}

-- how much the arguments of the members' goals count
abbrev members_size : List Member → ℕ
members_size [] = 0
members_size (Goal b m ∷ ms) = body_size b + members_size ms
members_size (CutTo m ∷ ms) = members_size ms

zip_there : {A B : Type 0} (R : A → B → Type 0) (xs : List A) (ys : List B) (i : ℕ) (x : A) → AllZip R xs ys
    → slice_get xs i ≡ Some x → (y : B) × (slice_get ys i ≡ Some y) × R x y
zip_there R [] [] i x h is = absurd (cc)
zip_there R [] (z ∷ ys) i x h is = absurd h
zip_there R (z ∷ xs) [] i x h is = absurd h
zip_there R (z ∷ xs) (y ∷ ys) zero x h is = (let same : z ≡ x = cc in (y, refl, subst (λ (w : _). R w y) same h.0))
zip_there R (z ∷ xs) (y ∷ ys) (suc i) x h is = zip_there R xs ys i x h.1 is

-- where this was loaded for this body
module _ (plan : Layout) (list : List compiled.Instruction) (names : List (List ℕ)) (code : Code) (n : ℕ)
    (loaded : AllZip (IsLoadedInstruction names plan.registers) list code.body.items) where
  there : (a : ℕ) (i : compiled.Instruction) → slice_get list a ≡ Some i → (j : Instruction)
      × (slice_get code.body.items a ≡ Some j) × IsLoadedInstruction names plan.registers i j
  there a i is = zip_there (IsLoadedInstruction names plan.registers) list code.body.items a i loaded is

  same_there : (a : ℕ) (i : compiled.Instruction) (j : Instruction) → slice_get list a ≡ Some i
      → ((k : Instruction) → IsLoadedInstruction names plan.registers i k → k ≡ j)
      → slice_get code.body.items a ≡ Some j
  same_there a i j is only =
      let h = there a i is in
      subst (λ (k : Instruction). slice_get code.body.items a ≡ Some k) (only h.0 h.2) h.1

  -- arithmetic takes none
  answer_cells : (a : ℕ) (i : compiled.Instruction) (t : Tree) → slice_get list (suc a) ≡ Some i → ComesTo i t
      → cells_from code (suc a) ≡ cells_from code a
  answer_cells a (control.Is p ks) t is comes =
      let h = there (suc a) (control.Is p ks) is in
      cells_on code a (Is h.2.0 h.2.1)
      (subst (λ (k : Instruction). slice_get code.body.items (suc a) ≡ Some k) h.2.2 h.1) (λ below. refl)
  answer_cells a (control.Compare c ks) t is comes =
      let h = there (suc a) (control.Compare c ks) is in
      cells_on code a (Compare c h.2.0)
      (subst (λ (k : Instruction). slice_get code.body.items (suc a) ≡ Some k) h.2.1 h.1) (λ below. refl)
  answer_cells a (control.Call c) t is comes = absurd comes
  answer_cells a (control.Execute c) t is comes = absurd comes
  answer_cells a control.Proceed t is comes = absurd comes
  answer_cells a (control.Cut m) t is comes = absurd comes
  answer_cells a (control.GetLevel k) t is comes = absurd comes
  answer_cells a (control.TryElse l) t is comes = absurd comes
  answer_cells a (control.Jump l) t is comes = absurd comes

  -- From an address on goals take at most twice what those of the members count that are left there.
  pub left_cells : {a : ℕ} {ms : List Member} → Continues plan list a ms → FitMembers n ms
      → cells_from code a ≤ 2 * members_size ms
  left_cells (proceeds {a = a} at) fit =
      let none = cells_end code a (same_there a control.Proceed Proceed at.is (λ k is. is)) in
      omega (arith, none)
  left_cells (executes {a = a} {c = c} {t = t} at call) fit =
      let h = there a (control.Execute c) at.is in
      let cells = cells_execute code a h.2.0
      (subst (λ (k : Instruction). slice_get code.body.items a ≡ Some k) h.2.1 h.1) in
      let most = goal_most n t fit.0.0 call h.2.2 in
      omega (arith, cells, most)
  left_cells (calls {a = a} {c = c} {t = t} at call on) fit =
      let h = there (suc a) (control.Call c) at.is in
      let cells = cells_call code a h.2.0
      (subst (λ (k : Instruction). slice_get code.body.items (suc a) ≡ Some k) h.2.1 h.1) in
      let most = goal_most n t fit.0.0 call h.2.2 in
      let rest = left_cells on fit.1 in
      omega (arith, cells, most, rest)
  left_cells (answers {a = a} {i = i} {t = t} at comes on) fit =
      let cells = answer_cells a i t at.is comes in
      let rest = left_cells on fit.1 in
      omega (arith, cells, rest)
  left_cells (cuts {a = a} {m = m} at on) fit =
      let cells = cells_on code a (Cut m)
      (same_there (suc a) (control.Cut m) (Cut m) at.is (λ k is. is)) (λ below. refl) in
      let rest = left_cells on fit.1 in
      omega (arith, cells, rest)
  left_cells (cuts_back {a = a} {m = m} at on) fit =
      let cells = cells_on code a (Cut m)
      (same_there (suc a) (control.Cut m) (Cut m) at.is (λ k is. is)) (λ below. refl) in
      let rest = left_cells on fit in
      omega (arith, cells, rest)
  left_cells (joins {x = x} {y = y} on) fit =
      let both = templates-parts n (goals_of x) (goals_of y) fit.0 in
      let rest = left_cells on (both.0, (both.1, fit.1)) in
      omega (arith, rest)
  left_cells (tries {a = a} {l = l} {x = x} {y = y} at low here other) fit =
      let both = templates-parts n (goals_of x) (goals_of y) fit.0 in
      let cells = cells_try code a l (same_there (suc a) (control.TryElse l) (TryElse l) at.is (λ k is. is)) low in
      let first = left_cells here (both.0, fit.1) in
      let second = left_cells other (both.1, fit.1) in
      omega (arith, cells, first, second)
  left_cells (commits {a = a} {k = k} {x = x} {y = y} at slots older on) fit =
      let both = templates-parts n (goals_of x) (goals_of y) fit.0 in
      let cells = cells_on code a (GetLevel k)
      (same_there (suc a) (control.GetLevel k) (GetLevel k) at.is (λ j is. is)) (λ below. refl) in
      let rest = left_cells on (both.0, (both.1, fit.1)) in
      omega (arith, cells, rest)
  left_cells (chooses {a = a} {k = k} {l = l} {x = x} {y = y} {z = z} at try low slots older here other) fit =
      let all = templates-parts n (goals_of x) (goals_of y ++ goals_of z) fit.0 in
      let both = templates-parts n (goals_of y) (goals_of z) all.1 in
      let level = cells_on code (suc a) (GetLevel k)
      (same_there (suc (suc a)) (control.GetLevel k) (GetLevel k) at.is (λ j is. is)) (λ below. refl) in
      let cells = cells_try code a l (same_there (suc a) (control.TryElse l) (TryElse l) try.is (λ j is. is)) low in
      let first = left_cells here (all.0, (both.0, fit.1)) in
      let second = left_cells other (both.1, fit.1) in
      omega (arith, level, cells, first, second)
  left_cells (jumps {a = a} {l = l} at less on) fit =
      let cells = cells_jump code a l (same_there a (control.Jump l) (Jump l) at.is (λ k is. is)) less in
      let rest = left_cells on fit in
      omega (arith, cells, rest)

members_most : (b : Body) (alone : Bool) → members_size (if alone then [] else Goal b mark.Clause ∷ []) ≤ body_size b
members_most b true = omega arith
members_most b false = omega arith

-- The goals of a clause's body take at most twice what their arguments count.
pub clause_cells : {names : List (List ℕ)} {code : Code} {c : databases.Clause} → KeepsCode names code c
    → cells_from code (length code.body.items - 1) ≤ 2 * body_size c.body
clause_cells {names = names} {code = code} {c = c} k =
    let r = body_remains k in
    let cells = left_cells k.plan k.compiled.body.items names code code.variables r.loaded r.continues r.fit in
    let most = members_most c.body (is_true c.body) in
    omega (arith, cells, most)
