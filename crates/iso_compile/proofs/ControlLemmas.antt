-- What the search does with the members of a clause's list.
use Rattle.std.proofs.Common.{◌≡◌, ◌<◌, ◌≤◌, ◌+◌, ℕ, suc, max, ◌==◌, List, [], ◌∷◌, ◌++◌, length, inl, inr, refl, sym, ap, ap₂, arith}
use Rattle.std.proofs.lemmas.Bool.{cases_Bool, eqb-true, eq-eqb, false≢true}
use Rattle.iso_model.specs.Terms.Trees.{Variable, Integer, Name, Apply, End, More}
use Rattle.iso_model.specs.Search.Bodies.{map_body, Body, Cut, Run, And, Or, If, Choose}
use Rattle.iso_model.specs.Search.Walker as walker
use Rattle.iso_model.specs.Search.Walker.{State, AsIs, Goes, pushed, body_size}
use Rattle.iso_alloc.specs.Plans.{Layout}
use Rattle.iso_compile.specs.declared.control.Mark.{Mark}
use Rattle.iso_compile.specs.declared.control.Mark.TheVariants.{Clause, Level, AboveLevel}
use Rattle.iso_compile.specs.Control.{Member, Goal, CutTo, IsOlder, AreOlder, height, members, Continues, proceeds, executes, calls, answers, cuts, cuts_back, joins, tries, commits, chooses, jumps}
use Rattle.iso_compile.specs.declared.control.Instruction.{Instruction}
use Rattle.iso_compile.specs.ControlLaws.{with_level, MembersAreTaken, goals_size, members_size, cells_from, HaveNames, CellsAreCounted}

module _ (next called k h : ℕ) (kept : ℕ → ℕ) where
  level_there : with_level k h kept k ≡ h
  level_there = rw (eq-eqb k k refl) refl

  level_kept : (j : ℕ) → j < k → with_level k h kept j ≡ kept j
  level_kept j low = elim (cases_Bool (j == k)) [
    | inl same ↦ absurd (let e = eqb-true j k same in omega (arith, e, low))
    | inr other ↦ rw other refl
  ]

  height_kept : (m : Mark) → IsOlder k m → height called (with_level k h kept) m ≡ height called kept m
  height_kept Clause older = refl
  height_kept (Level j) older = level_kept j older
  height_kept (AboveLevel j) older = ap suc (level_kept j older)

  -- a level that is kept elsewhere changes no member
  members_kept : (ms : List Member) → AreOlder k ms → members next called (with_level k h kept) ms ≡ members next called kept ms
  members_kept [] older = refl
  members_kept (Goal b m ∷ ms) older = ap₂ (λ n ns. walker.Goal (map_body (λ x. Variable (next + x)) b) n ∷ ns) (height_kept m older.0) (members_kept ms older.1)
  members_kept (CutTo m ∷ ms) older = ap₂ (λ n ns. walker.CutTo n ∷ ns) (height_kept m older.0) (members_kept ms older.1)

pub members_are_taken : MembersAreTaken
members_are_taken next called kept others s m ms = record {
  goal = λ t. refl;
  cut = refl;
  cut_to = refl;
  conjunction = λ x y. refl;
  disjunction = λ x y. refl;
  if_then = λ k x y older.
      ap₂ (λ n ns. Goes (record s { list = walker.Goal (map_body (λ v. Variable (next + v)) x) n ∷ walker.CutTo n ∷ (ns ++ others) }))
      (sym (level_there next called k (length s.stack) kept)) (sym (members_kept next called k (length s.stack) kept (Goal y m ∷ ms) older));
  if_then_else = λ k x y z older.
      (let mark = height_kept next called k (length s.stack) kept m older.0 in
      let rest = members_kept next called k (length s.stack) kept ms older.1 in
      let level = level_there next called k (length s.stack) kept in
      rw (mark, rest, level) refl);
}

-- ---- cells

at_most : (a b n : ℕ) → a ≤ n → b ≤ n → max a b ≤ n
at_most a b n one other = omega (arith, one, other)

calls_counted : {plan : Layout} {code : List Instruction} {a : ℕ} {ms : List Member} (h : Continues plan code a ms) → cells_from h ≤ members_size ms
calls_counted (proceeds at) = omega arith
calls_counted (executes at is) = let few = is.cells in omega (arith, few)
calls_counted (calls at is rest) = let few = is.cells in let others = calls_counted rest in omega (arith, few, others)
calls_counted (answers at comes rest) = let others = calls_counted rest in omega (arith, others)
calls_counted (cuts at rest) = let others = calls_counted rest in omega (arith, others)
calls_counted (cuts_back at rest) = calls_counted rest
calls_counted (joins inner) = let all = calls_counted inner in omega (arith, all)
calls_counted (tries at low here there) = at_most (cells_from here) (cells_from there) _ (let one = calls_counted here in omega (arith, one)) (let other = calls_counted there in omega (arith, other))
calls_counted (commits at above older here) = let all = calls_counted here in omega (arith, all)
calls_counted (chooses at next low above older here there) = at_most (cells_from here) (cells_from there) _ (let one = calls_counted here in omega (arith, one)) (let other = calls_counted there in omega (arith, other))
calls_counted (jumps at low there) = calls_counted there

goals_counted : (b : Body) → HaveNames b → goals_size b ≡ body_size b
goals_counted Cut h = refl
goals_counted (Run (Name a)) h = refl
goals_counted (Run (Apply f ts)) h = refl
goals_counted (Run (Variable x)) h = absurd (false≢true h)
goals_counted (Run (Integer z)) h = absurd (false≢true h)
goals_counted (Run End) h = absurd (false≢true h)
goals_counted (Run (More t ts)) h = absurd (false≢true h)
goals_counted (And x y) h = let a = goals_counted x h.0 in let b = goals_counted y h.1 in omega (arith, a, b)
goals_counted (Or x y) h = let a = goals_counted x h.0 in let b = goals_counted y h.1 in omega (arith, a, b)
goals_counted (If x y) h = let a = goals_counted x h.0 in let b = goals_counted y h.1 in omega (arith, a, b)
goals_counted (Choose x y z) h = let a = goals_counted x h.0 in let b = goals_counted y h.1 in let c = goals_counted z h.2 in omega (arith, a, b, c)

pub cells_are_counted : CellsAreCounted
cells_are_counted = record { calls = λ plan code a ms h. calls_counted h; goals = goals_counted }
