-- An engine's own state spans no more than a state to which the search comes without an event.
use Rattle.std.proofs.Common.{◌≡◌, ◌≤◌, ◌+◌, ℕ, suc, List, [], ◌∷◌, length, Bool, true, false, refl, sym, ap, ◌∙◌, arith, if◌then◌else◌}
use Rattle.iso_model.specs.Terms.Trees.{Tree}
use Rattle.iso_model.specs.Terms.Substitutions.{Subst}
use Rattle.iso_model.specs.Search.Databases.{Clause}
use Rattle.iso_model.specs.Search.Bodies.{Body, Cut, Run, And, Or, If, Choose}
use Rattle.iso_model.specs.Search.Walker.{State, Member, Goal, CutTo, Fail, Leave, Raise, Meet, Gather, Alternative}
use Rattle.iso_model.specs.Search.Runs.{Quiet}
use Rattle.iso_model.specs.Search.RunLaws.Sameness.{SameList, no_member, same_goal, same_construct, same_cut, same_failure, same_leave, same_ball, same_meeting, same_gathering, SameStack, no_alternative, same_alternative, open_body, open_list, Same}
use Rattle.iso_model.specs.Search.RunLaws.Sameness as sameness
use Rattle.iso_model.specs.Search.RunLaws.Thinness.{Thin, going, failing}
use Rattle.iso_model.specs.Search.RunLaws.Spans.{counts, stack_span, span}
use Rattle.iso_model.proofs.Search.RunLaws.SameLaws.{same_beside, failing_left}
use Rattle.iso_model.proofs.Search.RunLaws.SameSteps.{open_twice}
use Rattle.iso_model.proofs.Search.RunLaws.Opening.{opened, opens, same_opened}
use Rattle.iso_model.proofs.Search.RunLaws.ThinRuns.{thin_around, quiet_thin}
use Rattle.iso_model.proofs.Search.RunLaws.SpanLemmas.{stack_span_less, thin_span}
use Rattle.iso_model.proofs.Search.RunLaws.Likeness.{Alike}

-- lists that are the same are as long
pub list_length : {r q : Subst} {ms ns : List Member} → SameList r q ms ns → length ms ≡ length ns
list_length no_member = refl
list_length (same_goal value others) = ap suc (list_length others)
list_length (same_construct same others) = ap suc (list_length others)
list_length (same_cut others) = ap suc (list_length others)
list_length (same_failure others) = ap suc (list_length others)
list_length (same_leave others) = ap suc (list_length others)
list_length (same_ball others) = ap suc (list_length others)
list_length (same_meeting catcher recovery others) = ap suc (list_length others)
list_length (same_gathering value others) = ap suc (list_length others)

body_longer : (b : Body) (mark : ℕ) (ms : List Member) → suc (length ms) ≤ length (open_body b mark ms)
body_longer (And a b) mark ms = let more = body_longer a mark (Goal b mark ∷ ms) in omega (arith, more)
body_longer Cut mark ms = omega arith
body_longer (Run t) mark ms = omega arith
body_longer (Or a b) mark ms = omega arith
body_longer (If c t) mark ms = omega arith
body_longer (Choose c t e) mark ms = omega arith

-- a conjunction that is taken apart makes a list longer
list_longer : (ms : List Member) → length ms ≤ length (open_list ms)
list_longer [] = omega arith
list_longer (Goal b mark ∷ ms) = body_longer b mark ms
list_longer (CutTo height ∷ ms) = omega arith
list_longer (Fail ∷ ms) = omega arith
list_longer (Leave height ∷ ms) = omega arith
list_longer (Raise ball ∷ ms) = omega arith
list_longer (Meet ball catcher recovery ∷ ms) = omega arith
list_longer (Gather height template ∷ ms) = omega arith

counted_same : (first second : Bool) (m n : ℕ) → first ≡ second → m ≡ n
    → (if first then 1 + m else 0) ≡ (if second then 1 + n else 0)
counted_same true true m n e same = ap (λ (k : ℕ). 1 + k) same
counted_same true false m n e same = absurd (cc)
counted_same false true m n e same = absurd (cc)
counted_same false false m n e same = refl

-- the state runs goals
abbrev pub Runs : State → Type 0
Runs s = (ms : List Member) → s.list ≡ Fail ∷ ms → ⊥

module _ (enters : Tree → Clause → Bool) where
  same_stack_span : {vs ws : List ℕ} {xs ys : List Alternative} → SameStack vs ws xs ys
      → stack_span enters xs ≡ stack_span enters ys
  same_stack_span no_alternative = refl
  same_stack_span (same_alternative {a = a} {b = b} agree next built list left own other others) =
      let first = counted_same (counts enters a.left) (counts enters b.left) (length a.list) (length b.list)
      (ap (counts enters) left) (list_length list) in
      let more = same_stack_span others in
      omega arith

  -- The alternatives of the first state span no more than those of the search's.
  pub alike_stack_span : (t s : State) → Alike t s → stack_span enters t.stack ≤ stack_span enters s.stack
  alike_stack_span t s h =
      let first = same_stack_span (same_beside t h.middle h.same).stack in
      let second = stack_span_less enters (thin_around h.thin).stack in
      omega (arith, first, second)

  same_runs : (t m : State) → Same t (opened m) → Runs t → (length t.list ≤ length (opened m).list) × Runs (opened m)
  same_runs t m (sameness.going at list) runs = (
    (let longer = list_longer t.list in
        let same = list_length list in
        let twice = ap length (open_twice m.list) in
        omega (arith, longer, same, twice)),
    λ ns is. let left = failing_left t (opened m) ns list is in runs left.0 left.1,
  )
  same_runs t m (sameness.failing ms ns is are h) runs = absurd (runs ms is)

  thin_runs : (m s : State) → Thin m s → Runs m → span enters m ≤ span enters s
  thin_runs m s (going at p q r list) runs = thin_span enters m s at list
  thin_runs m s (failing ms ns is are less at) runs = absurd (runs ms is)

  -- While it runs goals, the first state spans no more than one to which the search comes without an event.
  pub alike_span : (t s : State) → Alike t s → Runs t → (u : State) × Quiet s u × (span enters t ≤ span enters u)
  alike_span t s h runs =
      let m = h.middle in
      let both = same_runs t m (same_opened t m h.same) runs in
      let list = both.0 in
      let stack = same_stack_span (same_beside t m h.same).stack in
      let on = quiet_thin m (opened m) s (opens m) h.thin in
      let less = thin_runs (opened m) on.0 on.2 both.1 in
      (on.0, on.1, omega (arith, list, stack, less))
