-- A thin state spans no more than the other.
use Rattle.std.proofs.Common.{◌≡◌, ◌≤◌, ◌+◌, ℕ, suc, List, length, Bool, true, false, ◌||◌, refl, ap, arith, if◌then◌else◌}
use Rattle.iso_model.specs.Terms.Trees.{Tree}
use Rattle.iso_model.specs.Search.Databases.{Clause}
use Rattle.iso_model.specs.Search.Walker.{State, Member, Left, Alternative}
use Rattle.iso_model.specs.Search.RunLaws.Thinness.{Skips, no_clause, tried_too, passed_over, ThinList, no_member, thin_goal, thin_cut, thin_failure, thin_leave, thin_ball, thin_meeting, thin_gathering, ThinLeft, same_left, fewer_clauses, fewer_rows, ThinStack, no_alternative, kept, left_out, Around}
use Rattle.iso_model.specs.Search.RunLaws.Spans.{some_enters, counts, stack_span, span}

list_length : {ks : List Bool} {ms ns : List Member} → ThinList ks ms ns → length ms ≡ length ns
list_length no_member = refl
list_length (thin_goal h e f list) = ap suc (list_length list)
list_length (thin_cut h e f list) = ap suc (list_length list)
list_length (thin_failure h list) = ap suc (list_length list)
list_length (thin_leave h e f list) = ap suc (list_length list)
list_length (thin_ball h list) = ap suc (list_length list)
list_length (thin_meeting h list) = ap suc (list_length list)
list_length (thin_gathering h e f list) = ap suc (list_length list)

or_true : (first : Bool) → (first || true) ≡ true
or_true true = refl
or_true false = refl

or_more : (first one other : Bool) → (one ≡ true → other ≡ true) → (first || one) ≡ true → (first || other) ≡ true
or_more true one other more h = refl
or_more false one other more h = more h

counted_more : (first second : Bool) (n m : ℕ) → n ≡ m → (first ≡ true → second ≡ true) → (if first then 1 + n else 0) ≤ (if second then 1 + m else 0)
counted_more false second n m e more = omega arith
counted_more true true n m e more = omega (arith, e)
counted_more true false n m e more = let wrong = more refl in absurd (cc)

module _ (enters : Tree → Clause → Bool) where
  some_more : {call : Tree} {ds cs : List Clause} → Skips call ds cs → some_enters enters call ds ≡ true → some_enters enters call cs ≡ true
  some_more no_clause h = h
  some_more {call = call} (tried_too {c = c} {ds = ds} {cs = cs} skips) h =
      or_more (enters call c) (some_enters enters call ds) (some_enters enters call cs) (some_more skips) h
  some_more {call = call} (passed_over {c = c} {ds = ds} {cs = cs} miss skips) h =
      or_more (enters call c) true (some_enters enters call cs) (λ e. some_more skips h) (or_true (enters call c))

  counts_more : {l k : Left} → ThinLeft l k → counts enters l ≡ true → counts enters k ≡ true
  counts_more same_left h = h
  counts_more (fewer_clauses skips) h = some_more skips h
  counts_more (fewer_rows skips) h = h

  pub stack_span_less : {ks : List Bool} {xs ys : List Alternative} → ThinStack ks xs ys → stack_span enters xs ≤ stack_span enters ys
  stack_span_less no_alternative = omega arith
  stack_span_less (kept {a = a} {b = b} p q r list left others) =
      let first = counted_more (counts enters a.left) (counts enters b.left) (length a.list) (length b.list) (list_length list) (counts_more left) in
      let less = stack_span_less others in
      omega arith
  stack_span_less (left_out dead others) = let less = stack_span_less others in omega arith

  -- a thin state spans no more
  pub thin_span : (t s : State) → (at : Around t s) → ThinList at.keeps t.list s.list → span enters t ≤ span enters s
  thin_span t s at list =
      let first = list_length list in
      let less = stack_span_less at.stack in
      omega arith
