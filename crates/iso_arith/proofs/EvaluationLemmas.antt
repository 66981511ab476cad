-- Expressions that are evaluated step by step.
use Rattle.std.proofs.Common.{◌≡◌, ◌<◌, ◌≤◌, ◌+◌, ℕ, List, [], ◌∷◌, ◌++◌, Option, Some, None, Ok, Err, IfSome, Bool, true, false, ◌&&◌, refl, sym, ap, ap₂, ◌∙◌, subst, arith}
use Rattle.std.specs.Prelude.{ℤ, Result}
use Rattle.std.specs.Result.{IfOk, IsErrAnd}
use Rattle.std.specs.Option.{option_map}
use Rattle.std.proofs.lemmas.Bool.{true≢false}
use Rattle.iso_atoms.specs.Texts.{text_at}
use Rattle.iso_model.specs.Terms.Trees.{Tree, Integer, Apply, End, More, count}
use Rattle.iso_model.specs.Terms.Sorts.{is_term, is_row}
use Rattle.iso_model.specs.Terms.Sizes.{size}
use Rattle.iso_model.specs.Terms.Arguments.{argument}
use Rattle.iso_model.specs.Search.Keys.{key}
use Rattle.iso_model.specs.Search.Arithmetic.{Value, value, with_value, among, operations_of_one, operations_of_two, applied_one, applied_two}
use Rattle.iso_store_core.specs.Presents.{Present, meaning}
use Rattle.iso_arith.specs.declared.evaluation.Task.{Task}
use Rattle.iso_arith.specs.declared.evaluation.Task.TheVariants.{Apply as Apply_task, Right, Combine}
use Rattle.iso_arith.specs.declared.evaluation.Next.{Next}
use Rattle.iso_arith.specs.declared.evaluation.Next.TheVariants as next
use Rattle.iso_arith.specs.declared.faults.EvalFault.{EvalFault}
use Rattle.iso_arith.specs.declared.faults.EvalFault.TheVariants.{Unbound, NotEvaluable, Refused, NoMemory}
use Rattle.iso_arith.specs.Faults.{IsFault, IsAnswer}
use Rattle.iso_arith.specs.declared.operations.Unary.{Unary}
use Rattle.iso_arith.specs.declared.operations.Binary.{Binary}
use Rattle.iso_arith.specs.Operations.{does_unary, does_binary}
use Rattle.iso_arith.specs.Evaluations.{IsCall, IsStep, term_load, task_value, tasks_value, task_load, tasks_load, next_load, next_value}

-- ---- compounds by their number of arguments

and_right : (a b : Bool) → (a && b) ≡ true → b ≡ true
and_right true b h = h
and_right false b h = absurd (true≢false (sym h))

no_row : (b : Bool) → (b && false) ≡ true → ⊥
no_row true h = true≢false (sym h)
no_row false h = true≢false (sym h)

of_one : (f : List ℕ) (ts : Tree) → is_row ts ≡ true → count ts ≡ 1 → Apply f ts ≡ Apply f (More (argument 0 (Apply f ts)) End)
of_one f (More t End) row n = refl
of_one f (More t (More u us)) row n = absurd (omega arith)
of_one f (More t us) row n = absurd (no_row (is_term t) row)
of_one f End row n = absurd (omega arith)
of_one f ts row n = absurd (true≢false (sym row))

of_two : (f : List ℕ) (ts : Tree) → is_row ts ≡ true → count ts ≡ 2 → Apply f ts ≡ Apply f (More (argument 0 (Apply f ts)) (More (argument 1 (Apply f ts)) End))
of_two f (More t (More u End)) row n = refl
of_two f (More t (More u (More v vs))) row n = absurd (omega arith)
of_two f (More t (More u us)) row n = absurd (no_row (is_term u) (and_right (is_term t) (is_term u && false) row))
of_two f (More t ts) row n = absurd (omega arith)
of_two f End row n = absurd (omega arith)
of_two f ts row n = absurd (true≢false (sym row))

module _ (names : List (List ℕ)) (name n : ℕ) (t : Tree) (h : IsCall names name n t) where
  call_one : n ≡ 1 → t ≡ Apply (text_at names name) (More (argument 0 t) End)
  call_one one = subst (λ (u : Tree). u ≡ Apply (text_at names name) (More (argument 0 u) End)) (sym h.is) (of_one (text_at names name) h.arguments h.row (h.counted ∙ one))

  call_two : n ≡ 2 → t ≡ Apply (text_at names name) (More (argument 0 t) (More (argument 1 t) End))
  call_two two = subst (λ (u : Tree). u ≡ Apply (text_at names name) (More (argument 0 u) (More (argument 1 u) End))) (sym h.is) (of_two (text_at names name) h.arguments h.row (h.counted ∙ two))

  -- its value is that of its operation
  pub some_of_one : n ≡ 1 → (r : Option Unary) (f : Unary) → r ≡ Some f → option_map does_unary r ≡ among operations_of_one (text_at names name)
      → value t ≡ with_value (value (argument 0 t)) (does_unary f)
  some_of_one one r f some found = ap value (call_one one) ∙ ap (λ (o : Option (ℤ → Value)). applied_one o (value (argument 0 t)) (key (text_at names name) 1)) (sym found ∙ ap (option_map does_unary) some)

  pub some_of_two : n ≡ 2 → (r : Option Binary) (f : Binary) → r ≡ Some f → option_map does_binary r ≡ among operations_of_two (text_at names name)
      → value t ≡ with_value (value (argument 0 t)) (λ a. with_value (value (argument 1 t)) (does_binary f a))
  some_of_two two r f some found =
      ap value (call_two two) ∙ ap (λ (o : Option (ℤ → ℤ → Value)). applied_two o (value (argument 0 t)) (value (argument 1 t)) (key (text_at names name) 2)) (sym found ∙ ap (option_map does_binary) some)

  -- its arguments are smaller
  pub load_of_one : n ≡ 1 → term_load (argument 0 t) + 1 < term_load t
  load_of_one one = let e = ap size (call_one one) in omega arith

  pub load_of_two : n ≡ 2 → term_load (argument 0 t) + (2 + term_load (argument 1 t)) < term_load t
  load_of_two two = let e = ap size (call_two two) in omega arith

-- ---- tasks

module _ {W : Type 0} (p : Present W) where
  pub tasks_value-push : (xs : List (Task W)) (x : Task W) (v : Value) → tasks_value p (xs ++ x ∷ []) v ≡ tasks_value p xs (task_value p x v)
  tasks_value-push [] x v = refl
  tasks_value-push (y ∷ xs) x v = ap (task_value p y) (tasks_value-push xs x v)

  pub tasks_value-more : (xs ys : List (Task W)) (x : Task W) (v : Value) → ys ≡ xs ++ x ∷ [] → tasks_value p ys v ≡ tasks_value p xs (task_value p x v)
  tasks_value-more xs ys x v more = ap (λ (zs : List (Task W)). tasks_value p zs v) more ∙ tasks_value-push xs x v

  -- an argument comes next
  pub step_of_one : (xs ys : List (Task W)) (f : Unary) (a t : Tree) → ys ≡ xs ++ Apply_task f ∷ [] → a ≡ argument 0 t → value t ≡ with_value (value (argument 0 t)) (does_unary f)
      → tasks_value p ys (value a) ≡ tasks_value p xs (value t)
  step_of_one xs ys f a t more first h =
      tasks_value-more xs ys (Apply_task f) (value a) more ∙ ap (tasks_value p xs) (ap (λ (u : Tree). with_value (value u) (does_unary f)) first ∙ sym h)

  pub step_of_two : (xs ys : List (Task W)) (f : Binary) (a t : Tree) (w : W) → ys ≡ xs ++ Right f w ∷ [] → a ≡ argument 0 t → meaning p w ≡ argument 1 t
      → value t ≡ with_value (value (argument 0 t)) (λ x. with_value (value (argument 1 t)) (does_binary f x)) → tasks_value p ys (value a) ≡ tasks_value p xs (value t)
  step_of_two xs ys f a t w more first second h =
      tasks_value-more xs ys (Right f w) (value a) more
      ∙ ap (tasks_value p xs) (ap₂ (λ (u v : Tree). with_value (value u) (λ (x : ℤ). with_value (value v) (does_binary f x))) first second ∙ sym h)

  -- the left argument is an integer
  pub step_with_left : (names : List (List ℕ)) (xs ys : List (Task W)) (r : Result (Next W) EvalFault) (f : Binary) (a b t : Tree) (z : ℤ) → a ≡ argument 0 t → b ≡ argument 1 t
      → a ≡ Integer z → value t ≡ with_value (value (argument 0 t)) (λ x. with_value (value (argument 1 t)) (does_binary f x))
      → IsStep p names xs ys r (with_value (value b) (does_binary f z)) → IsStep p names xs ys r (value t)
  step_with_left names xs ys r f a b t z first second is h =
      subst (IsStep p names xs ys r) (ap₂ (λ (u v : Tree). with_value (value u) (λ (x : ℤ). with_value (value v) (does_binary f x))) (sym is ∙ first) second ∙ sym h)

  pub less_with_left : (r : Result (Next W) EvalFault) (ys : List (Task W)) (m n : ℕ) → IfOk r (λ x. next_load p x + tasks_load p ys < m) → m ≤ n → IfOk r (λ x. next_load p x + tasks_load p ys < n)
  less_with_left (Ok x) ys m n h few = omega (arith, h, few)
  less_with_left (Err e) ys m n h few = tt

  tasks_load-push : (xs : List (Task W)) (x : Task W) → tasks_load p (xs ++ x ∷ []) ≡ task_load p x + tasks_load p xs
  tasks_load-push [] x = omega arith
  tasks_load-push (y ∷ xs) x = let h = tasks_load-push xs x in omega arith

  pub tasks_load-more : (xs ys : List (Task W)) (x : Task W) → ys ≡ xs ++ x ∷ [] → tasks_load p ys ≡ task_load p x + tasks_load p xs
  tasks_load-more xs ys x more = ap (tasks_load p) more ∙ tasks_load-push xs x

  -- what is left to do is less
  pub less_of_one : (xs ys : List (Task W)) (f : Unary) (a t : Tree) → ys ≡ xs ++ Apply_task f ∷ [] → a ≡ argument 0 t → term_load (argument 0 t) + 1 < term_load t
      → term_load a + tasks_load p ys < term_load t + tasks_load p xs
  less_of_one xs ys f a t more first less =
      let all = tasks_load-more xs ys (Apply_task f) more in
      let same = ap term_load first in
      omega arith

  pub less_of_two : (xs ys : List (Task W)) (f : Binary) (a t : Tree) (w : W) → ys ≡ xs ++ Right f w ∷ [] → a ≡ argument 0 t → meaning p w ≡ argument 1 t
      → term_load (argument 0 t) + (2 + term_load (argument 1 t)) < term_load t → term_load a + tasks_load p ys < term_load t + tasks_load p xs
  less_of_two xs ys f a t w more first second less =
      let all = tasks_load-more xs ys (Right f w) more in
      let left = ap term_load first in
      let right = ap term_load second in
      omega arith

  -- ---- an error stays

  task_error : (x : Task W) (e : Tree) → task_value p x (Err e) ≡ Err e
  task_error (Apply_task f) e = refl
  task_error (Right f w) e = refl
  task_error (Combine f z) e = refl

  tasks_error : (xs : List (Task W)) (e : Tree) → tasks_value p xs (Err e) ≡ Err e
  tasks_error [] e = refl
  tasks_error (x ∷ xs) e = ap (task_value p x) (tasks_error xs e) ∙ task_error x e

  error_stays : (xs : List (Task W)) (v w : Value) (e : Tree) → v ≡ Err e → tasks_value p xs v ≡ w → w ≡ Err e
  error_stays xs v w e is leads = sym leads ∙ ap (tasks_value p xs) is ∙ tasks_error xs e

  -- and so does a fault
  pub fault_stays : (names : List (List ℕ)) (xs : List (Task W)) (v w : Value) (e : EvalFault) → IsFault names e v → tasks_value p xs v ≡ w → IsFault names e w
  fault_stays names xs v w Unbound h leads = error_stays xs v w _ h leads
  fault_stays names xs v w (NotEvaluable a n) h leads = (h.0, h.1, error_stays xs v w _ h.2 leads)
  fault_stays names xs v w (Refused r) h leads = error_stays xs v w _ h leads
  fault_stays names xs v w NoMemory h leads = tt

  -- ---- what comes next

  -- it is an expression
  pub term_next : (xs : List (Task W)) (n : Next W) (w : W) (v : Value) → n ≡ next.Term w → tasks_value p xs (next_value p n) ≡ v → tasks_value p xs (value (meaning p w)) ≡ v
  term_next xs n w v is h = ap (λ (m : Next W). tasks_value p xs (next_value p m)) (sym is) ∙ h

  -- it is a value, and a task was taken
  pub task_next : (xs ys : List (Task W)) (x : Task W) (n : Next W) (z : ℤ) (v : Value) → n ≡ next.Value z → ys ≡ xs ++ x ∷ [] → tasks_value p ys (next_value p n) ≡ v
      → tasks_value p xs (task_value p x (Ok z)) ≡ v
  task_next xs ys x n z v is more h = sym (tasks_value-more xs ys x (Ok z) more) ∙ ap (λ (m : Next W). tasks_value p ys (next_value p m)) (sym is) ∙ h

  -- and what it made comes next
  pub made_next : (xs ys zs : List (Task W)) (x : Task W) (n m : Next W) (z : ℤ) (v : Value) → n ≡ next.Value z → ys ≡ xs ++ x ∷ [] → tasks_value p ys (next_value p n) ≡ v
      → tasks_value p zs (next_value p m) ≡ tasks_value p xs (task_value p x (Ok z)) → tasks_value p zs (next_value p m) ≡ v
  made_next xs ys zs x n m z v is more h made = made ∙ task_next xs ys x n z v is more h

  -- it is a value, and no task is left
  pub all_done : (xs : List (Task W)) (n : Next W) (z : ℤ) (v : Value) → n ≡ next.Value z → xs ≡ [] → tasks_value p xs (next_value p n) ≡ v → v ≡ Ok z
  all_done xs n z v is none h = sym h ∙ ap₂ (λ (ys : List (Task W)) (m : Next W). tasks_value p ys (next_value p m)) none is

-- the fault of a step is the answer
pub fault_answers : (names : List (List ℕ)) (r : Result ℤ EvalFault) (e : EvalFault) (v : Value) → IsErrAnd r (λ x. x ≡ e) → IsFault names e v → IsAnswer names r v
fault_answers names (Ok z) e v h fault = absurd h
fault_answers names (Err x) e v h fault = subst (λ (y : EvalFault). IsFault names y v) (sym h) fault

-- ---- values that are found at once

module _ (names : List (List ℕ)) (name n : ℕ) (t : Tree) (h : IsCall names name n t) where
  pub value_of_one : n ≡ 1 → (found : Option Unary) (f : Unary) → found ≡ Some f → option_map does_unary found ≡ among operations_of_one (text_at names name)
      → (a : Tree) (x : ℤ) → a ≡ argument 0 t → value a ≡ Ok x → (r : Option ℤ) → IfSome r (λ z. does_unary f x ≡ Ok z) → IfSome r (λ z. value t ≡ Ok z)
  value_of_one one found f is table a x first left None made = tt
  value_of_one one found f is table a x first left (Some z) made =
      some_of_one names name n t h one found f is table ∙ ap (λ (v : Value). with_value v (does_unary f)) (ap value (sym first) ∙ left) ∙ made

  pub value_of_two : n ≡ 2 → (found : Option Binary) (f : Binary) → found ≡ Some f → option_map does_binary found ≡ among operations_of_two (text_at names name)
      → (a b : Tree) (x y : ℤ) → a ≡ argument 0 t → b ≡ argument 1 t → value a ≡ Ok x → value b ≡ Ok y
      → (r : Option ℤ) → IfSome r (λ z. does_binary f x y ≡ Ok z) → IfSome r (λ z. value t ≡ Ok z)
  value_of_two two found f is table a b x y first second left right None made = tt
  value_of_two two found f is table a b x y first second left right (Some z) made =
      some_of_two names name n t h two found f is table
      ∙ ap₂ (λ (u v : Value). with_value u (λ (c : ℤ). with_value v (does_binary f c))) (ap value (sym first) ∙ left) (ap value (sym second) ∙ right)
      ∙ made
