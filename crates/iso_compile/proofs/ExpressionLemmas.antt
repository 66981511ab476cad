-- The steps of an expression leave its value.
use Rattle.std.proofs.Common.{◌≡◌, ◌≤◌, ◌+◌, ℕ, ℤ, List, [], ◌∷◌, ◌++◌, ◌&&◌, length, Bool, true, false, Option, Some, None, Result, Ok, Err, refl, ap, sym, subst, ◌∙◌, arith}
use Rattle.std.specs.Prelude.{is_some}
use Rattle.std.proofs.lemmas.Bool.{and_parts, false≢true}
use Rattle.std.proofs.lemmas.List.{append_assoc, append-nil}
use Rattle.std.specs.String.{string_bytes}
use Rattle.std.specs.Borrow.{Bor}
use Rattle.iso_model.specs.Terms.Trees.{Tree, Variable, Integer, Apply, End, More}
use Rattle.iso_model.specs.Terms.Substitutions.{Subst, apply}
use Rattle.iso_model.specs.Terms.Copies.{renamed}
use Rattle.iso_model.specs.Search.Errors.{Key, key}
use Rattle.iso_model.specs.Search.Arithmetic.{Value, value, among, operations_of_one, operations_of_two, applied_one, applied_two}
use Rattle.iso_model.specs.declared.terms.Term.{Term}
use Rattle.iso_model.specs.Terms.TermOf.{term_of, row_of}
use Rattle.iso_compile.specs.declared.expressions.Step as written
use Rattle.iso_compile.specs.declared.expressions.Step.TheVariants as step
use Rattle.iso_compile.specs.declared.expressions.Task as left
use Rattle.iso_compile.specs.declared.expressions.Task.TheVariants as task
use Rattle.iso_alloc.specs.declared.places.Place.{Place}
use Rattle.iso_compile.specs.Emitted.{Marking, Marks}
use Rattle.iso_compile.specs.Emitting.{all_placed, HasPlaced}
use Rattle.iso_compile.specs.Expressions.{Step, One, Two, on_value, done, is_known, steps_of, step_parts, task_known, task_load, task_steps, tasks_known, tasks_load, tasks_steps, Leaves, StepMarks}

pub on_same : (v : Value) (f g : ℤ → Result (List ℤ) Tree) → ((z : ℤ) → f z ≡ g z) → on_value v f ≡ on_value v g
on_same (Ok z) f g same = same z
on_same (Err e) f g same = refl

one_applied : (o : Option (ℤ → Value)) → is_some o ≡ true → (v : Value) (k : Key) (go : ℤ → Result (List ℤ) Tree) → on_value v (λ z. on_value (applied_one o (Ok z) k) go) ≡ on_value (applied_one o v k) go
one_applied (Some f) known (Ok z) k go = refl
one_applied (Some f) known (Err e) k go = refl
one_applied None known v k go = absurd (false≢true known)

two_applied : (o : Option (ℤ → ℤ → Value)) → is_some o ≡ true → (v w : Value) (k : Key) (go : ℤ → Result (List ℤ) Tree)
    → on_value v (λ a. on_value w (λ b. on_value (applied_two o (Ok a) (Ok b) k) go)) ≡ on_value (applied_two o v w k) go
two_applied (Some f) known (Ok a) (Ok b) k go = refl
two_applied (Some f) known (Ok a) (Err e) k go = refl
two_applied (Some f) known (Err e) w k go = refl
two_applied None known v w k go = absurd (false≢true known)

pub evaluated : (t : Tree) → is_known t ≡ true → (next : ℕ) (s : Subst) (ks : List Step) (zs : List ℤ) → done next s (steps_of t ++ ks) zs ≡ on_value (value (apply s (renamed next t))) (λ z. done next s ks (z ∷ zs))
evaluated (Variable x) known next s ks zs = refl
evaluated (Integer z) known next s ks zs = refl
evaluated (Apply f (More x End)) known next s ks zs =
    let both = and_parts (is_some (among operations_of_one f)) (is_known x) known in
    ap (λ js. done next s js zs) (append_assoc (steps_of x) (One f ∷ []) ks)
    ∙ evaluated x both.1 next s (One f ∷ ks) zs
    ∙ one_applied (among operations_of_one f) both.0 (value (apply s (renamed next x))) (key f 1) (λ v. done next s ks (v ∷ zs))
evaluated (Apply f (More x (More y End))) known next s ks zs =
    let both = and_parts (is_some (among operations_of_two f)) (is_known x && is_known y) known in
    let each = and_parts (is_known x) (is_known y) both.1 in
    ap (λ js. done next s js zs) (append_assoc (steps_of x) (steps_of y ++ Two f ∷ []) ks ∙ ap (λ js. steps_of x ++ js) (append_assoc (steps_of y) (Two f ∷ []) ks))
    ∙ evaluated x each.0 next s (steps_of y ++ Two f ∷ ks) zs
    ∙ on_same (value (apply s (renamed next x))) _ _ (λ a. evaluated y each.1 next s (Two f ∷ ks) (a ∷ zs))
    ∙ two_applied (among operations_of_two f) both.0 (value (apply s (renamed next x))) (value (apply s (renamed next y))) (key f 2) (λ v. done next s ks (v ∷ zs))
evaluated t known next s ks zs = absurd (false≢true known)

-- ---- tasks

pub steps_push : (ts : List left.Task) (t : left.Task) → tasks_steps (ts ++ t ∷ []) ≡ task_steps t ++ tasks_steps ts
steps_push [] t = sym (append-nil (task_steps t))
steps_push (u ∷ ts) t = ap (λ ks. ks ++ task_steps u) (steps_push ts t) ∙ append_assoc (task_steps t) (tasks_steps ts) (task_steps u)

pub steps_more : (ts us : List left.Task) (t : left.Task) → us ≡ ts ++ t ∷ [] → tasks_steps us ≡ task_steps t ++ tasks_steps ts
steps_more ts us t more = ap tasks_steps more ∙ steps_push ts t

and_swap : (a b c : Bool) → ((a && b) && c) ≡ ((a && c) && b)
and_swap true true true = refl
and_swap true true false = refl
and_swap true false true = refl
and_swap true false false = refl
and_swap false b c = refl

known_push : (ts : List left.Task) (t : left.Task) → tasks_known (ts ++ t ∷ []) ≡ (tasks_known ts && task_known t)
known_push [] t = refl
known_push (u ∷ ts) t = ap (λ b. b && task_known u) (known_push ts t) ∙ and_swap (tasks_known ts) (task_known t) (task_known u)

pub known_more : (ts us : List left.Task) (t : left.Task) → us ≡ ts ++ t ∷ [] → tasks_known us ≡ (tasks_known ts && task_known t)
known_more ts us t more = ap tasks_known more ∙ known_push ts t

-- a task that is not known makes the whole unknown
and_false : (b : Bool) → (b && false) ≡ false
and_false true = refl
and_false false = refl

pub none_known_behind : (ts us : List left.Task) (t : left.Task) (b : Bool) → us ≡ ts ++ t ∷ [] → task_known t ≡ false → tasks_known us ≡ b → false ≡ b
none_known_behind ts us t b more none is = sym (known_more ts us t more ∙ ap (λ c. tasks_known ts && c) none ∙ and_false (tasks_known ts)) ∙ is

load_push : (ts : List left.Task) (t : left.Task) → tasks_load (ts ++ t ∷ []) ≡ task_load t + tasks_load ts
load_push [] t = refl
load_push (u ∷ ts) t = omega (arith, load_push ts t)

pub load_more : (ts us : List left.Task) (t : left.Task) → us ≡ ts ++ t ∷ [] → tasks_load us ≡ task_load t + tasks_load ts
load_more ts us t more = ap tasks_load more ∙ load_push ts t

-- ---- what an operation leaves

and_true : (b : Bool) → (b && true) ≡ b
and_true true = refl
and_true false = refl

one_known : (a b c : Bool) → b ≡ true → ((a && true) && c) ≡ (a && (b && c))
one_known true b c known = rw known refl
one_known false b c known = refl

-- two operands come before what was known
two_known : (a b c d : Bool) → b ≡ true → (((a && true) && d) && c) ≡ (a && (b && (c && d)))
two_known true b true true known = rw known refl
two_known true b true false known = rw known refl
two_known true b false true known = rw known refl
two_known true b false false known = rw known refl
two_known false b c d known = refl

module _ (old mid new : List left.Task) (f : _) where
  pub one_leaves : (x : Bor Term) → mid ≡ old ++ task.One f ∷ [] → new ≡ mid ++ task.Expression x ∷ [] → is_some (among operations_of_one (string_bytes f.now)) ≡ true
      → Leaves (Apply (string_bytes f.now) (More (term_of x.now) End)) old new
  one_leaves x first second known =
      let t = term_of x.now in record {
        steps = steps_more mid new (task.Expression x) second ∙ ap (λ ks. steps_of t ++ ks) (steps_more old mid (task.One f) first) ∙ sym (append_assoc (steps_of t) (One (string_bytes f.now) ∷ []) (tasks_steps old));
        known = known_more mid new (task.Expression x) second ∙ ap (λ b. b && is_known t) (known_more old mid (task.One f) first) ∙ one_known (tasks_known old) _ (is_known t) known;
        load = let a = load_more mid new (task.Expression x) second in let b = load_more old mid (task.One f) first in omega (arith, a, b);
      }

  pub two_leaves : (last : List left.Task) (x y : Bor Term) → mid ≡ old ++ task.Two f ∷ [] → new ≡ mid ++ task.Expression y ∷ [] → last ≡ new ++ task.Expression x ∷ [] → is_some (among operations_of_two (string_bytes f.now)) ≡ true
      → Leaves (Apply (string_bytes f.now) (More (term_of x.now) (More (term_of y.now) End))) old last
  two_leaves last x y first second third known =
      let t = term_of x.now in
      let u = term_of y.now in record {
        steps = steps_more new last (task.Expression x) third
            ∙ ap (λ ks. steps_of t ++ ks) (steps_more mid new (task.Expression y) second ∙ ap (λ ks. steps_of u ++ ks) (steps_more old mid (task.Two f) first) ∙ sym (append_assoc (steps_of u) (Two (string_bytes f.now) ∷ []) (tasks_steps old)))
            ∙ sym (append_assoc (steps_of t) (steps_of u ++ Two (string_bytes f.now) ∷ []) (tasks_steps old));
        known = known_more new last (task.Expression x) third ∙ ap (λ b. b && is_known t) (known_more mid new (task.Expression y) second ∙ ap (λ b. b && is_known u) (known_more old mid (task.Two f) first))
            ∙ two_known (tasks_known old) _ (is_known t) (is_known u) known;
        load = let a = load_more new last (task.Expression x) third in let b = load_more mid new (task.Expression y) second in let d = load_more old mid (task.Two f) first in omega (arith, a, b, d);
      }

-- compounds of three and more are no operations
pub many_unknown : (f : List ℕ) (ts : List Term) → 3 ≤ length ts → is_known (Apply f (row_of ts)) ≡ false
many_unknown f [] many = absurd (omega (arith, many))
many_unknown f (t ∷ []) many = absurd (omega (arith, many))
many_unknown f (t ∷ u ∷ []) many = absurd (omega (arith, many))
many_unknown f (t ∷ u ∷ v ∷ ts) many = refl

-- ---- marks

parts_push : (ks : List written.Step) (k : written.Step) → step_parts (ks ++ k ∷ []) ≡ step_parts ks ++ step_parts (k ∷ [])
parts_push [] k = refl
parts_push (step.Value q ∷ ks) k = ap (λ ps. q ∷ ps) (parts_push ks k)
parts_push (step.One f ∷ ks) k = parts_push ks k
parts_push (step.Two f ∷ ks) k = parts_push ks k

-- a step more
pub marks_with_step : (places : List Place) (ks js : List written.Step) (k : written.Step) (before after : List Bool) → js ≡ ks ++ k ∷ [] → Marks places (step_parts (k ∷ [])) before after → StepMarks places ks before → StepMarks places js after
marks_with_step places ks js k before after more marks h =
    subst (λ ps. Marking places (all_placed places) ps after) (sym (ap step_parts more ∙ parts_push ks k)) (marks (all_placed places) (step_parts ks) h)

-- no steps yet
pub marks_with_none : (places : List Place) (ks : List written.Step) (list : List Bool) → ks ≡ [] → HasPlaced places list → StepMarks places ks list
marks_with_none places ks list none placed =
    subst (λ js. StepMarks places js list) (sym none) (record { marked = tt; behind = λ x. sym (placed.each x) })
