-- What goals set, step by step.
use Rattle.std.proofs.Common.{◌≡◌, ◌≤◌, ◌<◌, ◌+◌, ◌⊎◌, ℕ, ℤ, pos, negsuc, Bool, true, false, ◌||◌, nat_lt, nat_le, if◌then◌else◌, List, [], ◌∷◌, length, map, drop, get_or, drop-cons, add-one, Option, Some, None, is_some, unwrap_or, option_map, Result, Ok, Err, IfOk, ap, ◌∙◌, refl, sym, arith, inl, inr}
use Rattle.std.specs.Borrow.{Bor}
use Rattle.std.specs.List.{list_any}
use Rattle.std.proofs.lemmas.Bool.{cases_Bool}
use Rattle.std.proofs.lemmas.Bool.Decides.{nat_tests}
use Rattle.iso_ops.specs.Specifiers.{spec_named}
use Rattle.iso_ops.specs.Entries.{text_of}
use Rattle.iso_ops.specs.declared.specifiers.Spec.{Spec}
use Rattle.iso_ops.specs.declared.table.OpFault.{OpFault}
use Rattle.iso_ops.specs.declared.table.OpFault.TheVariants as fault
use Rattle.iso_ops.specs.Operators.{Operator, asked_op}
use Rattle.iso_model.specs.Terms.Trees.{Tree, Variable, Integer, Name, Apply, End, More, row}
use Rattle.iso_model.specs.Terms.Types.{is_variable}
use Rattle.iso_model.specs.Terms.Lists.{elements, tail, is_list, is_nil}
use Rattle.iso_model.specs.Search.Worlds.{World}
use Rattle.iso_model.specs.Search.Settlements.{Settled, Refuses}
use Rattle.iso_model.specs.Search.Settings.{has_unbound, name_list, with_texts, with_listed, with_priority, with_specifier, set_names, set_next, op_set}
use Rattle.iso_lint_core.specs.declared.shapes.Shape.{Shape}
use Rattle.iso_lint_core.specs.declared.shapes.Shape.TheVariants as shape
use Rattle.iso_lint_core.specs.Shapes.{IsShape, IsOther}
use Rattle.iso_lint_core.specs.declared.settings.Settings.{Settings}
use Rattle.iso_lint_core.specs.Settings.{world_behind, world_of_operators, operators_behind, behind_goal}
use Rattle.iso_lint_core.specs.Names.{texts_of, names_given, set_all, set_all_by}

-- ---- the names

none_of : {A B : Type 0} (f : A → B) (o : Option A) → option_map f o ≡ None → o ≡ None
none_of f None h = refl
none_of f (Some x) h = (cc)

some_of : {A B : Type 0} (f : A → B) (o : Option A) (y : B) → option_map f o ≡ Some y → (x : A) × (o ≡ Some x) × (f x ≡ y)
some_of f None y h = (cc)
some_of f (Some x) y h = (x, refl, (cc))

texts_same : (ts : List Tree) (go : List (List ℕ) → Settled) (w : World) → texts_of ts ≡ None → world_behind w (with_texts ts go) ≡ w
texts_same [] go w h = (cc)
texts_same (Variable n ∷ ts) go w h = refl
texts_same (Integer z ∷ ts) go w h = refl
texts_same (Name a ∷ ts) go w h = texts_same ts (λ texts. go (a ∷ texts)) w (none_of (λ texts. a ∷ texts) (texts_of ts) h)
texts_same (Apply f us ∷ ts) go w h = refl
texts_same (End ∷ ts) go w h = refl
texts_same (More t us ∷ ts) go w h = refl

texts_go : (ts : List Tree) (go : List (List ℕ) → Settled) (xs : List (List ℕ)) → texts_of ts ≡ Some xs → with_texts ts go ≡ go xs
texts_go [] go xs h = ap go (cc)
texts_go (Variable n ∷ ts) go xs h = (cc)
texts_go (Integer z ∷ ts) go xs h = (cc)
texts_go (Name a ∷ ts) go xs h =
    let r = some_of (λ texts. a ∷ texts) (texts_of ts) xs h in
    texts_go ts (λ texts. go (a ∷ texts)) r.0 r.1 ∙ ap go r.2
texts_go (Apply f us ∷ ts) go xs h = (cc)
texts_go (End ∷ ts) go xs h = (cc)
texts_go (More t us ∷ ts) go xs h = (cc)

texts_bound : (ts : List Tree) (xs : List (List ℕ)) → texts_of ts ≡ Some xs → list_any is_variable ts ≡ false
texts_bound [] xs h = refl
texts_bound (Variable n ∷ ts) xs h = (cc)
texts_bound (Integer z ∷ ts) xs h = (cc)
texts_bound (Name a ∷ ts) xs h = let r = some_of (λ texts. a ∷ texts) (texts_of ts) xs h in texts_bound ts r.0 r.1
texts_bound (Apply f us ∷ ts) xs h = (cc)
texts_bound (End ∷ ts) xs h = (cc)
texts_bound (More t us ∷ ts) xs h = (cc)

nil_is_bound : (t : Tree) → is_nil t ≡ true → is_variable t ≡ false
nil_is_bound (Variable n) h = (cc)
nil_is_bound (Integer z) h = refl
nil_is_bound (Name a) h = refl
nil_is_bound (Apply f ts) h = refl
nil_is_bound End h = refl
nil_is_bound (More t ts) h = refl

-- a list, or no list, with these elements
list_same : (b : Bool) (t : Tree) (ts : List Tree) (go : List (List ℕ) → Settled) (w : World) → (if b then texts_of ts else None) ≡ None → world_behind w (with_listed t (if b then Some ts else None) go) ≡ w
list_same true t ts go w h = texts_same ts go w h
list_same false t ts go w h = refl

list_go : (b : Bool) (t : Tree) (ts : List Tree) (go : List (List ℕ) → Settled) (xs : List (List ℕ)) → (if b then texts_of ts else None) ≡ Some xs → with_listed t (if b then Some ts else None) go ≡ go xs
list_go true t ts go xs h = texts_go ts go xs h
list_go false t ts go xs h = (cc)

list_bound : (t : Tree) (ts : List Tree) (u : Tree) (xs : List (List ℕ)) → (if is_nil u then texts_of ts else None) ≡ Some xs → list_any is_variable ts || is_variable u ≡ false
list_bound t ts u xs h = elim (cases_Bool (is_nil u)) [
  | inl is ↦ let g : texts_of ts ≡ Some xs = rw is at h in rw (texts_bound ts xs g, nil_is_bound u is) refl
  | inr isnt ↦ let g : None ≡ Some xs = rw isnt at h in (cc)
]

name_same : (b : Bool) (t : Tree) (a : List ℕ) (go : List (List ℕ) → Settled) (w : World) → (if b then Some [] else Some (a ∷ [])) ≡ None → world_behind w (with_listed t (if b then Some [] else Some (Name a ∷ [])) go) ≡ w
name_same true t a go w h = (cc)
name_same false t a go w h = (cc)

name_go : (b : Bool) (t : Tree) (a : List ℕ) (go : List (List ℕ) → Settled) (xs : List (List ℕ)) → (if b then Some [] else Some (a ∷ [])) ≡ Some xs → with_listed t (if b then Some [] else Some (Name a ∷ [])) go ≡ go xs
name_go true t a go xs h = ap go (cc)
name_go false t a go xs h = ap go (cc)

given_same : (t : Tree) (go : List (List ℕ) → Settled) (w : World) → names_given t ≡ None → world_behind w (with_listed t (name_list t) go) ≡ w
given_same (Variable n) go w h = list_same (is_list (Variable n)) (Variable n) (elements (Variable n)) go w h
given_same (Integer z) go w h = list_same (is_list (Integer z)) (Integer z) (elements (Integer z)) go w h
given_same (Name a) go w h = name_same (is_nil (Name a)) (Name a) a go w h
given_same (Apply f ts) go w h = list_same (is_list (Apply f ts)) (Apply f ts) (elements (Apply f ts)) go w h
given_same End go w h = list_same (is_list End) End (elements End) go w h
given_same (More t ts) go w h = list_same (is_list (More t ts)) (More t ts) (elements (More t ts)) go w h

given_go : (t : Tree) (go : List (List ℕ) → Settled) (xs : List (List ℕ)) → names_given t ≡ Some xs → with_listed t (name_list t) go ≡ go xs
given_go (Variable n) go xs h = list_go (is_list (Variable n)) (Variable n) (elements (Variable n)) go xs h
given_go (Integer z) go xs h = list_go (is_list (Integer z)) (Integer z) (elements (Integer z)) go xs h
given_go (Name a) go xs h = name_go (is_nil (Name a)) (Name a) a go xs h
given_go (Apply f ts) go xs h = list_go (is_list (Apply f ts)) (Apply f ts) (elements (Apply f ts)) go xs h
given_go End go xs h = list_go (is_list End) End (elements End) go xs h
given_go (More t ts) go xs h = list_go (is_list (More t ts)) (More t ts) (elements (More t ts)) go xs h

given_bound : (t : Tree) (xs : List (List ℕ)) → names_given t ≡ Some xs → has_unbound t ≡ false
given_bound (Variable n) xs h = list_bound (Variable n) (elements (Variable n)) (tail (Variable n)) xs h
given_bound (Integer z) xs h = refl
given_bound (Name a) xs h = refl
given_bound (Apply f ts) xs h = list_bound (Apply f ts) (elements (Apply f ts)) (tail (Apply f ts)) xs h
given_bound End xs h = refl
given_bound (More t ts) xs h = refl

-- ---- the operators

either_same : (b : Bool) (e : Tree) (x : Settled) (w : World) → world_behind w x ≡ w → world_behind w (if b then Refuses e else x) ≡ w
either_same true e x w h = refl
either_same false e x w h = h

or_same : (b : Bool) (e : Tree) (x : Settled) (w : World) → world_behind w x ≡ w → world_behind w (if b then x else Refuses e) ≡ w
or_same true e x w h = h
or_same false e x w h = refl

priority_same : (p : ℤ) (go : ℕ → Settled) (w : World) → ((n : ℕ) → world_behind w (go n) ≡ w) → world_behind w (with_priority (Integer p) go) ≡ w
priority_same (pos n) go w h = either_same (nat_lt 1200 n) _ (go n) w (h n)
priority_same (negsuc n) go w h = refl

pub other_priority : (x : Shape) (p s names : Tree) (ops : List Operator) → IsShape x p → ((z : ℤ) → x ≡ shape.Integer z → ⊥) → operators_behind p s names ops ≡ ops
other_priority shape.Variable p s names ops is other = rw is.1 refl
other_priority (shape.Integer z) p s names ops is other = absurd (other z refl)
other_priority (shape.Atom a) p s names ops is other = rw is (ap (λ w. w.operators) (either_same (is_variable s || has_unbound names) _ (Refuses _) (world_of_operators ops) refl))
other_priority (shape.One f t) p s names ops is other = rw is (ap (λ w. w.operators) (either_same (is_variable s || has_unbound names) _ (Refuses _) (world_of_operators ops) refl))
other_priority (shape.Two f t u) p s names ops is other = rw is (ap (λ w. w.operators) (either_same (is_variable s || has_unbound names) _ (Refuses _) (world_of_operators ops) refl))
other_priority (shape.Three f t u v) p s names ops is other = rw is (ap (λ w. w.operators) (either_same (is_variable s || has_unbound names) _ (Refuses _) (world_of_operators ops) refl))
other_priority (shape.Other f n) p s names ops is other = rw is.is (ap (λ w. w.operators) (either_same (is_variable s || has_unbound names) _ (Refuses _) (world_of_operators ops) refl))

specifier_same : (s names : Tree) (n : ℕ) (ops : List Operator) (x : Shape) → IsShape x s → ((a : Bor (List ℕ)) → x ≡ shape.Atom a → ⊥)
    → world_behind (world_of_operators ops) (with_specifier s (λ text. with_listed names (name_list names) (λ texts. op_set (world_of_operators ops) (set_names n text texts ops)))) ≡ world_of_operators ops
specifier_same s names n ops shape.Variable is other = rw is.1 refl
specifier_same s names n ops (shape.Integer z) is other = rw is refl
specifier_same s names n ops (shape.Atom a) is other = absurd (other a refl)
specifier_same s names n ops (shape.One f t) is other = rw is refl
specifier_same s names n ops (shape.Two f t u) is other = rw is refl
specifier_same s names n ops (shape.Three f t u v) is other = rw is refl
specifier_same s names n ops (shape.Other f k) is other = rw is.is refl

pub other_specifier : (p : ℤ) (x : Shape) (s names : Tree) (ops : List Operator) → IsShape x s → ((a : Bor (List ℕ)) → x ≡ shape.Atom a → ⊥) → operators_behind (Integer p) s names ops ≡ ops
other_specifier p x s names ops is other =
    ap (λ w. w.operators) (either_same (is_variable s || has_unbound names) _ _ (world_of_operators ops) (priority_same p _ (world_of_operators ops) (λ n. specifier_same s names n ops x is other)))

pub no_names_given : (p : ℤ) (s : List ℕ) (names : Tree) (ops : List Operator) → names_given names ≡ None → operators_behind (Integer p) (Name s) names ops ≡ ops
no_names_given p s names ops h =
    let w = world_of_operators ops in
    ap (λ w. w.operators) (either_same (has_unbound names) _ _ w (priority_same p _ w (λ n. or_same (is_some (spec_named s)) _ _ w (given_same names (λ texts. op_set w (set_names n s texts ops)) w h))))

-- where no operator can be set, none is
refused_all : (z : ℤ) (s : List ℕ) (xs : List (List ℕ)) (ops : List Operator) → ((a : List ℕ) → (fault : OpFault) × (asked_op z s a ops ≡ Err fault)) → unwrap_or (set_all z s xs ops) ops ≡ ops
refused_all z s [] ops h = refl
refused_all z s (a ∷ xs) ops h = ap (λ r. unwrap_or (set_all_by (set_all z s xs) ops r) ops) (h a).1

set_by_result : (n : ℕ) (s : List ℕ) (w : World) (xs : List (List ℕ)) (a : List ℕ) (ops : List Operator) (r : Result Operator OpFault)
    → ((later : List Operator) → (world_behind w (op_set w (set_names n s xs later))).operators ≡ unwrap_or (set_all (pos n) s xs later) w.operators)
    → (world_behind w (op_set w (set_next (set_names n s xs) a ops r))).operators ≡ unwrap_or (set_all_by (set_all (pos n) s xs) ops r) w.operators
set_by_result n s w xs a ops (Ok op) later = later _
set_by_result n s w xs a ops (Err fault) later = refl

sets : (n : ℕ) (s : List ℕ) (w : World) (xs : List (List ℕ)) (ops : List Operator) → (world_behind w (op_set w (set_names n s xs ops))).operators ≡ unwrap_or (set_all (pos n) s xs ops) w.operators
sets n s w [] ops = refl
sets n s w (a ∷ xs) ops = set_by_result n s w xs a ops (asked_op (pos n) s a ops) (sets n s w xs)

high : (n : ℕ) → nat_lt 1200 n ≡ true → nat_le n 1200 ≡ false
high n h = grind (arith, nat_tests)

asked_high : (n : ℕ) (s a : List ℕ) (ops : List Operator) → nat_le n 1200 ≡ false → (fault : OpFault) × (asked_op (pos n) s a ops ≡ Err fault)
asked_high n s a ops h = (fault.Priority, rw h refl)

asked_unknown : (n : ℕ) (s a : List ℕ) (ops : List Operator) → spec_named s ≡ None → (fault : OpFault) × (asked_op (pos n) s a ops ≡ Err fault)
asked_unknown n s a ops h = elim (cases_Bool (nat_le n 1200)) [
  | inl low ↦ (fault.Specifier, rw (low, h) refl)
  | inr above ↦ asked_high n s a ops above
]

with_known : (n : ℕ) (s : List ℕ) (w : World) (ops : List Operator) (xs : List (List ℕ)) (o : Option Spec) (x : Settled) (e : Tree) → spec_named s ≡ o → w.operators ≡ ops → x ≡ op_set w (set_names n s xs ops)
    → (world_behind w (if is_some o then x else Refuses e)).operators ≡ unwrap_or (set_all (pos n) s xs ops) ops
with_known n s w ops xs (Some spec) x e is same sets_x = ap (λ y. (world_behind w y).operators) sets_x ∙ sets n s w xs ops ∙ ap (unwrap_or (set_all (pos n) s xs ops)) same
with_known n s w ops xs None x e is same sets_x = same ∙ sym (refused_all (pos n) s xs ops (λ a. asked_unknown n s a ops is))

with_range : (n : ℕ) (s : List ℕ) (w : World) (ops : List Operator) (xs : List (List ℕ)) (b : Bool) (x : Settled) (e : Tree) → nat_lt 1200 n ≡ b → w.operators ≡ ops → (world_behind w x).operators ≡ unwrap_or (set_all (pos n) s xs ops) ops
    → (world_behind w (if b then Refuses e else x)).operators ≡ unwrap_or (set_all (pos n) s xs ops) ops
with_range n s w ops xs true x e is same had = same ∙ sym (refused_all (pos n) s xs ops (λ a. asked_high n s a ops (high n is)))
with_range n s w ops xs false x e is same had = had

bound_first : (b : Bool) (e : Tree) (x : Settled) (w : World) → b ≡ false → world_behind w (if b then Refuses e else x) ≡ world_behind w x
bound_first true e x w h = (cc)
bound_first false e x w h = refl

pub names_set : (p : ℤ) (s : List ℕ) (names : Tree) (ops : List Operator) (xs : List (List ℕ)) → names_given names ≡ Some xs → operators_behind (Integer p) (Name s) names ops ≡ unwrap_or (set_all p s xs ops) ops
names_set (negsuc n) s names ops xs h =
    ap (λ w. w.operators) (bound_first (has_unbound names) _ _ (world_of_operators ops) (given_bound names xs h)) ∙ sym (refused_all (negsuc n) s xs ops (λ a. (fault.Priority, refl)))
names_set (pos n) s names ops xs h =
    let w = world_of_operators ops in
    ap (λ w. w.operators) (bound_first (has_unbound names) _ _ w (given_bound names xs h))
    ∙ with_range n s w ops xs (nat_lt 1200 n) _ _ refl refl (with_known n s w ops xs (spec_named s) _ _ refl refl (given_go names (λ texts. op_set w (set_names n s texts ops)) xs h))

-- ---- other goals

other_row : (f : List ℕ) (ts : List Tree) (n : ℕ) (s : Settings) → length ts ≡ n → (n ≡ 0) ⊎ (4 ≤ n) → behind_goal (Apply f (row ts)) s ≡ s
other_row f [] n s count other = refl
other_row f (a ∷ []) n s count other = refl
other_row f (a ∷ b ∷ []) n s count (inl none) = absurd (omega arith)
other_row f (a ∷ b ∷ []) n s count (inr many) = absurd (omega arith)
other_row f (a ∷ b ∷ c ∷ []) n s count (inl none) = absurd (omega arith)
other_row f (a ∷ b ∷ c ∷ []) n s count (inr many) = absurd (omega arith)
other_row f (a ∷ b ∷ c ∷ d ∷ ts) n s count other = refl

-- a goal of another number of arguments sets nothing
pub other_goal : (f : List ℕ) (n : ℕ) (t : Tree) (s : Settings) → IsOther f n t → s ≡ behind_goal t s
other_goal f n t s o = sym (ap (λ u. behind_goal u s) o.is ∙ other_row f o.arguments n s o.count o.other)

-- ---- with the names one by one

must_refuse : (r : Result Operator OpFault) (e : OpFault) (Q : Operator → Type 0) → IfOk r (λ op. (e ≡ fault.NoMemory) × Q op) → (e ≡ fault.NoMemory → ⊥) → (f : OpFault) × (r ≡ Err f)
must_refuse (Ok op) e Q h other = absurd (other h.0)
must_refuse (Err f) e Q h other = (f, refl)

left_more : (names : List (Bor (List ℕ))) (k : ℕ) (d : Bor (List ℕ)) → k < length names → map text_of (drop k names) ≡ (get_or names k d).now ∷ map text_of (drop (k + 1) names)
left_more names k d within = ap (map text_of) (drop-cons names k d within) ∙ ap (λ n. (get_or names k d).now ∷ map text_of (drop n names)) (sym (add-one k))

-- where a name can't be set, none of them is
pub name_refused : (z : ℤ) (s : List ℕ) (names : List (Bor (List ℕ))) (k : ℕ) (d : Bor (List ℕ)) (table : List Operator) (e : OpFault) (Q : Operator → Type 0) (all : Option (List Operator)) → k < length names
    → IfOk (asked_op z s (get_or names k d).now table) (λ op. (e ≡ fault.NoMemory) × Q op) → (e ≡ fault.NoMemory → ⊥)
    → set_all z s (map text_of (drop k names)) table ≡ all → None ≡ all
name_refused z s names k d table e Q all within h other had =
    let f = must_refuse (asked_op z s (get_or names k d).now table) e Q h other in
    sym (ap (λ xs. set_all z s xs table) (left_more names k d within) ∙ ap (set_all_by (set_all z s (map text_of (drop (k + 1) names))) table) f.1) ∙ had
