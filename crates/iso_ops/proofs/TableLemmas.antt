-- Tables of operators: what is found in a table after an operator was put in or taken out, and that it stays a table.
use Rattle.std.proofs.Common.{subst, ◌≡◌, ◌≢◌, ℕ, zero, suc, ◌≤◌, Bool, true, false, ◌&&◌, if◌then◌else◌, List, [], ◌∷◌, ◌++◌, set, Option, Some, None, is_some, codes, refl, sym, ap, ◌∙◌, true≢false}
use Rattle.std.specs.List.{remove}
use Rattle.std.specs.Str.{bytes_eq}
use Rattle.std.proofs.lemmas.Slice.Eq.{bytes_eq-Decides}
use Rattle.std.proofs.lemmas.Option.{none-some, same_Some}
use Rattle.iso_ops.specs.declared.specifiers.Kind.{Kind}
use Rattle.iso_ops.specs.declared.specifiers.Kind.TheVariants.{Prefix, Infix, Postfix}
use Rattle.iso_ops.specs.Specifiers.{kind_of, same_kind}
use Rattle.iso_ops.specs.Operators.{Operator, is_for, find_op, with_op, without_op, has_rival, is_protected, HasPriorities, HasEachOnce, IsOpTable}
use Rattle.iso_ops.proofs.PlaceLemmas.{IsFirst}

-- a test of two parts that passes
pub both_true : (a b : Bool) → a && b ≡ true → (a ≡ true) × (b ≡ true)
both_true true b h = (refl, h)
both_true false b h = absurd (true≢false (sym h))

-- a Bool by its two cases
by_test : {G : Type 0} (b : Bool) → (b ≡ true → G) → (b ≡ false → G) → G
by_test true passes fails = passes refl
by_test false passes fails = fails refl

same_kind-self : (kind : Kind) → same_kind kind kind ≡ true
same_kind-self Prefix = refl
same_kind-self Infix = refl
same_kind-self Postfix = refl

same_kind-eq : (a b : Kind) → same_kind a b ≡ true → a ≡ b
same_kind-eq Prefix Prefix h = refl
same_kind-eq Infix Infix h = refl
same_kind-eq Postfix Postfix h = refl
same_kind-eq Prefix Infix h = absurd (true≢false (sym h))
same_kind-eq Prefix Postfix h = absurd (true≢false (sym h))
same_kind-eq Infix Prefix h = absurd (true≢false (sym h))
same_kind-eq Infix Postfix h = absurd (true≢false (sym h))
same_kind-eq Postfix Prefix h = absurd (true≢false (sym h))
same_kind-eq Postfix Infix h = absurd (true≢false (sym h))

-- an operator is of its own kind and name
pub is_for-self : (op : Operator) → is_for (kind_of op.spec) op.name op ≡ true
is_for-self op =
    ap (λ b. b && bytes_eq op.name op.name) (same_kind-self (kind_of op.spec)) ∙ (bytes_eq-Decides op.name op.name).1 refl

-- what the test says of the operator that passes it
pub is_for-parts : (kind : Kind) (name : List ℕ) (op : Operator) → is_for kind name op ≡ true → (kind ≡ kind_of op.spec) × (name ≡ op.name)
is_for-parts kind name op h =
    let both = both_true _ _ h in
    (same_kind-eq kind (kind_of op.spec) both.0, (bytes_eq-Decides name op.name).0 both.1)

-- two operators of one kind and name pass the same tests
same_tests : (op other : Operator) → is_for (kind_of op.spec) op.name other ≡ true → (kind : Kind) (name : List ℕ) → is_for kind name op ≡ is_for kind name other
same_tests op other h kind name =
    let parts = is_for-parts (kind_of op.spec) op.name other h in
    ap (λ k. same_kind kind k && bytes_eq name op.name) parts.0 ∙ ap (λ n. same_kind kind (kind_of other.spec) && bytes_eq name n) parts.1

-- two operators that pass one test are of one kind and name
one_test : (op other : Operator) (kind : Kind) (name : List ℕ) → is_for kind name op ≡ true → is_for kind name other ≡ true → is_for (kind_of op.spec) op.name other ≡ true
one_test op other kind name h k =
    let parts = is_for-parts kind name op h in
    ap (λ a. is_for a op.name other) (sym parts.0) ∙ ap (λ n. is_for kind n other) (sym parts.1) ∙ k

-- the test is symmetric
is_for-other : (op other : Operator) → is_for (kind_of op.spec) op.name other ≡ false → is_for (kind_of other.spec) other.name op ≡ false
is_for-other op other h =
    by_test (is_for (kind_of other.spec) other.name op)
    (λ passes. absurd (true≢false (sym (one_test op other (kind_of other.spec) other.name passes (is_for-self other)) ∙ h)))
    (λ fails. fails)

-- what is found once an operator was put in
pub find-with_op : (kind : Kind) (name : List ℕ) (op : Operator) (ops : List Operator) → find_op kind name (with_op op ops) ≡ (if is_for kind name op then Some op else find_op kind name ops)
find-with_op kind name op [] = refl
find-with_op kind name op (first ∷ others) = by_test (is_for (kind_of op.spec) op.name first) replaced (kept (find-with_op kind name op others))
  where
    replaced : is_for (kind_of op.spec) op.name first ≡ true → find_op kind name (with_op op (first ∷ others)) ≡ (if is_for kind name op then Some op else find_op kind name (first ∷ others))
    replaced same =
        ap (λ b. find_op kind name (if b then op ∷ others else first ∷ with_op op others)) same
        ∙ by_test (is_for kind name op)
        (λ passes. rw passes refl)
        (λ fails. rw (fails, sym (same_tests op first same kind name) ∙ fails) refl)

    kept : find_op kind name (with_op op others) ≡ (if is_for kind name op then Some op else find_op kind name others) → is_for (kind_of op.spec) op.name first ≡ false → find_op kind name (with_op op (first ∷ others)) ≡ (if is_for kind name op then Some op else find_op kind name (first ∷ others))
    kept rest differs =
        ap (λ b. find_op kind name (if b then op ∷ others else first ∷ with_op op others)) differs
        ∙ by_test (is_for kind name first)
        (λ passes. by_test (is_for kind name op)
        (λ both. absurd (true≢false (sym (one_test op first kind name both passes) ∙ differs)))
        (λ fails. rw (passes, fails) refl))
        (λ fails. rw (fails, rest) refl)

-- what isn't found isn't found either once an operator was taken out
pub find-without_op_none : (kind : Kind) (name : List ℕ) (gone : Kind) (text : List ℕ) (ops : List Operator) → find_op kind name ops ≡ None → find_op kind name (without_op gone text ops) ≡ None
find-without_op_none kind name gone text [] h = refl
find-without_op_none kind name gone text (first ∷ others) h =
    by_test (is_for kind name first)
    (λ passes. absurd (none-some first (sym h ∙ ap (λ b. if b then Some first else find_op kind name others) passes)))
    (passed (find-without_op_none kind name gone text others))
  where
    passed : (find_op kind name others ≡ None → find_op kind name (without_op gone text others) ≡ None) → is_for kind name first ≡ false → find_op kind name (without_op gone text (first ∷ others)) ≡ None
    passed rest fails =
        let none : find_op kind name others ≡ None = sym (ap (λ b. if b then Some first else find_op kind name others) fails) ∙ h in
        by_test (is_for gone text first)
        (λ passes. rw passes none)
        (λ differs. rw (differs, fails) (rest none))

-- an operator of another kind or name is found as before
pub find-without_op_other : (kind : Kind) (name : List ℕ) (gone : Kind) (text : List ℕ) → ((op : Operator) → is_for kind name op ≡ true → is_for gone text op ≡ false) → (ops : List Operator) → find_op kind name (without_op gone text ops) ≡ find_op kind name ops
find-without_op_other kind name gone text apart [] = refl
find-without_op_other kind name gone text apart (first ∷ others) =
    by_test (is_for gone text first) taken (left (find-without_op_other kind name gone text apart others))
  where
    taken : is_for gone text first ≡ true → find_op kind name (without_op gone text (first ∷ others)) ≡ find_op kind name (first ∷ others)
    taken passes =
        by_test (is_for kind name first)
        (λ both. absurd (true≢false (sym passes ∙ apart first both)))
        (λ fails. rw (passes, fails) refl)

    left : find_op kind name (without_op gone text others) ≡ find_op kind name others → is_for gone text first ≡ false → find_op kind name (without_op gone text (first ∷ others)) ≡ find_op kind name (first ∷ others)
    left rest fails = rw (fails, rest) refl

-- an operator that was taken out isn't found
pub find-without_op_same : (kind : Kind) (name : List ℕ) (ops : List Operator) → HasEachOnce ops → find_op kind name (without_op kind name ops) ≡ None
find-without_op_same kind name [] h = refl
find-without_op_same kind name (first ∷ others) h =
    by_test (is_for kind name first) taken (λ fails. rw (fails, fails) (find-without_op_same kind name others h.1))
  where
    taken : is_for kind name first ≡ true → find_op kind name (without_op kind name (first ∷ others)) ≡ None
    taken passes =
        let parts = is_for-parts kind name first passes in
        rw passes (ap (λ k. find_op k name others) parts.0 ∙ ap (λ n. find_op (kind_of first.spec) n others) parts.1 ∙ h.0)

-- where an operator is put in, and what is left where one is taken out, by its place
pub with_op-at : (op : Operator) (ops : List Operator) (i : ℕ) → IsFirst (is_for (kind_of op.spec) op.name) ops i → with_op op ops ≡ set ops i op
with_op-at op [] i h = absurd h
with_op-at op (first ∷ others) zero h = ap (λ b. if b then op ∷ others else first ∷ with_op op others) h
with_op-at op (first ∷ others) (suc i) h =
    ap (λ b. if b then op ∷ others else first ∷ with_op op others) h.0 ∙ ap (λ ops. first ∷ ops) (with_op-at op others i h.1)

pub with_op-new : (op : Operator) (ops : List Operator) → find_op (kind_of op.spec) op.name ops ≡ None → with_op op ops ≡ ops ++ op ∷ []
with_op-new op [] h = refl
with_op-new op (first ∷ others) h =
    by_test (is_for (kind_of op.spec) op.name first)
    (λ passes. absurd (none-some first (sym h ∙ ap (λ b. if b then Some first else find_op (kind_of op.spec) op.name others) passes)))
    (passed (with_op-new op others))
  where
    passed : (find_op (kind_of op.spec) op.name others ≡ None → with_op op others ≡ others ++ op ∷ []) → is_for (kind_of op.spec) op.name first ≡ false → with_op op (first ∷ others) ≡ (first ∷ others) ++ op ∷ []
    passed rest fails =
        let none : find_op (kind_of op.spec) op.name others ≡ None = sym (ap (λ b. if b then Some first else find_op (kind_of op.spec) op.name others) fails) ∙ h in
        ap (λ b. if b then op ∷ others else first ∷ with_op op others) fails ∙ ap (λ ops. first ∷ ops) (rest none)

pub without_op-at : (kind : Kind) (name : List ℕ) (ops : List Operator) (i : ℕ) → IsFirst (is_for kind name) ops i → without_op kind name ops ≡ remove ops i
without_op-at kind name [] i h = absurd h
without_op-at kind name (first ∷ others) zero h = ap (λ b. if b then others else first ∷ without_op kind name others) h
without_op-at kind name (first ∷ others) (suc i) h =
    ap (λ b. if b then others else first ∷ without_op kind name others) h.0 ∙ ap (λ ops. first ∷ ops) (without_op-at kind name others i h.1)

pub without_op-none : (kind : Kind) (name : List ℕ) (ops : List Operator) → find_op kind name ops ≡ None → without_op kind name ops ≡ ops
without_op-none kind name [] h = refl
without_op-none kind name (first ∷ others) h =
    by_test (is_for kind name first)
    (λ passes. absurd (none-some first (sym h ∙ ap (λ b. if b then Some first else find_op kind name others) passes)))
    (passed (without_op-none kind name others))
  where
    passed : (find_op kind name others ≡ None → without_op kind name others ≡ others) → is_for kind name first ≡ false → without_op kind name (first ∷ others) ≡ first ∷ others
    passed rest fails =
        let none : find_op kind name others ≡ None = sym (ap (λ b. if b then Some first else find_op kind name others) fails) ∙ h in
        ap (λ b. if b then others else first ∷ without_op kind name others) fails ∙ ap (λ ops. first ∷ ops) (rest none)

-- taking one out leaves each once, and so does putting one in
pub HasEachOnce-without_op : (kind : Kind) (name : List ℕ) (ops : List Operator) → HasEachOnce ops → HasEachOnce (without_op kind name ops)
HasEachOnce-without_op kind name [] h = tt
HasEachOnce-without_op kind name (first ∷ others) h =
    by_test (is_for kind name first)
    (λ passes. rw passes h.1)
    (λ fails. rw fails (find-without_op_none (kind_of first.spec) first.name kind name others h.0, HasEachOnce-without_op kind name others h.1))

pub HasEachOnce-with_op : (op : Operator) (ops : List Operator) → HasEachOnce ops → HasEachOnce (with_op op ops)
HasEachOnce-with_op op [] h = (refl, tt)
HasEachOnce-with_op op (first ∷ others) h =
    by_test (is_for (kind_of op.spec) op.name first) replaced (kept (HasEachOnce-with_op op others h.1))
  where
    replaced : is_for (kind_of op.spec) op.name first ≡ true → HasEachOnce (with_op op (first ∷ others))
    replaced same =
        let parts = is_for-parts (kind_of op.spec) op.name first same in
        let none : find_op (kind_of op.spec) op.name others ≡ None = ap (λ k. find_op k op.name others) parts.0 ∙ ap (λ n. find_op (kind_of first.spec) n others) parts.1 ∙ h.0 in
        rw same (none, h.1)

    kept : HasEachOnce (with_op op others) → is_for (kind_of op.spec) op.name first ≡ false → HasEachOnce (with_op op (first ∷ others))
    kept rest differs =
        let none : find_op (kind_of first.spec) first.name (with_op op others) ≡ None =
        find-with_op (kind_of first.spec) first.name op others
        ∙ ap (λ b. if b then Some op else find_op (kind_of first.spec) first.name others) (is_for-other op first differs)
        ∙ h.0 in
        rw differs (none, rest)

pub HasPriorities-without_op : (kind : Kind) (name : List ℕ) (ops : List Operator) → HasPriorities ops → HasPriorities (without_op kind name ops)
HasPriorities-without_op kind name [] h = tt
HasPriorities-without_op kind name (first ∷ others) h =
    by_test (is_for kind name first)
    (λ passes. rw passes h.2)
    (λ fails. rw fails (h.0, h.1, HasPriorities-without_op kind name others h.2))

pub HasPriorities-with_op : (op : Operator) (ops : List Operator) → 1 ≤ op.priority → op.priority ≤ 1200 → HasPriorities ops → HasPriorities (with_op op ops)
HasPriorities-with_op op [] low high h = (low, high, tt)
HasPriorities-with_op op (first ∷ others) low high h =
    by_test (is_for (kind_of op.spec) op.name first)
    (λ passes. rw passes (low, high, h.2))
    (λ fails. rw fails (h.0, h.1, HasPriorities-with_op op others low high h.2))

-- a name that isn't protected is none that is
not_protected : (text : List ℕ) → is_protected text ≡ true → (name : List ℕ) → is_protected name ≡ false → name ≢ text
not_protected text is name free same = true≢false (sym is ∙ ap is_protected (sym same) ∙ free)

-- no test for a protected name is passed by an operator of a name that isn't
not_for : (kind : Kind) (text : List ℕ) → is_protected text ≡ true → (op : Operator) → is_protected op.name ≡ false → is_for kind text op ≡ false
not_for kind text is op free =
    by_test (is_for kind text op)
    (λ passes. absurd (not_protected text is op.name free (sym (is_for-parts kind text op passes).1)))
    (λ fails. fails)

-- a table stays a table where an operator is taken out whose name isn't protected
pub IsOpTable-without_op : (kind : Kind) (name : List ℕ) (ops : List Operator) → is_protected name ≡ false → IsOpTable ops → IsOpTable (without_op kind name ops)
IsOpTable-without_op kind name ops free table = record {
  priorities = HasPriorities-without_op kind name ops table.priorities;
  each_once = HasEachOnce-without_op kind name ops table.each_once;
  has_comma = find-without_op_other Infix (codes ",") kind name other ops ∙ table.has_comma;
  brackets = λ k. (find-without_op_none k (codes "[]") kind name ops (table.brackets k).0, find-without_op_none k (codes "{}") kind name ops (table.brackets k).1);
  apart = λ text op found. find-without_op_none Postfix text kind name ops (still text op found (find_op Infix text ops) refl);
}
  where
    other : (op : Operator) → is_for Infix (codes ",") op ≡ true → is_for kind name op ≡ false
    other op passes =
        by_test (is_for kind name op)
        (λ both. absurd (not_protected (codes ",") refl name free ((is_for-parts kind name op both).1 ∙ sym (is_for-parts Infix (codes ",") op passes).1)))
        (λ fails. fails)

    still : (text : List ℕ) (op : Operator) → find_op Infix text (without_op kind name ops) ≡ Some op → (found : Option Operator) → find_op Infix text ops ≡ found → find_op Postfix text ops ≡ None
    still text op found None is = absurd (none-some op (sym (find-without_op_none Infix text kind name ops is) ∙ found))
    still text op found (Some before) is = table.apart text before is

-- and where one is put in whose name isn't protected and that has no rival
pub IsOpTable-with_op : (op : Operator) (ops : List Operator) → 1 ≤ op.priority → op.priority ≤ 1200 → is_protected op.name ≡ false → has_rival (kind_of op.spec) op.name ops ≡ false → IsOpTable ops → IsOpTable (with_op op ops)
IsOpTable-with_op op ops low high free alone table = record {
  priorities = HasPriorities-with_op op ops low high table.priorities;
  each_once = HasEachOnce-with_op op ops table.each_once;
  has_comma =
      find-with_op Infix (codes ",") op ops
      ∙ ap (λ b. if b then Some op else find_op Infix (codes ",") ops) (not_for Infix (codes ",") refl op free)
      ∙ table.has_comma;
  brackets = λ kind. (still_none kind (codes "[]") refl (table.brackets kind).0, still_none kind (codes "{}") refl (table.brackets kind).1);
  apart = λ text other found. by_test (is_for Postfix text op) (postfix text other found) (others text other found);
}
  where
    nothing : (found : Option Operator) → is_some found ≡ false → found ≡ None
    nothing None h = refl
    nothing (Some x) h = absurd (true≢false h)

    still_none : (kind : Kind) (text : List ℕ) → is_protected text ≡ true → find_op kind text ops ≡ None → find_op kind text (with_op op ops) ≡ None
    still_none kind text is none =
        find-with_op kind text op ops
        ∙ ap (λ b. if b then Some op else find_op kind text ops) (not_for kind text is op free)
        ∙ none

    postfix : (text : List ℕ) (other : Operator) → find_op Infix text (with_op op ops) ≡ Some other → is_for Postfix text op ≡ true → find_op Postfix text (with_op op ops) ≡ None
    postfix text other found passes =
        let parts = is_for-parts Postfix text op passes in
        let no_infix : find_op Infix text ops ≡ None =
        nothing (find_op Infix text ops) (ap (λ k. has_rival k text ops) parts.0 ∙ ap (λ n. has_rival (kind_of op.spec) n ops) parts.1 ∙ alone) in
        let not_infix : is_for Infix text op ≡ false = ap (λ k. same_kind Infix k && bytes_eq text op.name) (sym parts.0) in
        absurd (none-some other (sym no_infix ∙ ap (λ b. if b then Some op else find_op Infix text ops) (sym not_infix) ∙ sym (find-with_op Infix text op ops) ∙ found))

    others : (text : List ℕ) (other : Operator) → find_op Infix text (with_op op ops) ≡ Some other → is_for Postfix text op ≡ false → find_op Postfix text (with_op op ops) ≡ None
    others text other found fails =
        find-with_op Postfix text op ops
        ∙ ap (λ b. if b then Some op else find_op Postfix text ops) fails
        ∙ by_test (is_for Infix text op)
        (λ is_infix.
        let parts = is_for-parts Infix text op is_infix in
        nothing (find_op Postfix text ops) (ap (λ k. has_rival k text ops) parts.0 ∙ ap (λ n. has_rival (kind_of op.spec) n ops) parts.1 ∙ alone))
        (λ none. table.apart text other (ap (λ b. if b then Some op else find_op Infix text ops) (sym none) ∙ sym (find-with_op Infix text op ops) ∙ found))

-- the operator that is found is of the kind and name
pub find_op-parts : (kind : Kind) (name : List ℕ) (ops : List Operator) (op : Operator) → find_op kind name ops ≡ Some op → (kind ≡ kind_of op.spec) × (name ≡ op.name)
find_op-parts kind name [] op h = absurd (none-some op h)
find_op-parts kind name (first ∷ others) op h =
    by_test (is_for kind name first)
    (λ passes.
    let same : first ≡ op = same_Some first op (sym (ap (λ b. if b then Some first else find_op kind name others) passes) ∙ h) in
    is_for-parts kind name op (subst (λ o. is_for kind name o ≡ true) same passes))
    (found (find_op-parts kind name others op))
  where
    found : (find_op kind name others ≡ Some op → (kind ≡ kind_of op.spec) × (name ≡ op.name)) → is_for kind name first ≡ false → (kind ≡ kind_of op.spec) × (name ≡ op.name)
    found rest fails = rest (sym (ap (λ b. if b then Some first else find_op kind name others) fails) ∙ h)

-- its priority is from 1 to 1200
pub find_op-priority : (kind : Kind) (name : List ℕ) (ops : List Operator) (op : Operator) → HasPriorities ops → find_op kind name ops ≡ Some op → (1 ≤ op.priority) × (op.priority ≤ 1200)
find_op-priority kind name [] op ranges h = absurd (none-some op h)
find_op-priority kind name (first ∷ others) op ranges h =
    by_test (is_for kind name first)
    (λ passes.
    let same : first ≡ op = same_Some first op (sym (ap (λ b. if b then Some first else find_op kind name others) passes) ∙ h) in
    subst (λ o. (1 ≤ o.priority) × (o.priority ≤ 1200)) same (ranges.0, ranges.1))
    (found (find_op-priority kind name others op ranges.2))
  where
    found : (find_op kind name others ≡ Some op → (1 ≤ op.priority) × (op.priority ≤ 1200)) → is_for kind name first ≡ false → (1 ≤ op.priority) × (op.priority ≤ 1200)
    found rest fails = rest (sym (ap (λ b. if b then Some first else find_op kind name others) fails) ∙ h)

-- a postfix name is no infix one
pub apart-postfix : (ops : List Operator) (name : List ℕ) (op : Operator) → IsOpTable ops → find_op Postfix name ops ≡ Some op → find_op Infix name ops ≡ None
apart-postfix ops name op table h = by (find_op Infix name ops) refl
  where
    by : (found : Option Operator) → find_op Infix name ops ≡ found → found ≡ None
    by None is = refl
    by (Some other) is = absurd (none-some op (sym (table.apart name other is) ∙ h))
