-- The initial operators are a table.
use Rattle.std.proofs.Common.{◌≡◌, ℕ, ◌≤◌, Bool, true, ◌&&◌, not, nat_le, List, [], ◌∷◌, Option, Some, None, is_some, refl, sym, true≢false, arith}
use Rattle.std.proofs.lemmas.Bool.Decides.{nat_tests}
use Rattle.iso_ops.specs.declared.specifiers.Kind.TheVariants.{Prefix, Infix, Postfix}
use Rattle.iso_ops.specs.Specifiers.{kind_of}
use Rattle.iso_ops.specs.Operators.{Operator, find_op, HasPriorities, HasEachOnce, HasNoBrackets, IsOpTable}
use Rattle.iso_ops.specs.InitialOperators.{initial_entries}
use Rattle.iso_ops.proofs.TableLemmas.{both_true}

-- a test of the priorities
abbrev priorities_fit : List Operator → Bool
priorities_fit [] = true
priorities_fit (op ∷ ops) = (nat_le 1 op.priority && nat_le op.priority 1200) && priorities_fit ops

-- a test that each stands once
abbrev each_once : List Operator → Bool
each_once [] = true
each_once (op ∷ ops) = not (is_some (find_op (kind_of op.spec) op.name ops)) && each_once ops

fits : (n : ℕ) → nat_le 1 n && nat_le n 1200 ≡ true → (1 ≤ n) × (n ≤ 1200)
fits n h =
    let both = both_true _ _ h in
    let low : nat_le 1 n ≡ true = both.0 in
    let high : nat_le n 1200 ≡ true = both.1 in
    (grind (arith, nat_tests), grind (arith, nat_tests))

HasPriorities-tested : (ops : List Operator) → priorities_fit ops ≡ true → HasPriorities ops
HasPriorities-tested [] h = tt
HasPriorities-tested (op ∷ ops) h =
    let both = both_true _ _ h in
    let range = fits op.priority both.0 in
    (range.0, range.1, HasPriorities-tested ops both.1)

nothing : (found : Option Operator) → not (is_some found) ≡ true → found ≡ None
nothing None h = refl
nothing (Some op) h = absurd (true≢false (sym h))

HasEachOnce-tested : (ops : List Operator) → each_once ops ≡ true → HasEachOnce ops
HasEachOnce-tested [] h = tt
HasEachOnce-tested (op ∷ ops) h =
    let both = both_true _ _ h in
    (nothing _ both.0, HasEachOnce-tested ops both.1)

pub IsOpTable-initial_entries : IsOpTable initial_entries
unfolding initial_entries
IsOpTable-initial_entries = record {
  priorities = HasPriorities-tested initial_entries refl;
  each_once = HasEachOnce-tested initial_entries refl;
  has_comma = refl;
  brackets = by_kind;
  apart = λ name op found. refl;
}
  where
    by_kind : HasNoBrackets initial_entries
    by_kind Prefix = (refl, refl)
    by_kind Infix = (refl, refl)
    by_kind Postfix = (refl, refl)
