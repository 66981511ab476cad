-- A table of operators (ISO/IEC 13211-1:1995, 6.3.4 and 8.14.3): the list of its entries, in the order of
-- `current_op/3`.
use Rattle.std.specs.Prelude.{◌≡◌, ℕ, ℤ, pos, negsuc, ◌≤◌, Bool, false, ◌&&◌, ◌==◌, nat_le, nat_lt, List, [], ◌∷◌, Option, Some, None, is_some, Result, Ok, Err, codes, if◌then◌else◌, ⊤}
use Rattle.std.specs.List.{find, list_any}
use Rattle.std.specs.Str.{bytes_eq}
use Rattle.iso_ops.specs.declared.specifiers.Spec.{Spec}
use Rattle.iso_ops.specs.declared.specifiers.Spec.TheVariants.{Xfy}
use Rattle.iso_ops.specs.declared.specifiers.Kind.{Kind}
use Rattle.iso_ops.specs.declared.specifiers.Kind.TheVariants.{Prefix, Infix, Postfix}
use Rattle.iso_ops.specs.declared.table.OpFault.{OpFault}
use Rattle.iso_ops.specs.declared.table.OpFault.TheVariants.{Priority, Specifier, Protected, Clash}
use Rattle.iso_ops.specs.Specifiers.{spec_named, kind_of, same_kind}

-- An operator: its priority, its specifier and its name's bytes.
pub record Operator : Type 0 where
  pub priority : ℕ
  pub spec : Spec
  pub name : List ℕ

-- the operator of this priority, specifier and name
abbrev pub operator : ℕ → Spec → List ℕ → Operator
operator priority spec name = record { priority = priority; spec = spec; name = name }

-- whether an operator is of this kind and has this name
abbrev pub is_for : Kind → List ℕ → Operator → Bool
is_for kind name op = same_kind kind (kind_of op.spec) && bytes_eq name op.name

-- the operator of this kind and name: the first entry that is one
abbrev pub find_op : Kind → List ℕ → List Operator → Option Operator
find_op kind name ops = find (is_for kind name) ops

-- its priority and specifier
abbrev pub priority_and_spec : Operator → ℕ × Spec
priority_and_spec op = (op.priority, op.spec)

-- the table with this operator: it takes the place of the one of its kind and name, or goes last
abbrev pub with_op : Operator → List Operator → List Operator
with_op op [] = op ∷ []
with_op op (first ∷ others) = if is_for (kind_of op.spec) op.name first then op ∷ others else first ∷ with_op op others

-- the table without the operator of this kind and name
abbrev pub without_op : Kind → List ℕ → List Operator → List Operator
without_op kind name [] = []
without_op kind name (first ∷ others) = if is_for kind name first then others else first ∷ without_op kind name others

-- the table once this operator is set, where the priority 0 takes the operator of its kind and name away
abbrev pub set_op : Operator → List Operator → List Operator
set_op op ops = if op.priority == 0 then without_op (kind_of op.spec) op.name ops else with_op op ops

-- whether setting the operator makes a new entry
abbrev pub AddsEntry : Operator → List Operator → Type 0
AddsEntry op ops = (1 ≤ op.priority) × (find_op (kind_of op.spec) op.name ops ≡ None)

-- the names that no call may make or change an operator of (own but for the comma)
abbrev pub protected_names : List (List ℕ)
protected_names = codes "," ∷ codes "[]" ∷ codes "{}" ∷ codes "|" ∷ []

abbrev pub is_protected : List ℕ → Bool
is_protected name = list_any (bytes_eq name) protected_names

-- whether the name is an operator of the kind that an operator of this kind can't be beside: infix and postfix
-- (6.3.4.3)
abbrev pub has_rival : Kind → List ℕ → List Operator → Bool
has_rival Prefix name ops = false
has_rival Infix name ops = is_some (find_op Postfix name ops)
has_rival Postfix name ops = is_some (find_op Infix name ops)

-- the operator that is asked for, once its priority and its specifier are known, or the first fault that is left
abbrev pub allowed_op : ℕ → Option Spec → List ℕ → List Operator → Result Operator OpFault
allowed_op priority None name ops = Err Specifier
allowed_op priority (Some spec) name ops =
    if is_protected name then Err Protected
    else if nat_lt 0 priority && has_rival (kind_of spec) name ops then Err Clash
    else Ok (operator priority spec name)

-- the operator that a call asks for, or the first fault of the call (8.14.3.3; the order of the checks is own)
abbrev pub asked_op : ℤ → List ℕ → List ℕ → List Operator → Result Operator OpFault
asked_op (negsuc _) spec name ops = Err Priority
asked_op (pos priority) spec name ops = if nat_le priority 1200 then allowed_op priority (spec_named spec) name ops else Err Priority

-- each operator has a priority from 1 to 1200
abbrev pub HasPriorities : List Operator → Type 0
HasPriorities [] = ⊤
HasPriorities (op ∷ ops) = (1 ≤ op.priority) × (op.priority ≤ 1200) × HasPriorities ops

-- no two operators are of one kind and have one name
abbrev pub HasEachOnce : List Operator → Type 0
HasEachOnce [] = ⊤
HasEachOnce (op ∷ ops) = (find_op (kind_of op.spec) op.name ops ≡ None) × HasEachOnce ops

-- the comma, which is always an operator
abbrev pub comma : Operator
comma = operator 1000 Xfy (codes ",")

-- The empty list and empty braces, which are written as two tokens each, are no operators (own).
abbrev pub HasNoBrackets : List Operator → Type 0
HasNoBrackets ops = (kind : Kind) → (find_op kind (codes "[]") ops ≡ None) × (find_op kind (codes "{}") ops ≡ None)

-- What is true of every table.
pub record IsOpTable (ops : List Operator) : Type 0 where
  pub priorities : HasPriorities ops
  pub each_once : HasEachOnce ops
  pub has_comma : find_op Infix (codes ",") ops ≡ Some comma
  pub brackets : HasNoBrackets ops
  -- no name is infix and postfix
  pub apart : (name : List ℕ) (op : Operator) → find_op Infix name ops ≡ Some op → find_op Postfix name ops ≡ None
