-- Operators in the grammar (ISO/IEC 13211-1:1995, 6.3.4): which one a name is, and which operands it takes.
use Rattle.std.specs.Prelude.{ℕ, List, Option}
use Rattle.iso_ops.specs.declared.specifiers.Kind.TheVariants.{Prefix, Infix, Postfix}
use Rattle.iso_ops.specs.Operators.{Operator, find_op}
use Rattle.iso_ops.specs.Specifiers.{left_priority, right_priority}

-- the prefix, infix and postfix operator that a name is in a table
abbrev pub prefix_named : List Operator → List ℕ → Option Operator
prefix_named table name = find_op Prefix name table

abbrev pub infix_named : List Operator → List ℕ → Option Operator
infix_named table name = find_op Infix name table

abbrev pub postfix_named : List Operator → List ℕ → Option Operator
postfix_named table name = find_op Postfix name table

-- the greatest priority of an operator's left operand
abbrev pub left_of : Operator → ℕ
left_of o = left_priority o.spec o.priority

-- the greatest priority of an operator's right operand
abbrev pub right_of : Operator → ℕ
right_of o = right_priority o.spec o.priority
