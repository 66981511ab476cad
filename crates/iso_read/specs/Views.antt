-- What clauses see of the reader's types.
use Rattle.std.specs.Prelude.{ℕ, List, map}
use Rattle.std.specs.String.{string_bytes}
use Rattle.iso_ops.specs.declared.specifiers.Spec.{Spec}
use Rattle.iso_ops.specs.Operators as operators
use Rattle.iso_model.specs.Syntax.Grammar as grammar
use Rattle.iso_model.specs.Syntax.Reading as reading
use Rattle.iso_model.specs.Terms.TermOf.{term_of}
use Rattle.iso_read.specs.declared.language.Language.{Language}
use Rattle.iso_read.specs.declared.operators.Operator.{Operator}
use Rattle.iso_read.specs.declared.operators.Following.{Following}
use Rattle.iso_read.specs.declared.operators.Following.TheVariants as following
use Rattle.iso_read.specs.declared.node.Node.{Node}
use Rattle.iso_read.specs.declared.node.Row.{Row}

-- the operator that a Rust operator is
abbrev pub operator_of : Operator → operators.Operator
operator_of o = operators.operator o.priority o.spec (string_bytes o.name)

-- an operator with this name, and this priority and specifier
abbrev pub named_so : List ℕ → ℕ × Spec → operators.Operator
named_so name x = operators.operator x.0 x.1 name

abbrev pub following_of : Following → reading.Following
following_of (following.Between o) = reading.Between (operator_of o)
following_of (following.Behind o) = reading.Behind (operator_of o)

abbrev pub node_of : Node → grammar.Node
node_of n = record { term = term_of n.term; priority = n.priority; height = n.height; is_open = n.is_open }

abbrev pub row_of : Row → grammar.Row
row_of r = record { terms = map term_of r.terms.items; height = r.height }

-- what reads terms in this language, in which nothing stands as deep as the number
abbrev pub terms_in : Language → ℕ → reading.Reader
terms_in language depth = reading.term language.ops.now language.flags.now depth
