use Rattle.std.proofs.Common.{sym, ◌∙◌}
use Rattle.iso_write.specs.Styles.{style_of}
use Rattle.iso_write.proofs.brackets.is_operator.Goals as goal

pub returns-then-is_operator_name : goal.returns-then-is_operator_name
returns-then-is_operator_name c = λ seen.
    let named = sym (c.is_operator_name.ensures (style_of c.args.style) seen) ∙ c.if-is_operator_name.true in
    rw (c.in-Atom.is, named) c.uses_operators.ensures

pub returns-else-is_operator_name : goal.returns-else-is_operator_name
returns-else-is_operator_name c = λ seen.
    let named = sym (c.is_operator_name.ensures (style_of c.args.style) seen) ∙ c.if-is_operator_name.false in
    rw (c.in-Atom.is, named) c.if-is_operator_name.false
