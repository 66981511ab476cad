use Rattle.std.proofs.Common.{ap, sym, ◌∙◌}
use Rattle.iso_ops.specs.declared.specifiers.Kind.TheVariants.{Prefix, Postfix}
use Rattle.iso_ops.specs.Operators.{operator}
use Rattle.iso_model.specs.Terms.TermOf.{term_of}
use Rattle.iso_model.specs.Syntax.Pieces.{numbered_or, single_written}
use Rattle.iso_write.specs.Styles.{style_of}
use Rattle.iso_write.specs.Forms.{written}
use Rattle.iso_write.proofs.FormLemmas.{found_operator, found_nothing, single_prefix, single_postfix}
use Rattle.iso_write.proofs.forms.single_form.Goals as goal

pub returns-in-Some-prefix-clause-form : goal.returns-in-Some-prefix-clause-form
returns-in-Some-prefix-clause-form c = λ seen.
    let style = style_of c.args.style in
    let table = c.args.ops.now in
    let name = c.args.name.now in
    let argument = written style table seen (term_of c.args.argument.now) in
    single_prefix style table seen name (operator c.in-Some-prefix.priority c.in-Some-prefix.spec name) argument
    (sym c.uses_operators.ensures ∙ c.if-not-uses_operators.false) (sym c.eq.ensures ∙ c.if-eq.false)
    (found_operator Prefix name table _ _ c.in-Some-prefix.ensures.entry)
    ∙ ap (λ o. numbered_or o (single_written style table seen name argument)) c.in_default.ensures

pub returns-clause-form : goal.returns-clause-form
returns-clause-form c = λ seen.
    let style = style_of c.args.style in
    let table = c.args.ops.now in
    let name = c.args.name.now in
    let argument = written style table seen (term_of c.args.argument.now) in
    single_postfix style table seen name (operator c.in_ok-priority.priority c.in_ok-priority.spec name) argument
    (sym c.uses_operators.ensures ∙ c.if-not-uses_operators.false) (sym c.eq.ensures ∙ c.if-eq.false)
    (found_nothing Prefix name table c.in_default-prefix.ensures.entry) (found_operator Postfix name table _ _ c.in_ok-priority.ensures.entry)
    ∙ ap (λ o. numbered_or o (single_written style table seen name argument)) c.in_default.ensures
