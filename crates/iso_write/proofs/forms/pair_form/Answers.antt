use Rattle.std.proofs.Common.{sym, ◌∙◌}
use Rattle.iso_ops.specs.declared.specifiers.Kind.TheVariants.{Infix}
use Rattle.iso_ops.specs.Operators.{operator}
use Rattle.iso_model.specs.Terms.TermOf.{term_of}
use Rattle.iso_write.specs.Styles.{style_of}
use Rattle.iso_write.specs.Forms.{written}
use Rattle.iso_write.proofs.FormLemmas.{found_operator, pair_infix}
use Rattle.iso_write.proofs.forms.pair_form.Goals as goal

pub returns-clause-form : goal.returns-clause-form
returns-clause-form c = λ seen.
    let style = style_of c.args.style in
    let table = c.args.ops.now in
    let name = c.args.name.now in
    pair_infix style table seen name (operator c.in_ok-priority.priority c.in_ok-priority.spec name) (written style table seen (term_of c.args.first.now)) (written style table seen (term_of c.args.second.now))
    (sym c.eq.ensures ∙ c.if-eq.false) (sym c.uses_operators.ensures ∙ c.if-not-uses_operators.false)
    (found_operator Infix name table _ _ c.in_ok-priority.ensures.entry)
