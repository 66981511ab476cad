use Rattle.std.proofs.Common.{Some, ap, ◌∙◌}
use Rattle.std.specs.Option.{option_or}
use Rattle.iso_model.specs.Terms.TermOf.{term_of}
use Rattle.iso_write.specs.declared.tasks.Place.TheVariants.{Right}
use Rattle.iso_write.specs.Styles.{style_of}
use Rattle.iso_write.specs.Forms.{operator_of, written}
use Rattle.iso_write.proofs.PieceLemmas.{placed_has}
use Rattle.iso_write.proofs.LeadLemmas.{lead_prefix, lead_infix, lead_postfix}
use Rattle.iso_write.proofs.leads.front_of.Goals as goal

pub returns-in-Prefix-clause-lead : goal.returns-in-Prefix-clause-lead
returns-in-Prefix-clause-lead c = λ table seen.
    let style = style_of c.args.style in
    let o = c.in-Prefix.operator in
    let t = c.in-Prefix.field-1.now in
    c.or.ensures ∙ ap (λ x. option_or x (Some 32)) c.name_byte-in-Prefix.ensures
    ∙ rw (c.in-Prefix.is) (lead_prefix style table seen (operator_of o) (written style table seen (term_of t)) (placed_has style table seen (Right o) t))

pub returns-in-Infix-clause-lead : goal.returns-in-Infix-clause-lead
returns-in-Infix-clause-lead c = λ table seen.
    let style = style_of c.args.style in
    let o = c.in-Infix.operator in
    let l = written style table seen (term_of c.in-Infix.left.now) in
    let r = written style table seen (term_of c.in-Infix.field-2.now) in
    rw (c.in-Infix.is, c.infix_byte.ensures) (lead_infix style table seen (operator_of o) l r)

pub returns-in-Postfix-clause-lead : goal.returns-in-Postfix-clause-lead
returns-in-Postfix-clause-lead c = λ table seen.
    let style = style_of c.args.style in
    let o = c.in-Postfix.operator in
    let w = written style table seen (term_of c.in-Postfix.left.now) in
    rw (c.in-Postfix.is, c.postfix_byte.ensures) (lead_postfix style table seen (operator_of o) w)
