use Rattle.std.proofs.Common.{sym, ap, ◌∙◌}
use Rattle.std.specs.Option.{option_or}
use Rattle.iso_model.specs.Terms.TermOf.{term_of}
use Rattle.iso_write.specs.declared.tasks.Place.TheVariants.{Left}
use Rattle.iso_write.specs.Styles.{style_of}
use Rattle.iso_write.specs.Forms.{written}
use Rattle.iso_write.specs.Tasks.{placed, needs_brackets}
use Rattle.iso_write.specs.Leads.{lead}
use Rattle.iso_write.proofs.LeadLemmas.{lead_bracketed, lead_bare, or_assoc}
use Rattle.iso_write.proofs.leads.leading_byte.Goals as goal

pub returns-then-has_brackets : goal.returns-then-has_brackets
returns-then-has_brackets c = λ seen.
    let place = c.loop-form.place in
    let w = written (style_of c.args.style) c.args.ops.now seen (term_of c.loop-form.term.now) in
    let test = ap (needs_brackets place) (sym (c.form_of-form.ensures.form seen)) ∙ sym (c.has_brackets.ensures seen) ∙ c.if-has_brackets.true in
    sym (ap (λ x. option_or x c.loop-form.behind) (lead_bracketed place w test)) ∙ c.loop-form.invariant seen

pub returns-in-Byte : goal.returns-in-Byte
returns-in-Byte c = λ seen.
    let style = style_of c.args.style in
    let table = c.args.ops.now in
    let place = c.loop-form.place in
    let w = written style table seen (term_of c.loop-form.term.now) in
    let test = ap (needs_brackets place) (sym (c.form_of-form.ensures.form seen)) ∙ sym (c.has_brackets.ensures seen) ∙ c.if-has_brackets.false in
    let first = c.in-Byte.ensures.lead table seen ∙ ap (λ v. lead v.bare) (c.form_of-form.ensures.form seen) ∙ sym (lead_bare place w test) in
    c.or.ensures ∙ ap (λ x. option_or x c.loop-form.behind) first ∙ c.loop-form.invariant seen

pub loop-form-preserved : goal.loop-form-preserved
loop-form-preserved c = λ seen.
    let style = style_of c.args.style in
    let table = c.args.ops.now in
    let place = c.loop-form.place in
    let w = written style table seen (term_of c.loop-form.term.now) in
    let test = ap (needs_brackets place) (sym (c.form_of-form.ensures.form seen)) ∙ sym (c.has_brackets.ensures seen) ∙ c.if-has_brackets.false in
    let first = c.in-Left.ensures.lead table seen ∙ ap (λ v. lead v.bare) (c.form_of-form.ensures.form seen) ∙ sym (lead_bare place w test) in
    let left = lead (placed (Left c.in-Left.operator) (written style table seen (term_of c.in-Left.left.now))) in
    ap (option_or left) c.or-in-Left.ensures ∙ or_assoc left c.in-Left.next c.loop-form.behind ∙ ap (λ x. option_or x c.loop-form.behind) first ∙ c.loop-form.invariant seen
