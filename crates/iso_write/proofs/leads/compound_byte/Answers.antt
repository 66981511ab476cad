use Rattle.std.proofs.Common.{Some, sym, ap, ◌∙◌}
use Rattle.std.specs.Option.{option_or}
use Rattle.iso_write.specs.Styles.{style_of}
use Rattle.iso_write.proofs.LeadLemmas.{no_argument, some_argument}
use Rattle.iso_write.proofs.leads.compound_byte.Goals as goal

pub returns-then-is_empty : goal.returns-then-is_empty
returns-then-is_empty c = λ table seen.
    c.name_byte-first.ensures ∙ no_argument (style_of c.args.style) table seen c.args.name.now c.args.arguments.now (sym c.is_empty.ensures ∙ c.if-is_empty.true)

pub returns : goal.returns
returns c = λ table seen.
    c.or.ensures ∙ ap (λ x. option_or x (Some 40)) c.name_byte-first.ensures
    ∙ some_argument (style_of c.args.style) table seen c.args.name.now c.args.arguments.now (sym c.is_empty.ensures ∙ c.if-is_empty.false)
