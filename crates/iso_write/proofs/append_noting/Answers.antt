use Rattle.std.proofs.Common.{◌++◌, ap, ◌∙◌}
use Rattle.iso_model.specs.Terms.TermOf.{term_of}
use Rattle.iso_model.specs.Syntax.Pieces.{text_at}
use Rattle.iso_write.specs.Styles.{style_of}
use Rattle.iso_model.proofs.OnTerms.CopyingLemmas.{on_ok_by}
use Rattle.iso_write.proofs.append_noting.Goals as goal

pub returns-clause-text : goal.returns-clause-text
returns-clause-text c = on_ok_by c.append_text.result c.append_text.ensures.text (λ text.
    text ∙ ap (λ s. c.args.out.now.items ++ text_at (style_of c.args.style) c.args.ops.now s c.args.priority (term_of c.args.term.now)) c.in_ok-note_all.ensures.numbers)
