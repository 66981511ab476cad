use Rattle.std.proofs.Common.{sym, ap, ◌∙◌}
use Rattle.iso_model.specs.Terms.TermOf.{term_of}
use Rattle.iso_write.specs.Styles.{style_of}
use Rattle.iso_write.specs.Forms.{written}
use Rattle.iso_write.specs.Tasks.{needs_brackets, pieces_of}
use Rattle.iso_model.proofs.OnTerms.CopyingLemmas.{on_ok_by}
use Rattle.iso_write.proofs.TaskLemmas.{placed_bracketed, placed_bare}
use Rattle.iso_write.proofs.parts.push_placed.Goals as goal

pub returns-then-has_brackets-clause-pieces : goal.returns-then-has_brackets-clause-pieces
returns-then-has_brackets-clause-pieces c =
    let style = style_of c.args.style in
    let table = c.args.ops.now in
    on_ok_by c.push_all.result c.push_all.ensures.pieces (λ pushed seen.
    let test = ap (needs_brackets c.args.place) (sym (c.form_of.ensures.form seen)) ∙ sym (c.has_brackets.ensures seen) ∙ c.if-has_brackets.true in
    pushed style table seen ∙ placed_bracketed c.args.place (written style table seen (term_of c.args.term.now)) (pieces_of style table seen c.args.todo.now.items) test)

pub returns-else-has_brackets-clause-pieces : goal.returns-else-has_brackets-clause-pieces
returns-else-has_brackets-clause-pieces c =
    let style = style_of c.args.style in
    let table = c.args.ops.now in
    on_ok_by c.push_all-else-has_brackets.result c.push_all-else-has_brackets.ensures.pieces (λ pushed seen.
    let test = ap (needs_brackets c.args.place) (sym (c.form_of.ensures.form seen)) ∙ sym (c.has_brackets.ensures seen) ∙ c.if-has_brackets.false in
    pushed style table seen ∙ placed_bare c.args.place (written style table seen (term_of c.args.term.now)) (pieces_of style table seen c.args.todo.now.items) test)
