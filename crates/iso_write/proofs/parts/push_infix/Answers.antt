use Rattle.std.proofs.Common.{sym, ◌∙◌}
use Rattle.iso_model.specs.Terms.TermOf.{term_of}
use Rattle.iso_write.specs.declared.tasks.Place.TheVariants.{Right}
use Rattle.iso_write.specs.Forms.{operator_of, written}
use Rattle.iso_write.specs.Tasks.{pieces_of}
use Rattle.iso_model.proofs.OnTerms.CopyingLemmas.{on_ok_by}
use Rattle.iso_write.proofs.PieceLemmas.{placed_has, infix_word}
use Rattle.iso_write.proofs.parts.push_infix.Goals as goal

pub returns-else-is_symbolic-clause-pieces : goal.returns-else-is_symbolic-clause-pieces
returns-else-is_symbolic-clause-pieces c =
    let o = c.args.operator in
    on_ok_by c.push_all-else-is_symbolic.result c.push_all-else-is_symbolic.ensures.pieces (λ pushed style table seen.
    pushed style table seen
    ∙ infix_word style table seen (operator_of o) (written style table seen (term_of c.args.left.now)) (written style table seen (term_of c.args.right.now)) (pieces_of style table seen c.args.todo.now.items)
    (placed_has style table seen (Right o) c.args.right.now) (sym c.is_symbolic.ensures ∙ c.if-is_symbolic.false))
