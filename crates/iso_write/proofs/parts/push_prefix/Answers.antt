use Rattle.std.proofs.Common.{true, false, sym, ◌∙◌}
use Rattle.iso_model.specs.Terms.TermOf.{term_of}
use Rattle.iso_write.specs.declared.tasks.Place.TheVariants.{Right}
use Rattle.iso_write.specs.Styles.{style_of}
use Rattle.iso_write.specs.Forms.{operator_of, written}
use Rattle.iso_write.specs.Tasks.{pieces_of}
use Rattle.iso_model.proofs.OnTerms.CopyingLemmas.{on_ok_by}
use Rattle.iso_write.proofs.PieceLemmas.{placed_has, prefix_by}
use Rattle.iso_write.proofs.parts.push_prefix.Goals as goal

pub returns-then-is_apart-clause-pieces : goal.returns-then-is_apart-clause-pieces
returns-then-is_apart-clause-pieces c =
    let style = style_of c.args.style in
    let table = c.args.ops.now in
    let o = c.args.operator in
    on_ok_by c.push_all.result c.push_all.ensures.pieces (λ pushed seen.
    pushed style table seen
    ∙ prefix_by style table seen true (operator_of o) (written style table seen (term_of c.args.term.now)) (pieces_of style table seen c.args.todo.now.items)
    (placed_has style table seen (Right o) c.args.term.now) (sym c.if-is_apart.true ∙ c.is_apart.ensures seen))

pub returns-else-is_apart-clause-pieces : goal.returns-else-is_apart-clause-pieces
returns-else-is_apart-clause-pieces c =
    let style = style_of c.args.style in
    let table = c.args.ops.now in
    let o = c.args.operator in
    on_ok_by c.push_all-else-is_apart.result c.push_all-else-is_apart.ensures.pieces (λ pushed seen.
    pushed style table seen
    ∙ prefix_by style table seen false (operator_of o) (written style table seen (term_of c.args.term.now)) (pieces_of style table seen c.args.todo.now.items)
    (placed_has style table seen (Right o) c.args.term.now) (sym c.if-is_apart.false ∙ c.is_apart.ensures seen))
