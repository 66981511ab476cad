use Rattle.std.proofs.Common.{slice_index, unwrap_or, ap, ◌∙◌}
use Rattle.iso_write.specs.Edges.{parts}
use Rattle.iso_write.proofs.EdgeLemmas.{first_is, parted_then, parted_else}
use Rattle.iso_write.proofs.edges.append_piece.Goals.{then-parts+in_ok-push, else-parts}
use Rattle.iso_write.proofs.edges.append_piece.Goals as goal

pub returns-clause-text : goal.returns-clause-text
returns-clause-text c = λ ps.
    let text = c.args.text.now in
    let first = c.unwrap_or.ensures ∙ ap (λ o. unwrap_or o 0) (c.copied.ensures ∙ c.first.ensures.value) ∙ first_is text in
    let test = c.parts.ensures ∙ ap (parts c.args.edge) first in
    let wrote = c.in_ok-extend_from_slice.ensures.items in
    elim c.if-parts.branch [
      | then-parts+in_ok-push w ↦
          parted_then (parts c.args.edge (slice_index text 0)) c.parts.result c.args.out.now.items c.if-parts.out.items _ text c.behind.result ps test w.if-parts.true
          (ap (λ v. v.items) w.out-is ∙ w.in_ok-push.ensures.items) wrote c.behind.ensures
      | else-parts w ↦
          parted_else (parts c.args.edge (slice_index text 0)) c.parts.result c.args.out.now.items c.if-parts.out.items _ text c.behind.result ps test w.if-parts.false
          (ap (λ v. v.items) w.out-is) wrote c.behind.ensures
    ]
