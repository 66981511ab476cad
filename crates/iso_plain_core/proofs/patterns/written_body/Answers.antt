use Rattle.std.proofs.Common.{◌∙◌, sym, subst}
use Rattle.iso_prep.proofs.ReadLemmas.{if_ok_by}
use Rattle.iso_program.specs.Kept.{AreTemplates}
use Rattle.iso_plain_core.proofs.WrittenLemmas.{written_ends, goals_written, terms_written}
use Rattle.iso_plain_core.proofs.patterns.written_body.Goals as goal

pub returns-clause-ends : goal.returns-clause-ends
returns-clause-ends g c =
    if_ok_by c.written_parts.result c.written_parts.ensures.written (λ ws written.
    written_ends (g.S.Store.names c.written_parts.new.store) c.in_ok-parts.parts.items ws.items c.args.body.now.body (rw c.as_slice.ensures.value at written) c.in_ok-parts.ensures.ends)

pub returns-clause-goals : goal.returns-clause-goals
returns-clause-goals g c = λ n templates.
    if_ok_by c.written_parts.result c.written_parts.ensures.written (λ ws written.
    goals_written (g.S.Store.names c.written_parts.new.store) n c.in_ok-parts.parts.items ws.items (subst (AreTemplates n) (sym c.in_ok-parts.ensures.goals) templates) (rw c.as_slice.ensures.value at written))

pub returns-clause-terms : goal.returns-clause-terms
returns-clause-terms g c =
    if_ok_by c.written_parts.result c.written_parts.ensures.written (λ ws written.
    terms_written (g.S.Store.names c.written_parts.new.store) c.in_ok-parts.parts.items ws.items (rw c.as_slice.ensures.value at written) ∙ c.in_ok-parts.ensures.goals)
