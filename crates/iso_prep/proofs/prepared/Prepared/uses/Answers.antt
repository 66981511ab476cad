use Rattle.std.proofs.Common.{option_map, subst}
use Rattle.iso_model.specs.Terms.TermOf.{term_of}
use Rattle.iso_prep.specs.Classes.{goals_of}
use Rattle.iso_prep.specs.Readings.{read}
use Rattle.iso_prep.specs.Uses.{AreUses, head_or_end}
use Rattle.iso_prep.proofs.KeptLemmas.{uses_found, referred}
use Rattle.iso_prep.proofs.prepared.Prepared.uses.Goals as goal

pub invariant_of-result : goal.invariant_of-result
invariant_of-result c =
    let p = c.self.inside in
    let us = c.in_ok-uses.uses.items in
    let head = referred c.as_ref.result p.head c.as_ref.ensures.value in
    uses_found (option_map term_of p.head) (term_of p.body) p.variables us c.args.self.now c.self.invariant.body c.self.view_is
    (subst (λ h. AreUses us p.variables (head_or_end h) (goals_of (read (term_of p.body)))) head c.in_ok-uses.ensures)
