use Rattle.std.proofs.Common.{ap, ◌∙◌, subst}
use Rattle.iso_model.specs.Terms.TermOf.{term_of}
use Rattle.iso_prep.specs.Classes.{goals_of}
use Rattle.iso_prep.specs.Trees.{EndsWith, IsBorrowed}
use Rattle.iso_prep.proofs.ReadLemmas.{read_is_body, if_ok_by}
use Rattle.iso_prep.proofs.prepared.Prepared.constructs.Goals as goal

pub returns-clause-ends : goal.returns-clause-ends
returns-clause-ends c =
    let same = read_is_body (term_of c.self.inside.body) c.self.invariant.body ∙ ap (λ p. p.body) c.self.view_is in
    if_ok_by c.parts_of.result c.parts_of.ensures.ends (λ parts ends. subst (EndsWith IsBorrowed parts.items) same ends)

pub returns-clause-goals : goal.returns-clause-goals
returns-clause-goals c =
    let same = read_is_body (term_of c.self.inside.body) c.self.invariant.body ∙ ap (λ p. p.body) c.self.view_is in
    if_ok_by c.parts_of.result c.parts_of.ensures.goals (λ parts goals. goals ∙ ap goals_of same)
