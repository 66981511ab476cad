use Rattle.std.proofs.Common.{ap, ◌∙◌}
use Rattle.iso_model.specs.Terms.TermOf.{term_of}
use Rattle.iso_prep.specs.Classes.{goals_of}
use Rattle.iso_prep.proofs.ReadLemmas.{read_back, ends_back, if_ok_by}
use Rattle.iso_prep.proofs.constructs.constructs.Goals as goal

pub returns-clause-ends : goal.returns-clause-ends
returns-clause-ends c = if_ok_by c.parts_of.result c.parts_of.ensures.ends (λ parts ends b is same. ends_back parts.items (term_of c.args.body.now) b ends is same)

pub returns-clause-goals : goal.returns-clause-goals
returns-clause-goals c = if_ok_by c.parts_of.result c.parts_of.ensures.goals (λ parts goals b is same. goals ∙ ap goals_of (read_back (term_of c.args.body.now) b is same))
