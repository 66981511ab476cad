use Rattle.std.proofs.Common.{◌++◌, ap}
use Rattle.iso_model.specs.Terms.TermOf.{term_of}
use Rattle.iso_prep.specs.Readings.{read}
use Rattle.iso_prep.specs.Uses.{goal_terms}
use Rattle.iso_prep.proofs.ConversionLemmas.{terms_load-parts}
use Rattle.iso_prep.proofs.GoalLemmas.{goals_parts, goal_appended}
use Rattle.iso_prep.proofs.goals.collect_next.Goals as goal

pub returns-in-Some-clause-goals : goal.returns-in-Some-clause-goals
returns-in-Some-clause-goals c =
    ap (λ gs. goal_terms c.args.goals.now.items ++ gs) (goals_parts _ c.args.part.now _ _ _ c.in-Some.first c.in-Some.second c.in-Some.ensures c.in_ok-push.ensures.items c.in_ok-push-2.ensures.items)

pub returns-in-Some-clause-load : goal.returns-in-Some-clause-load
returns-in-Some-clause-load c = terms_load-parts _ c.args.part.now _ _ _ c.in-Some.first c.in-Some.second c.in-Some.ensures c.in_ok-push.ensures.items c.in_ok-push-2.ensures.items

pub returns-in_ok-push-3-clause-goals : goal.returns-in_ok-push-3-clause-goals
returns-in_ok-push-3-clause-goals c = goal_appended c.args.goals.now.items _ c.in-Run.goal (read (term_of c.args.part.now)) _ c.in_ok-push-3.ensures.items (c.in-Run.ensures c.in_default.ensures)
