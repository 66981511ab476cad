-- The variables so far were seen.
use Rattle.iso_code.specs.Loaded.{met_behind}
use Rattle.iso_bodies.specs.Clauses.{head_operands, none_met}
use Rattle.iso_bodies.proofs.FreshLemmas.{AreBegun}
use Rattle.iso_bodies.proofs.fresh.fresh_behind.Given as goal

abbrev pub invariant-loop-variable : goal.invariant-loop-variable
invariant-loop-variable l = AreBegun (met_behind none_met (head_operands l.head)) l.count l.variable l.fresh.items
