-- The steps up to the end leave the value behind what was there.
use Rattle.std.proofs.Common.{◌≡◌, ◌≤◌, ◌-◌, ℕ, ℤ, List, ◌∷◌, drop, length}
use Rattle.std.specs.List.{AllZip}
use Rattle.iso_model.specs.Terms.Substitutions.{Subst}
use Rattle.iso_compile.specs.Expressions.{Step, done}
use Rattle.iso_instructions.specs.Steps.{IsStep}
use Rattle.iso_evaluation.specs.Running.{StandFor}
use Rattle.iso_evaluation.proofs.shorts.short_expression.Given as goal

abbrev pub invariant-loop-operand : goal.invariant-loop-operand
invariant-loop-operand g l = record {
  goes : (next : ℕ) (s : Subst) (ks : List Step) (zs : List ℤ) → StandFor (g.S.Store.present l.store) l.environment next s
      → AllZip (IsStep (g.S.Store.names l.store)) ks l.steps → done next s (drop l.start ks) zs ≡ done next s (drop l.end ks) (l.value ∷ zs);
  within : l.end ≤ length l.steps;
}

abbrev pub decreases-loop-operand : goal.decreases-loop-operand
decreases-loop-operand g l = length l.steps - l.end
