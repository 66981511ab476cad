use Rattle.std.proofs.Common.{◌≡◌, ℕ, List, reverse, drop}
use Rattle.std.specs.List.{AllZip}
use Rattle.iso_model.specs.Terms.Substitutions.{Subst}
use Rattle.iso_compile.specs.Expressions.{Step, done}
use Rattle.iso_instructions.specs.Steps.{IsStep}
use Rattle.iso_evaluation.specs.Running.{StandFor}
use Rattle.iso_evaluation.proofs.steps.run_steps.Given as goal

-- Of the values so far the steps that are left make what all of them make of the first ones.
abbrev pub invariant-loop-step : goal.invariant-loop-step
invariant-loop-step g l = (next : ℕ) (s : Subst) (ks : List Step) → StandFor (g.S.Store.present l.store) l.environment next s → AllZip (IsStep (g.S.Store.names l.store)) ks l.steps
    → done next s ks (reverse l.initial.values.items) ≡ done next s (drop l.step-index ks) (reverse l.values.items)
