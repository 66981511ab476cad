-- What indicators begin with.
use Rattle.std.specs.Prelude.{◌≡◌, ◌+◌, ◌<◌, [], ◌++◌}
use Rattle.iso_model.specs.Terms.Trees.{Tree}
use Rattle.iso_model.specs.Terms.TermOf.{term_of}
use Rattle.iso_model.specs.Terms.Sizes.{size}
use Rattle.iso_lint_core.specs.Calls.{declared, indicated}
use Rattle.iso_lint_core.specs.declared.calls.IndicatorStep.{IndicatorStep}
use Rattle.iso_lint_core.specs.declared.calls.IndicatorStep.TheVariants as step

abbrev pub IsIndicatorStep : IndicatorStep → Tree → Type 0
IsIndicatorStep (step.Both first others) t =
    (declared t ≡ declared (term_of first.now) ++ declared (term_of others.now))
    × (size (term_of first.now) + size (term_of others.now) < size t)
IsIndicatorStep (step.One name arity) t = declared t ≡ indicated (term_of name.now) (term_of arity.now)
IsIndicatorStep step.Nothing t = declared t ≡ []
