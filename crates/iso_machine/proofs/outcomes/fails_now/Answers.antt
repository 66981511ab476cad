use Rattle.std.proofs.Common.{ap, inl, inr, ◌∙◌}
use Rattle.iso_search.specs.declared.calls.Called.TheVariants as call
use Rattle.iso_machine.proofs.outcomes.fails_now.Goals as goal

pub returns-in-Fails : goal.returns-in-Fails
returns-in-Fails c = λ done. inl c.in-Fails.is

pub returns-in-BuiltIn : goal.returns-in-BuiltIn
returns-in-BuiltIn c = λ done. inr (c.in-BuiltIn.is ∙ ap call.BuiltIn (c.is_fail.ensures done))
