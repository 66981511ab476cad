use Rattle.std.proofs.Common.{ap, ◌∙◌, Some, false}
use Rattle.std.specs.Option.{option_eq}
use mathlib.Core.Bool.{beq}
use Rattle.iso_lint.specs.Once.{occurrences}
use Rattle.iso_lint.proofs.CountLemmas.{tells_once, told_once}
use Rattle.iso_lint.proofs.once.is_once.Goals as goal

pub returns-then-is_told : goal.returns-then-is_told
returns-then-is_told c = λ ts counted.
    told_once _ _ _ _ c.if-is_told.ensures (c.eq.ensures ∙ ap (λ kept. option_eq beq kept (Some false)) (c.copied.ensures ∙ c.get.ensures.value ∙ counted.kept c.args.token.now.text.now)
    ∙ tells_once (occurrences c.args.token.now.text.now ts))
