use Rattle.std.proofs.Common.{Some, None, ◌∙◌}
use Rattle.iso_model.specs.Syntax.Numbers.{special, digits_at}
use Rattle.iso_token.proofs.PieceLemmas.{written_or}
use Rattle.iso_token.proofs.numbers.integer_at.Goals as goal

pub returns-in-Some-clause-value : goal.returns-in-Some-clause-value
returns-in-Some-clause-value c = let z = c.args.bytes.now in written_or (Some c.in-Some.written) (special z) (digits_at 10 z) c.in-Some.ensures.value

pub returns-in-None-clause-value : goal.returns-in-None-clause-value
returns-in-None-clause-value c =
    let z = c.args.bytes.now in c.digits_at.ensures.value ∙ written_or None (special z) (digits_at 10 z) c.in-None.ensures.value
