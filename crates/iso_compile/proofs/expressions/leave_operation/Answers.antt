use Rattle.std.specs.String.{string_bytes}
use Rattle.iso_compile.proofs.ExpressionLemmas.{many_unknown}
use Rattle.iso_compile.proofs.expressions.leave_operation.Goals as goal

pub returns-in_default-2-clause-unknown : goal.returns-in_default-2-clause-unknown
returns-in_default-2-clause-unknown c _ = many_unknown (string_bytes c.args.name.now) c.args.arguments.now c.in_default.len_at_least
