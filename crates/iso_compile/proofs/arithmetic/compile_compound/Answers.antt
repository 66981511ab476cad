use Rattle.std.proofs.Common.{sym}
use Rattle.std.specs.String.{string_bytes}
use Rattle.iso_compile.proofs.EvaluationLemmas.{others_in_line}
use Rattle.iso_compile.proofs.arithmetic.compile_compound.Goals as goal

pub returns-then-arguments-ne2-clause-made : goal.returns-then-arguments-ne2-clause-made
returns-then-arguments-ne2-clause-made c =
    record { some = sym (others_in_line (string_bytes c.args.name.now) c.args.arguments.now c.if-arguments-ne2.true); comes = tt; right = tt }
