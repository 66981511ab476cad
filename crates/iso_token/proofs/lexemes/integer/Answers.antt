use Rattle.std.proofs.Common.{ap, arith}
use Rattle.iso_model.proofs.Syntax.NumberLemmas.{integer-ends}
use Rattle.iso_token.specs.declared.numbers.Written.{Written}
use Rattle.iso_token.proofs.lexemes.integer.Goals as goal

pub returns-clause-within : goal.returns-clause-within
returns-clause-within c =
    let h = integer-ends c.args.bytes.now c.requires.nonempty c.requires.begins in
    let len = ap (λ (w : Written). w.len) c.integer_at.ensures.value in
    (omega (arith, len, h.some), omega (arith, len, h.all))
