use Rattle.std.proofs.Common.{sym, ◌∙◌}
use Rattle.iso_text.proofs.IntegerLemmas.{unsigned}
use Rattle.iso_text.proofs.integers.signed_integer.Goals as goal

pub returns-in-None : goal.returns-in-None
returns-in-None c = c.integer-in-None.ensures ∙ sym (unsigned c.args.text.now c.in-None.ensures.cases)
