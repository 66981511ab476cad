use Rattle.std.proofs.Common.{sym, ◌∙◌}
use Rattle.iso_session_core.proofs.WordsLemmas.{decimal_says}
use Rattle.iso_session_core.proofs.words.decimal.Goals as goal

pub returns : goal.returns
returns c =
    let digits = rw c.as_bytes.ensures.value at (sym c.are_digits.ensures ∙ c.if-not-are_digits.false) in
    decimal_says c.args.text.now c.parse.result c.ok.result c.parse.ensures.value.0 c.ok.ensures.value digits
