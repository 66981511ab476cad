use Rattle.std.proofs.Common.{◌∙◌}
use Rattle.iso_model.specs.Search.AtomTexts.{whole_integer}
use Rattle.iso_text.proofs.IntegerLemmas.{signed_of, signed_none, size_within}
use Rattle.iso_text.proofs.integers.integer.Goals as goal

pub returns-in_err-size : goal.returns-in_err-size
returns-in_err-size c = c.from_residual.ensures ∙ signed_none c.args.negative (whole_integer c.args.text.now) c.in_err-size.ensures

pub signed-requires : goal.signed-requires
signed-requires c = size_within (whole_integer c.args.text.now) c.in_ok-size.size c.in_ok-size.ensures

pub returns : goal.returns
returns c = c.signed.ensures ∙ signed_of c.args.negative (whole_integer c.args.text.now) c.in_ok-size.size c.in_ok-size.ensures
