use Rattle.std.proofs.Common.{◌≡◌, slice_index, arith}
use Rattle.std.proofs.lemmas.Str.{IsCharBoundary-after_ascii}
use Rattle.iso_model.proofs.Syntax.CutLemmas.{byte_within}
use Rattle.iso_token.proofs.kinds.unquoted.Goals as goal

pub split_at-requires : goal.split_at-requires
split_at-requires c =
    let z = c.args.text.now in
    let is : slice_index z 0 ≡ c.args.quote = cc in
    IsCharBoundary-after_ascii z 0 c.utf8.text (byte_within z 0 _ is c.requires.0) (omega (arith, is))
