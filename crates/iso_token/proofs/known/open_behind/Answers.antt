use Rattle.std.proofs.Common.{◌≡◌, Some, slice_index, refl, ap, ◌∙◌, arith}
use Rattle.iso_token.specs.declared.kinds.Kind.TheVariants.{Bad}
use Rattle.iso_token.proofs.ShowsLemmas.{lexeme_some}
use Rattle.iso_token.proofs.KnownLemmas.{open_item}
use Rattle.iso_token.proofs.known.open_behind.Goals as goal

pub open_later-requires-clause-unclosed : goal.open_later-requires-clause-unclosed
open_later-requires-clause-unclosed c =
    let z = c.args.bytes.now in
    let l = c.args.lexeme in
    let first : slice_index z 0 ≡ c.args.quote = omega arith in
    let kind : l.kind ≡ Some Bad = c.in-Some.is ∙ ap Some (c.is_bad.ensures c.if-is_bad.true) in
    open_item c.args.quote z l.len c.requires.quote first (lexeme_some l Bad z z c.requires.front refl kind)
