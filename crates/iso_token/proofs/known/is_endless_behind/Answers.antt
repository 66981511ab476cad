use Rattle.std.proofs.Common.{◌≡◌, slice_index, sym, ◌∙◌, arith}
use Rattle.iso_token.proofs.KnownLemmas.{open_lexeme, no_end_behind}
use Rattle.iso_token.proofs.known.is_endless_behind.Goals as goal

pub returns-then-endless : goal.returns-then-endless
returns-then-endless c = λ known. no_end_behind c.args.lexeme.len c.args.bytes.now (c.requires.endless c.if-endless.true)

pub returns-in-47 : goal.returns-in-47
returns-in-47 c = λ kind.
    let slash : slice_index c.args.bytes.now 0 ≡ 47 = omega arith in
    let star : slice_index c.args.bytes.now 1 ≡ 42 = omega arith in
    open_lexeme c.args.lexeme c.args.bytes.now slash star c.requires.front (sym c.is_some.ensures ∙ kind)
