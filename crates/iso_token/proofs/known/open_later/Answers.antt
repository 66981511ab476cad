use Rattle.std.proofs.Common.{◌≡◌, ◌+◌, drop, take, sym, ◌∙◌, arith, None}
use Rattle.std.proofs.lemmas.List.{take_rest}
use Rattle.iso_model.specs.Syntax.Quoted.{Stands, piece_at, item_len}
use Rattle.iso_token.specs.Quoted.{len_of, stood_for}
use Rattle.iso_token.proofs.PieceLemmas.{piece-stands}
use Rattle.iso_token.proofs.KnownLemmas.{open_on}
use Rattle.iso_token.proofs.known.open_later.Goals as goal

pub loop-at-preserved : goal.loop-at-preserved
loop-at-preserved c =
    let z = c.args.bytes.now in
    let at = c.loop-at.at in
    let p = c.piece_at-piece.result in
    let value = rw (take_rest z at) at c.piece_at-piece.ensures.value in
    let is : piece_at c.args.quote (drop at z) ≡ Stands (stood_for p (take (len_of p) (drop at z))) (len_of p) = sym value ∙ piece-stands (drop at z) p c.in_default.not-Closes c.in_default.not-Broken in
    let goes : item_len c.args.quote (drop (at + len_of p) z) ≡ None = open_on c.args.quote at (len_of p) z _ (omega arith) c.piece_at-piece.ensures.within.0 is c.loop-at.invariant in
    rw c.len-at.ensures goes
