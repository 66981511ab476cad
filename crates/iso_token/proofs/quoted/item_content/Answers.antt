use Rattle.std.proofs.Common.{◌≡◌, ℕ, ◌<◌, ◌≤◌, ◌++◌, List, [], length, string_bytes, append-nil, sym, ap, ◌∙◌, subst, arith}
use Rattle.std.proofs.lemmas.Bool.Decides.{nat_tests}
use Rattle.std.proofs.lemmas.Str.{IsUtf8-drop}
use Rattle.iso_model.specs.Syntax.Quoted.{piece_at, content_from}
use Rattle.iso_model.proofs.Syntax.QuotedLemmas.{piece-cut, content-nil}
use Rattle.iso_token.specs.declared.quoted.QuotedPiece.{QuotedPiece}
use Rattle.iso_token.specs.Quoted.{len_of, piece_of}
use Rattle.iso_token.proofs.PieceLemmas.{piece-stands, content-ended, content-on}
use Rattle.iso_token.proofs.quoted.item_content.Goals as goal

-- the piece that the text's bytes have is that of the text
of_text : (q : ℕ) (bytes z : List ℕ) (p : QuotedPiece) → bytes ≡ z → piece_of bytes p ≡ piece_at q bytes → piece_of z p ≡ piece_at q z
of_text q bytes z p same value = let P : List ℕ → Type 0 = λ y. piece_of y p ≡ piece_at q y in subst P same value

-- nothing more stands for the rest
built : (done left whole : List ℕ) → done ++ left ≡ whole → left ≡ [] → done ≡ whole
built done left whole is none = sym (append-nil done) ∙ sym (ap (λ y. done ++ y) none) ∙ is

pub returns-in-Closes : goal.returns-in-Closes
returns-in-Closes c =
    let z = c.loop-rest.rest.now in
    let any : 0 < length z = grind (arith, nat_tests) in
    let value = of_text c.args.quote _ z c.piece_at-piece.result c.as_bytes.ensures.value c.piece_at-piece.ensures.value in
    built _ (content_from c.args.quote 0 z) _ c.loop-rest.invariant.1 (content-ended c.args.quote z c.piece_at-piece.result any value c.in-Closes.is)

pub split_at-requires : goal.split_at-requires
split_at-requires c =
    let z = c.loop-rest.rest.now in
    let p = c.piece_at-piece.result in
    let any : 0 < length z = grind (arith, nat_tests) in
    let is = sym (of_text c.args.quote _ z p c.as_bytes.ensures.value c.piece_at-piece.ensures.value) ∙ piece-stands z p c.in_default.not-Closes c.in_default.not-Broken in
    rw c.len.ensures (piece-cut c.args.quote z _ (len_of p) c.requires.0 c.requires.1 any c.loop-rest.invariant.0 is)

pub loop-rest-preserved : goal.loop-rest-preserved
loop-rest-preserved c =
    let z = c.loop-rest.rest.now in
    let p = c.piece_at-piece.result in
    let any : 0 < length z = grind (arith, nat_tests) in
    let is = sym (of_text c.args.quote _ z p c.as_bytes.ensures.value c.piece_at-piece.ensures.value) ∙ piece-stands z p c.in_default.not-Closes c.in_default.not-Broken in
    let cut = piece-cut c.args.quote z _ (len_of p) c.requires.0 c.requires.1 any c.loop-rest.invariant.0 is in
    let some : 1 ≤ len_of p = c.piece_at-piece.ensures.within.0 in
    let goes = content-on c.args.quote z (string_bytes c.loop-rest.content) _ p any some is c.loop-rest.invariant.1 in
    let added = c.in_ok-add_piece-in_default.ensures in (
      rw (c.split_at.ensures.back, c.len.ensures) (IsUtf8-drop z (len_of p) c.loop-rest.invariant.0 cut),
      rw (added, c.split_at.ensures.front, c.split_at.ensures.back, c.len.ensures) goes,
    )

pub returns : goal.returns
returns c =
    let z = c.loop-rest.rest.now in
    let none : length z ≡ 0 = grind (arith, nat_tests) in
    built _ (content_from c.args.quote 0 z) _ c.loop-rest.invariant.1 (content-nil c.args.quote z none)
