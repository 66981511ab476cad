use Rattle.std.proofs.Common.{◌≡◌, ℕ, List, drop, ap, false, ◌<◌, length, sym, ◌∙◌, subst, IsUtf8, IsCharBoundary, arith}
use Rattle.std.proofs.lemmas.Bool.Decides.{nat_tests}
use Rattle.iso_model.proofs.Syntax.LexemeLemmas.{lexeme-cut}
use Rattle.iso_model.proofs.Syntax.TokenLemmas.{tokens-nil, tokens-layout, tokens-token}
use Rattle.iso_token.specs.declared.known.Known.{Known}
use Rattle.iso_token.specs.Known.{IsKnown}
use Rattle.iso_token.specs.Shows.{kind_of}
use Rattle.iso_token.proofs.ShowsLemmas.{lexeme_some, lexeme_none, lexeme_len}
use Rattle.iso_token.proofs.cursor.Tokens.next.Goals as goal

-- what is known of the bytes is known of the text
known_later : (known : Known) (n : ℕ) (bytes z rest : List ℕ) → bytes ≡ z → rest ≡ drop n z → IsKnown known (drop n bytes) → IsKnown known rest
known_later known n bytes z rest same back h = subst (IsKnown known) (ap (drop n) same ∙ sym back) h

pub split_at-requires : goal.split_at-requires
split_at-requires c =
    let z = c.loop-self.self-inside.rest.now in
    let l = c.first_lexeme-lexeme in
    let bytes = c.as_bytes-bytes.ensures in
    let some : 0 < length z = grind (arith, nat_tests) in
    let end = lexeme_len l.result _ z l.ensures.value bytes.value in
    subst (IsCharBoundary z) end (lexeme-cut z (subst IsUtf8 bytes.value bytes.utf8) some)

pub returns-in-Some : goal.returns-in-Some
returns-in-Some c =
    let z = c.loop-self.self-inside.rest.now in
    let l = c.first_lexeme-lexeme in
    let some : 0 < length z = grind (arith, nat_tests) in
    let is = lexeme_some l.result c.in-Some.kind _ z l.ensures.value c.as_bytes-bytes.ensures.value c.in-Some.is in
    let goes = tokens-token (kind_of c.in-Some.kind) l.result.len c.loop-self.self-inside.start c.loop-self.after_layout z some l.ensures.within.0 is in
    rw (c.split_at.ensures.front, c.split_at.ensures.back) (sym c.loop-self.invariant.0 ∙ goes)

pub loop-self-preserved : goal.loop-self-preserved
loop-self-preserved c =
    let z = c.loop-self.self-inside.rest.now in
    let l = c.first_lexeme-lexeme in
    let some : 0 < length z = grind (arith, nat_tests) in
    let is = lexeme_none l.result _ z l.ensures.value c.as_bytes-bytes.ensures.value c.in-None.is in
    let goes = tokens-layout l.result.len c.loop-self.self-inside.start c.loop-self.after_layout z some l.ensures.within.0 is in (
      rw c.split_at.ensures.back (sym goes ∙ c.loop-self.invariant.0),
      omega arith,
      known_later _ _ _ z _ c.as_bytes-bytes.ensures.value c.split_at.ensures.back c.known_behind-known.ensures,
    )

pub returns : goal.returns
returns c =
    let rest = c.loop-self.self-inside in
    let none : length rest.rest.now ≡ 0 = grind (arith, nat_tests) in
    (sym c.loop-self.invariant.0 ∙ tokens-nil rest.start c.loop-self.after_layout rest.rest.now none, tokens-nil rest.start false rest.rest.now none)

pub invariant_of-self-in-Some : goal.invariant_of-self-in-Some
invariant_of-self-in-Some c =
    let z = c.loop-self.self-inside.rest.now in
    (omega arith, known_later _ _ _ z _ c.as_bytes-bytes.ensures.value c.split_at.ensures.back c.known_behind-known.ensures)
