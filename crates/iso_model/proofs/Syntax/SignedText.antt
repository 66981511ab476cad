-- The tokens of the text of signs are those of the signs.
use Rattle.std.proofs.Common.{◌≡◌, ℕ, ◌+◌, ◌<◌, Bool, true, false, not, ◌&&◌, if◌then◌else◌, List, [], ◌∷◌, ◌++◌, length, slice_index, refl, sym, ap, ◌∙◌, append_assoc, Some, option_map, codes, arith}
use Rattle.std.proofs.lemmas.Bool.{cond_both, or_parts, and_from, and_parts, not-true}
use Rattle.std.proofs.lemmas.List.Folds.{list_all-append}
use Rattle.std.proofs.lemmas.List.{get_or_append_left}
use Rattle.iso_model.specs.Syntax.Token.{Shown, EndToken}
use Rattle.iso_model.specs.Syntax.Clauses.{is_end, behind_token, split_clause}
use Rattle.iso_model.specs.Syntax.Lexemes.{lexeme}
use Rattle.iso_model.specs.Syntax.Tokens.{tokens, tokens_from}
use Rattle.iso_model.specs.Syntax.Pieces.{Piece, run_together, last_byte, parted, pieces_behind, pieces_text}
use Rattle.iso_model.proofs.Syntax.TokenLemmas.{tokens-layout, tokens-token}
use Rattle.iso_model.proofs.Syntax.PieceTokens.{placed, shown_pieces, is_parted, start_behind, IsSigned, AreSigned, none_left, one_more}
use Rattle.iso_model.proofs.Syntax.RunLexemes.{apart_from}
use Rattle.iso_model.proofs.Syntax.SignTokens.{has_no_end, sign_some, sign_tokens, sign_inner}

-- layout runs together with nothing
layout_apart : (b : ℕ) → run_together b 32 ≡ false
layout_apart b = apart_from b 32 refl refl refl

abbrev stop : List ℕ
stop = codes " ."

-- what stands behind signs' text doesn't run together with it
behind_apart : (before : List ℕ) (ps : List Piece) → AreSigned ps → run_together (last_byte before) (slice_index (pieces_behind before ps ++ stop) 0) ≡ false
behind_apart before [] none_left = layout_apart (last_byte before)
behind_apart before (p ∷ ps) (one_more s signed) =
    let more = pieces_behind p.text ps in
    let some : 0 < length p.text = rw s.text (sign_some s.sign) in
    cond_both (is_parted before p) (32 ∷ p.text) p.text (λ x. run_together (last_byte before) (slice_index ((x ++ more) ++ stop) 0) ≡ false)
    (λ _. layout_apart (last_byte before))
    (λ h. rw (append_assoc p.text more stop, get_or_append_left p.text (more ++ stop) 0 0 some) (or_parts p.spaced _ h).1)

-- The tokens of signs' text behind this text, with an end token behind it.
record HasTokensFrom (at : ℕ) (before : List ℕ) (ps : List Piece) : Type 0 where
  last : Shown
  ends : last.kind ≡ EndToken
  are : tokens_from 0 at false (pieces_behind before ps ++ stop) ≡ shown_pieces at before ps ++ last ∷ []

stop_tokens : (at : ℕ) (before : List ℕ) → HasTokensFrom at before []
unfolding lexeme tokens_from
stop_tokens at before = record {
  last = record { kind = EndToken; text = codes "."; start = at + 1; after_layout = true };
  ends = refl;
  are = tokens-layout 1 at false stop (omega arith) (omega arith) refl ∙ tokens-token EndToken 1 (at + 1) true (codes ".") (omega arith) (omega arith) refl;
}

space_passed : (at : ℕ) (rest : List ℕ) → tokens_from 0 at false (32 ∷ rest) ≡ tokens_from 0 (at + 1) true rest
unfolding lexeme
space_passed at rest = tokens-layout 1 at false (32 ∷ rest) (omega arith) (omega arith) refl

-- a space before a piece is passed over
parted_tokens : (at : ℕ) (before : List ℕ) (p : Piece) (rest : List ℕ)
    → tokens_from 0 at false (parted before p ++ rest) ≡ tokens_from 0 (start_behind at (is_parted before p)) (is_parted before p) (p.text ++ rest)
parted_tokens at before p rest = by (is_parted before p)
  where
    by : (b : Bool) → tokens_from 0 at false ((if b then 32 ∷ p.text else p.text) ++ rest) ≡ tokens_from 0 (start_behind at b) b (p.text ++ rest)
    by true = space_passed at (p.text ++ rest)
    by false = refl

-- the same of a piece
pub piece_tokens : (p : Piece) → IsSigned p → (rest : List ℕ) → run_together (last_byte p.text) (slice_index rest 0) ≡ false → (at : ℕ) (after : Bool)
    → tokens_from 0 at after (p.text ++ rest) ≡ placed at after (tokens p.text) ++ tokens_from 0 (at + length p.text) false rest
piece_tokens p s rest apart at after = rw s.text (sign_tokens s.sign s.sound rest (rw (← s.text) apart) at after)

signed_from : (at : ℕ) (before : List ℕ) (ps : List Piece) → AreSigned ps → HasTokensFrom at before ps
signed_from at before [] none_left = stop_tokens at before
signed_from at before (p ∷ ps) (one_more s signed) =
    let b = is_parted before p in
    let start = start_behind at b in
    let rest = pieces_behind p.text ps ++ stop in
    let others = signed_from (start + length p.text) p.text ps signed in
    let first = piece_tokens p s rest (behind_apart p.text ps signed) start b in
    record {
      last = others.last;
      ends = others.ends;
      are = ap (tokens_from 0 at false) (append_assoc (parted before p) (pieces_behind p.text ps) stop) ∙ parted_tokens at before p rest ∙ first
          ∙ ap (λ ts. placed start b (tokens p.text) ++ ts) others.are
          ∙ sym (append_assoc (placed start b (tokens p.text)) (shown_pieces (start + length p.text) p.text ps) (others.last ∷ []));
    }

-- The tokens of the text of signs, with a space and an end token behind it.
pub record HasTokens (ps : List Piece) : Type 0 where
  pub last : Shown
  pub ends : last.kind ≡ EndToken
  pub are : tokens (pieces_text ps ++ codes " .") ≡ shown_pieces 0 [] ps ++ last ∷ []

pub signed_tokens : (ps : List Piece) → AreSigned ps → HasTokens ps
signed_tokens ps signed = let h = signed_from 0 [] ps signed in record { last = h.last; ends = h.ends; are = h.are }

placed-inner : (at : ℕ) (after : Bool) (ts : List Shown) → has_no_end (placed at after ts) ≡ has_no_end ts
placed-inner at after [] = refl
placed-inner at after (t ∷ ts) = ap (λ b. not (is_end t.kind) && b) (placed-inner at false ts)

-- none of the tokens of signs is an end token
pub pieces_inner : (at : ℕ) (before : List ℕ) (ps : List Piece) → AreSigned ps → has_no_end (shown_pieces at before ps) ≡ true
pieces_inner at before [] none_left = refl
pieces_inner at before (p ∷ ps) (one_more s signed) =
    let b = is_parted before p in
    let start = start_behind at b in
    let first : has_no_end (tokens p.text) ≡ true = rw s.text (sign_inner s.sign s.sound) in
    list_all-append (λ t. not (is_end t.kind)) (placed start b (tokens p.text)) (shown_pieces (start + length p.text) p.text ps)
    ∙ and_from _ _ (placed-inner start b (tokens p.text) ∙ first) (pieces_inner (start + length p.text) p.text ps signed)

-- they are the next clause before an end token
pub splits_there : (ts : List Shown) (last : Shown) → has_no_end ts ≡ true → last.kind ≡ EndToken → split_clause (ts ++ last ∷ []) ≡ Some (ts, [])
splits_there [] last inner ends = rw ends refl
splits_there (t ∷ ts) last inner ends =
    let parts = and_parts (not (is_end t.kind)) _ inner in rw (not-true _ parts.0) (ap (option_map (behind_token t)) (splits_there ts last parts.1 ends))
