-- Comments and quoted items that have no end.
use Rattle.std.proofs.Common.{◌≡◌, ℕ, zero, suc, ◌<◌, ◌≤◌, ◌⊎◌, inl, inr, length, ◌+◌, Bool, true, false, ◌&&◌, ◌==◌, if◌then◌else◌, List, [], ◌∷◌, drop, drop-drop, add_comm, is_some, true≢false, slice_index, Option, Some, None, option_map, refl, sym, ap, ◌∙◌, arith}
use Rattle.iso_model.specs.Syntax.Lexemes.{comment_len}
use Rattle.iso_model.specs.Syntax.Token.{TokenKind, QuotedToken, DoubleToken, BadToken}
use Rattle.iso_model.specs.Syntax.Quoted.{Stands, piece_at, item_len}
use Rattle.iso_model.proofs.Syntax.QuotedLemmas.{item-stands}
use Rattle.std.proofs.lemmas.List.{length-drop}
use Rattle.std.specs.Option.{option_map_or}
use Rattle.iso_model.specs.Syntax.Characters.{is_layout, character_len}
use Rattle.iso_model.specs.Syntax.Lexemes as lexemes
use Rattle.iso_model.specs.Syntax.Lexemes.{bad_character, quoted, commented, symbol, lexeme}
use Rattle.iso_model.proofs.Syntax.LexemeLemmas.{BeginsSymbol, lexeme-symbol}
use Rattle.iso_token.specs.declared.lexemes.Lexeme.{Lexeme}
use Rattle.iso_token.specs.declared.kinds.Kind.{Kind}
use Rattle.iso_token.specs.Shows.{kind_of, lexeme_of}

none_behind : (b : Bool) (o : Option ℕ) → (if b then Some 2 else option_map suc o) ≡ None → o ≡ None
none_behind true o h = cc
none_behind false None h = refl
none_behind false (Some n) h = cc

-- where no end comes, none comes later
pub no_end : (n : ℕ) (text : List ℕ) → comment_len text ≡ None → comment_len (drop n text) ≡ None
no_end zero text h = h
no_end (suc n) [] h = refl
no_end (suc n) (b ∷ text) h = no_end n text (none_behind (b == 42 && slice_index text 0 == 47) (comment_len text) h)

pub no_end_behind : (n : ℕ) (text : List ℕ) → comment_len (drop 1 text) ≡ None → comment_len (drop 1 (drop n text)) ≡ None
no_end_behind n text h = ap comment_len (drop-drop 1 n text ∙ ap (λ k. drop k text) (add_comm n 1) ∙ sym (drop-drop n 1 text)) ∙ no_end n (drop 1 text) h

pub no_end_later : (text : List ℕ) → comment_len (drop 1 text) ≡ None → comment_len (drop 2 text) ≡ None
no_end_later [] h = refl
no_end_later (b ∷ text) h = no_end 1 text h

-- what begins with `/*`
commented-is : (z : List ℕ) → slice_index z 0 ≡ 47 → slice_index z 1 ≡ 42 → lexeme z ≡ commented z
commented-is z slash star =
    let layout : is_layout (slice_index z 0) ≡ false = rw slash refl in
    let begins : BeginsSymbol (slice_index z 0) = rw slash (record { percent = refl; small = refl; variable = refl; digit = refl; single = refl; double = refl }) in
    lexeme-symbol z layout begins ∙ rw (slash, star) refl

one_byte : (z : List ℕ) → slice_index z 1 ≡ 42 → character_len z ≡ 1
one_byte [] star = refl
one_byte (a ∷ []) star = refl
one_byte (a ∷ b ∷ z) star = rw star refl

no_kind : (k : Option Kind) → option_map kind_of k ≡ None → is_some k ≡ true → ⊥
no_kind None e some = true≢false (sym some)
no_kind (Some k) e some = none_of e
  where
    none_of : Some (kind_of k) ≡ None → ⊥
    none_of e = cc

-- a `/*` that is a bad character has no end
pub open_lexeme : (l : Lexeme) (z : List ℕ) → slice_index z 0 ≡ 47 → slice_index z 1 ≡ 42 → lexeme_of l ≡ lexeme z → is_some l.kind ≡ true → comment_len (drop 1 (drop l.len z)) ≡ None
open_lexeme l z slash star value some = by (comment_len (drop 2 z)) refl
  where
    value_of : lexeme_of l ≡ commented z
    value_of = value ∙ commented-is z slash star

    by : (o : Option ℕ) → comment_len (drop 2 z) ≡ o → comment_len (drop 1 (drop l.len z)) ≡ None
    by None none =
        let is : lexeme_of l ≡ bad_character z = value_of ∙ ap (λ o. option_map_or (λ n. (None, 2 + n)) o (bad_character z)) none in
        let one : l.len ≡ 1 = ap (λ (x : lexemes.Lexeme). x.1) is ∙ one_byte z star in
        rw one (ap comment_len (drop-drop 1 1 z) ∙ none)
    by (Some n) end =
        let is : lexeme_of l ≡ (None, 2 + n) = value_of ∙ ap (λ o. option_map_or (λ n. (None, 2 + n)) o (bad_character z)) end in
        absurd (no_kind l.kind (ap (λ (x : lexemes.Lexeme). x.0) is) some)

-- an item that isn't closed goes on behind each of its pieces
pub open_on : (q at len : ℕ) (z content : List ℕ) → at < length z → 1 ≤ len → piece_at q (drop at z) ≡ Stands content len → item_len q (drop at z) ≡ None → item_len q (drop (at + len) z) ≡ None
open_on q at len z content within some is h =
    let any : 0 < length (drop at z) = omega (arith, length-drop at z) in
    let on = none_on len (item_len q (drop len (drop at z))) (sym (item-stands q (drop at z) content len any some is) ∙ h) in
    ap (item_len q) (sym (drop-drop len at z)) ∙ on
  where
    none_on : (n : ℕ) (o : Option ℕ) → option_map (λ k. n + k) o ≡ None → o ≡ None
    none_on n None h = refl
    none_on n (Some k) h = cc

single-is : (z : List ℕ) → slice_index z 0 ≡ 39 → lexeme z ≡ quoted QuotedToken 39 z
unfolding lexeme
single-is z is = rw is refl

double-is : (z : List ℕ) → slice_index z 0 ≡ 34 → lexeme z ≡ quoted DoubleToken 34 z
unfolding lexeme
double-is z is = rw is refl

no_item : (kind : TokenKind) (o : Option ℕ) (bad : lexemes.Lexeme) (n : ℕ) → (kind ≡ BadToken → ⊥) → (Some BadToken, n) ≡ option_map_or (λ k. (Some kind, 1 + k)) o bad → o ≡ None
no_item kind None bad n other is = refl
no_item kind (Some k) bad n other is =
    let same : Some BadToken ≡ Some kind = ap (λ (x : lexemes.Lexeme). x.0) is in
    absurd (other (cc))

-- a quote that is a bad character opens no item
pub open_item : (q : ℕ) (z : List ℕ) (n : ℕ) → (q ≡ 39) ⊎ (q ≡ 34) → slice_index z 0 ≡ q → lexeme z ≡ (Some BadToken, n) → item_len q (drop 1 z) ≡ None
open_item q z n (inl e) first is = rw e (no_item QuotedToken (item_len 39 (drop 1 z)) (bad_character z) n (λ h. absurd (cc)) (sym is ∙ single-is z (first ∙ e)))
open_item q z n (inr e) first is = rw e (no_item DoubleToken (item_len 34 (drop 1 z)) (bad_character z) n (λ h. absurd (cc)) (sym is ∙ double-is z (first ∙ e)))
