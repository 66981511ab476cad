-- How the tokens of pieces begin, by what the first piece is.
use Rattle.std.proofs.Common.{◌≡◌, ℕ, suc, ◌+◌, ◌<◌, ◌^◌, Bool, true, false, ◌||◌, List, [], ◌∷◌, ◌++◌, length, slice_index, refl, sym, ap, ◌∙◌, Some, codes, pos, negsuc, arith}
use Rattle.std.specs.Str.{bytes_eq}
use Rattle.std.specs.Fmt.{decimal, signed_decimal}
use Rattle.std.proofs.lemmas.Bool.Decides.{nat_tests}
use Rattle.iso_model.specs.Syntax.Characters.{is_punctuation}
use Rattle.iso_model.specs.Syntax.Token.{Shown, TokenKind}
use Rattle.iso_model.specs.Syntax.Tokens.{tokens}
use Rattle.iso_model.specs.Syntax.Grammar.{is_direct_integer}
use Rattle.iso_model.specs.Syntax.Texts.{name_text}
use Rattle.iso_model.specs.Syntax.Pieces.{Piece, run_together, last_byte}
use Rattle.iso_model.proofs.Syntax.PieceTokens.{AreTokens, placed, shown_pieces, is_parted, start_behind, Begins, BeginsTwice, IsMarkToken, IsNameToken, IsPlaceToken, IsCountToken, IsSignToken}
use Rattle.iso_model.proofs.Syntax.RunLexemes.{IsLone, IsPair, token, lone_tokens, pair_tokens, or_nothing, apart_from}
use Rattle.iso_model.proofs.Syntax.BareNames.{mark_lone}
use Rattle.iso_model.proofs.Syntax.NameTokens.{name_lone, name_content}
use Rattle.iso_model.proofs.Syntax.Integers.{integer_lone, negative_pair, place_lone, decimal_magnitude}
use Rattle.iso_model.proofs.Syntax.SignTokens.{nil_pair, curly_pair}

abbrev pub spaced_piece : List ℕ → Bool → Piece
spaced_piece text spaced = record { text = text; spaced = spaced }

-- whether layout stands before a piece behind some text
abbrev Parts : List ℕ → Bool → Bool → Type 0
Parts text spaced parted = (before : List ℕ) × (is_parted before (spaced_piece text spaced) ≡ parted)

lone_first : {kind : TokenKind} {xs : List ℕ} → IsLone kind xs → (Holds : Shown → Type 0) (spaced : Bool) (ps : List Piece) (ts : List Shown) → AreTokens (spaced_piece xs spaced ∷ ps) ts
    → ((start : ℕ) (parted : Bool) → Parts xs spaced parted → Holds (token kind xs start parted)) → Begins Holds ps ts
lone_first {kind = kind} {xs = xs} h Holds spaced ps ts are holds =
    let parted = is_parted are.before (spaced_piece xs spaced) in
    let start = start_behind are.at parted in
    let others = shown_pieces (start + length xs) xs ps in
    record {
      first = token kind xs (start + 0) parted;
      others = others;
      is = are.are ∙ ap (λ x. placed start parted x ++ others) (lone_tokens h) ∙ ap (λ x. token kind xs (start + 0) x ∷ others) (or_nothing parted);
      holds = holds (start + 0) parted (are.before, refl);
      tokens = record { at = start + length xs; before = xs; are = refl };
    }

pair_first : {kind other : TokenKind} {xs ys : List ℕ} → IsPair kind xs other ys → (Holds Follows : Shown → Type 0) (spaced : Bool) (ps : List Piece) (ts : List Shown) → AreTokens (spaced_piece (xs ++ ys) spaced ∷ ps) ts
    → ((start : ℕ) (parted : Bool) → Parts (xs ++ ys) spaced parted → Holds (token kind xs start parted)) → ((start : ℕ) → Follows (token other ys start false)) → BeginsTwice Holds Follows ps ts
pair_first {kind = kind} {other = other} {xs = xs} {ys = ys} h Holds Follows spaced ps ts are holds follows =
    let text = xs ++ ys in
    let parted = is_parted are.before (spaced_piece text spaced) in
    let start = start_behind are.at parted in
    let others = shown_pieces (start + length text) text ps in
    record {
      first = token kind xs (start + 0) parted;
      second = token other ys (start + length xs) false;
      others = others;
      is = are.are ∙ ap (λ x. placed start parted x ++ others) (pair_tokens h) ∙ ap (λ x. token kind xs (start + 0) x ∷ token other ys (start + length xs) false ∷ others) (or_nothing parted);
      holds = holds (start + 0) parted (are.before, refl);
      follows = follows (start + length xs);
      tokens = record { at = start + length text; before = text; are = refl };
    }

-- a mark runs together with nothing
mark_apart : (last byte : ℕ) → is_punctuation byte ≡ true → run_together last byte ≡ false
mark_apart last byte h = apart_from last byte (grind (arith, nat_tests)) (grind (arith, nat_tests)) (grind (arith, nat_tests))

-- so layout stands before it where it is marked so alone
mark_parts : (byte : ℕ) (z : List ℕ) → is_punctuation byte ≡ true → (spaced parted : Bool) → Parts (byte ∷ z) spaced parted → parted ≡ spaced
mark_parts byte z h spaced parted p = sym p.1 ∙ ap (λ x. spaced || x) (mark_apart (last_byte p.0) byte h) ∙ or_nothing spaced

pub mark_first : (byte : ℕ) → is_punctuation byte ≡ true → (spaced : Bool) (ps : List Piece) (ts : List Shown) → AreTokens (spaced_piece (byte ∷ []) spaced ∷ ps) ts → Begins (IsMarkToken byte spaced) ps ts
mark_first byte h spaced ps ts tokens =
    lone_first (mark_lone byte h) (IsMarkToken byte spaced) spaced ps ts tokens (λ start parted p. record { kind = refl; text = refl; layout = mark_parts byte [] h spaced parted p })

pub name_first : (name : List ℕ) → bytes_eq name (codes "[]") ≡ false → bytes_eq name (codes "{}") ≡ false → (spaced : Bool) (ps : List Piece) (ts : List Shown) → AreTokens (spaced_piece (name_text name) spaced ∷ ps) ts → Begins (IsNameToken name) ps ts
name_first name a b spaced ps ts tokens =
    lone_first (name_lone name a b) (IsNameToken name) spaced ps ts tokens (λ start parted p. record { kind = refl; content = name_content name })

pub nil_first : (spaced : Bool) (ps : List Piece) (ts : List Shown) → AreTokens (spaced_piece (codes "[]") spaced ∷ ps) ts → BeginsTwice (IsMarkToken 91 spaced) (IsMarkToken 93 false) ps ts
nil_first spaced ps ts tokens =
    pair_first nil_pair (IsMarkToken 91 spaced) (IsMarkToken 93 false) spaced ps ts tokens
    (λ start parted p. record { kind = refl; text = refl; layout = mark_parts 91 (codes "]") refl spaced parted p }) (λ start. record { kind = refl; text = refl; layout = refl })

pub curly_first : (spaced : Bool) (ps : List Piece) (ts : List Shown) → AreTokens (spaced_piece (codes "{}") spaced ∷ ps) ts → BeginsTwice (IsMarkToken 123 spaced) (IsMarkToken 125 false) ps ts
curly_first spaced ps ts tokens =
    pair_first curly_pair (IsMarkToken 123 spaced) (IsMarkToken 125 false) spaced ps ts tokens
    (λ start parted p. record { kind = refl; text = refl; layout = mark_parts 123 (codes "}") refl spaced parted p }) (λ start. record { kind = refl; text = refl; layout = refl })

pub place_first : (number : ℕ) (spaced : Bool) (ps : List Piece) (ts : List Shown) → AreTokens (spaced_piece (95 ∷ decimal number) spaced ∷ ps) ts → Begins (IsPlaceToken number) ps ts
place_first number spaced ps ts tokens =
    lone_first (place_lone number) (IsPlaceToken number) spaced ps ts tokens (λ start parted p. record { kind = refl; text = refl })

marked_parts : (text : List ℕ) (spaced parted : Bool) → Parts text spaced parted → spaced ≡ true → parted ≡ true
marked_parts text spaced parted p e = sym p.1 ∙ ap (λ x. x || run_together (last_byte p.0) (slice_index text 0)) e

pub count_first : (number : ℕ) → number < 2 ^ 127 → (spaced : Bool) (ps : List Piece) (ts : List Shown) → AreTokens (spaced_piece (signed_decimal (pos number)) spaced ∷ ps) ts
    → Begins (λ t. IsCountToken number t × (spaced ≡ true → t.after_layout ≡ true)) ps ts
count_first number small spaced ps ts tokens =
    lone_first (integer_lone number (omega arith)) (λ t. IsCountToken number t × (spaced ≡ true → t.after_layout ≡ true)) spaced ps ts tokens
    (λ start parted p. (record { kind = refl; magnitude = decimal_magnitude number (omega arith) }, marked_parts (decimal number) spaced parted p))

-- `negsuc n` is the integer -(n + 1)
pub negative_first : (number : ℕ) → number < 2 ^ 127 → (spaced : Bool) (ps : List Piece) (ts : List Shown) → AreTokens (spaced_piece (signed_decimal (negsuc number)) spaced ∷ ps) ts
    → BeginsTwice IsSignToken (λ t. IsCountToken (number + 1) t × (is_direct_integer t ≡ true)) ps ts
negative_first number small spaced ps ts tokens =
    let same : suc number ≡ number + 1 = omega arith in
    pair_first (negative_pair (suc number) (omega arith)) IsSignToken (λ t. IsCountToken (number + 1) t × (is_direct_integer t ≡ true)) spaced ps ts tokens
    (λ start parted p. record { kind = refl; content = refl })
    (λ start. (record { kind = refl; magnitude = decimal_magnitude (suc number) (omega arith) ∙ ap Some same }, refl))
