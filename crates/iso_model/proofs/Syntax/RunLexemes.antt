-- Texts that are one token before whatever doesn't run together with them: marks, and names and variables that stand bare.
use Rattle.std.proofs.Common.{◌≡◌, ℕ, ◌+◌, ◌<◌, Bool, true, false, ◌||◌, ◌==◌, List, [], ◌∷◌, ◌++◌, length, length-append, slice_index, drop, take_at, drop_at, refl, sym, ap, ◌∙◌, append_assoc, append-nil, add-zero, zero-add, Some, arith}
use Rattle.std.specs.List.{list_all}
use Rattle.std.proofs.lemmas.Bool.{and_parts, or_from, and_right}
use Rattle.iso_model.specs.Syntax.Characters.{is_digit, is_alphanumeric, is_graphic, run}
use Rattle.iso_model.specs.Syntax.Token.{Shown, TokenKind}
use Rattle.iso_model.specs.Syntax.Lexemes.{lexeme}
use Rattle.iso_model.specs.Syntax.Tokens.{tokens, tokens_from}
use Rattle.iso_model.specs.Syntax.Pieces.{run_together, last_byte}
use Rattle.iso_model.proofs.Syntax.TokenLemmas.{tokens-token}
use Rattle.iso_model.proofs.Syntax.PieceTokens.{placed}

-- a run of a class ends before a byte of none
pub run_all : (class : ℕ → Bool) (xs rest : List ℕ) → list_all class xs ≡ true → class (slice_index rest 0) ≡ false → run class (xs ++ rest) ≡ length xs
run_all class [] [] all stops = refl
run_all class [] (b ∷ rest) all stops = rw stops refl
run_all class (x ∷ xs) rest all stops = let parts = and_parts (class x) _ all in rw parts.0 (omega (arith, run_all class xs rest parts.1 stops))

-- the last byte of a text of a class is of it
pub last_of : (class : ℕ → Bool) (xs : List ℕ) → 0 < length xs → list_all class xs ≡ true → class (last_byte xs) ≡ true
last_of class [] some all = absurd (omega arith)
last_of class (b ∷ []) some all = (and_parts (class b) _ all).0
last_of class (b ∷ c ∷ z) some all = last_of class (c ∷ z) (omega arith) (and_parts (class b) _ all).1

-- what doesn't run together with a text
abbrev pub Apart : List ℕ → List ℕ → Type 0
Apart xs rest = run_together (last_byte xs) (slice_index rest 0) ≡ false

-- such a byte runs together with none
pub apart_from : (last first : ℕ) → is_alphanumeric first ≡ false → is_graphic first ≡ false → (first == 39) ≡ false → run_together last first ≡ false
apart_from last first word sign quote =
    or_from _ _ (and_right (is_alphanumeric last) _ word) (or_from _ _ (and_right (is_graphic last) _ sign) (and_right (is_digit last || last == 39) _ quote))

pub apart_nil : (xs : List ℕ) → Apart xs []
apart_nil xs = apart_from (last_byte xs) 0 refl refl refl

-- This text is one token of this kind.
pub record IsLone (kind : TokenKind) (xs : List ℕ) : Type 0 where
  pub some : 0 < length xs
  pub lexes : (rest : List ℕ) → Apart xs rest → lexeme (xs ++ rest) ≡ (Some kind, length xs)

abbrev pub token : TokenKind → List ℕ → ℕ → Bool → Shown
token kind text start after = record { kind = kind; text = text; start = start; after_layout = after }

-- a text that begins with a token
pub first_token : (kind : TokenKind) (xs rest : List ℕ) → 0 < length xs → lexeme (xs ++ rest) ≡ (Some kind, length xs) → (at : ℕ) (after : Bool)
    → tokens_from 0 at after (xs ++ rest) ≡ token kind xs at after ∷ tokens_from 0 (at + length xs) false rest
first_token kind xs rest some is at after =
    tokens-token kind (length xs) at after (xs ++ rest) (omega (arith, length-append xs rest, some)) some is
    ∙ ap (λ x. token kind x at after ∷ tokens_from 0 (at + length xs) false (drop (length xs) (xs ++ rest))) (take_at xs rest (length xs) refl)
    ∙ ap (λ x. token kind xs at after ∷ tokens_from 0 (at + length xs) false x) (drop_at xs rest (length xs) refl)

pub or_nothing : (b : Bool) → b || false ≡ b
or_nothing true = refl
or_nothing false = refl

pub lone_tokens : {kind : TokenKind} {xs : List ℕ} → IsLone kind xs → tokens xs ≡ token kind xs 0 false ∷ []
unfolding tokens_from
lone_tokens {kind = kind} {xs = xs} h =
    ap tokens (sym (append-nil xs)) ∙ first_token kind xs [] h.some (h.lexes [] (apart_nil xs)) 0 false

-- the tokens of this text stay what they are
abbrev pub Stays : List ℕ → Type 0
Stays xs = (rest : List ℕ) → Apart xs rest → (at : ℕ) (after : Bool)
    → tokens_from 0 at after (xs ++ rest) ≡ placed at after (tokens xs) ++ tokens_from 0 (at + length xs) false rest

pub lone_stays : {kind : TokenKind} {xs : List ℕ} → IsLone kind xs → Stays xs
lone_stays {kind = kind} {xs = xs} h rest apart at after =
    rw (lone_tokens h, add-zero at, or_nothing after) (first_token kind xs rest h.some (h.lexes rest apart) at after)

-- A text of two tokens, which don't run together.
pub record IsPair (kind : TokenKind) (xs : List ℕ) (other : TokenKind) (ys : List ℕ) : Type 0 where
  pub first : IsLone kind xs
  pub second : IsLone other ys
  pub between : (rest : List ℕ) → Apart xs (ys ++ rest)
  pub ends : last_byte (xs ++ ys) ≡ last_byte ys

pair_from : {kind other : TokenKind} {xs ys : List ℕ} → IsPair kind xs other ys → (rest : List ℕ) → Apart (xs ++ ys) rest → (at : ℕ) (after : Bool)
    → tokens_from 0 at after ((xs ++ ys) ++ rest) ≡ token kind xs at after ∷ token other ys (at + length xs) false ∷ tokens_from 0 (at + length (xs ++ ys)) false rest
pair_from {kind = kind} {other = other} {xs = xs} {ys = ys} h rest apart at after =
    let place : at + length xs + length ys ≡ at + length (xs ++ ys) = omega (arith, length-append xs ys) in
    ap (tokens_from 0 at after) (append_assoc xs ys rest)
    ∙ first_token kind xs (ys ++ rest) h.first.some (h.first.lexes (ys ++ rest) (h.between rest)) at after
    ∙ ap (λ ts. token kind xs at after ∷ ts) (first_token other ys rest h.second.some (h.second.lexes rest (rw h.ends at apart)) (at + length xs) false)
    ∙ ap (λ k. token kind xs at after ∷ token other ys (at + length xs) false ∷ tokens_from 0 k false rest) place

pub pair_tokens : {kind other : TokenKind} {xs ys : List ℕ} → IsPair kind xs other ys → tokens (xs ++ ys) ≡ token kind xs 0 false ∷ token other ys (length xs) false ∷ []
unfolding tokens_from
pair_tokens {kind = kind} {other = other} {xs = xs} {ys = ys} h =
    ap tokens (sym (append-nil (xs ++ ys))) ∙ pair_from h [] (apart_nil (xs ++ ys)) 0 false
    ∙ ap (λ k. token kind xs 0 false ∷ token other ys k false ∷ []) (zero-add (length xs))

pub pair_stays : {kind other : TokenKind} {xs ys : List ℕ} → IsPair kind xs other ys → Stays (xs ++ ys)
pair_stays {kind = kind} {other = other} {xs = xs} {ys = ys} h rest apart at after =
    rw (pair_tokens h, add-zero at, or_nothing after) (pair_from h rest apart at after)
