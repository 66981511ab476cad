-- A sign's tokens stay what they are before whatever doesn't run together with it.
use Rattle.std.proofs.Common.{◌≡◌, ℕ, suc, ◌<◌, ◌^◌, Bool, true, false, not, List, ◌++◌, length, refl, codes, pos, negsuc, arith}
use Rattle.std.specs.List.{list_all}
use Rattle.std.specs.Str.{bytes_eq}
use Rattle.std.proofs.lemmas.Bool.{ltb-true}
use Rattle.std.proofs.lemmas.Slice.Eq.{bytes_eq-Decides}
use Rattle.iso_model.specs.Syntax.Token.{Shown, TokenKind, PunctToken}
use Rattle.iso_model.specs.Syntax.Clauses.{is_end}
use Rattle.iso_model.specs.Syntax.Tokens.{tokens}
use Rattle.iso_model.specs.Syntax.Texts.{is_bare, name_text}
use Rattle.iso_model.proofs.Syntax.PieceTokens.{Sign, Mark, Named, Place, Number, sign_text, is_sound}
use Rattle.iso_model.proofs.Syntax.RunLexemes.{IsLone, IsPair, Stays, lone_tokens, lone_stays, pair_tokens, pair_stays}
use Rattle.iso_model.proofs.Syntax.BareNames.{mark_lone}
use Rattle.iso_model.proofs.Syntax.NameTokens.{name_kind, name_lone, name_some}
use Rattle.iso_model.proofs.Syntax.Digits.{decimal_some}
use Rattle.iso_model.proofs.Syntax.Integers.{integer_lone, negative_pair, place_lone}

pub nil_pair : IsPair PunctToken (codes "[") PunctToken (codes "]")
nil_pair = record { first = mark_lone 91 refl; second = mark_lone 93 refl; between = λ rest. refl; ends = refl }

pub curly_pair : IsPair PunctToken (codes "{") PunctToken (codes "}")
curly_pair = record { first = mark_lone 123 refl; second = mark_lone 125 refl; between = λ rest. refl; ends = refl }

-- whether none of these is an end token
abbrev pub has_no_end : List Shown → Bool
has_no_end ts = list_all (λ t. not (is_end t.kind)) ts

-- The tokens of a text stay what they are, and none is an end token.
record IsSteady (xs : List ℕ) : Type 0 where
  stays : Stays xs
  inner : has_no_end (tokens xs) ≡ true

lone_steady : {kind : TokenKind} {xs : List ℕ} → is_end kind ≡ false → IsLone kind xs → IsSteady xs
lone_steady e h = record { stays = lone_stays h; inner = rw (lone_tokens h) (rw e refl) }

pair_steady : {kind other : TokenKind} {xs ys : List ℕ} → is_end kind ≡ false → is_end other ≡ false → IsPair kind xs other ys → IsSteady (xs ++ ys)
pair_steady e f h = record { stays = pair_stays h; inner = rw (pair_tokens h) (rw (e, f) refl) }

name_inner : (bare : Bool) → is_end (name_kind bare) ≡ false
name_inner true = refl
name_inner false = refl

name_steady : (name : List ℕ) → IsSteady (name_text name)
name_steady name = by (bytes_eq name (codes "[]")) (bytes_eq name (codes "{}")) refl refl
  where
    by : (nil curly : Bool) → bytes_eq name (codes "[]") ≡ nil → bytes_eq name (codes "{}") ≡ curly → IsSteady (name_text name)
    by true curly e d = let is : name ≡ codes "[]" = (bytes_eq-Decides name (codes "[]")).0 e in rw is (pair_steady refl refl nil_pair)
    by false true e d = let is : name ≡ codes "{}" = (bytes_eq-Decides name (codes "{}")).0 d in rw is (pair_steady refl refl curly_pair)
    by false false e d = lone_steady (name_inner (is_bare name)) (name_lone name e d)

sign_steady : (sign : Sign) → is_sound sign ≡ true → IsSteady (sign_text sign)
sign_steady (Mark byte) sound = lone_steady refl (mark_lone byte sound)
sign_steady (Named name) sound = name_steady name
sign_steady (Place number) sound = lone_steady refl (place_lone number)
sign_steady (Number (pos n)) sound = let small : n < 2 ^ 127 = ltb-true n (2 ^ 127) sound in lone_steady refl (integer_lone n (omega arith))
sign_steady (Number (negsuc n)) sound = let small : n < 2 ^ 127 = ltb-true n (2 ^ 127) sound in pair_steady refl refl (negative_pair (suc n) (omega arith))

-- A sign's tokens stay what they are before whatever doesn't run together with it.
pub sign_tokens : (sign : Sign) → is_sound sign ≡ true → Stays (sign_text sign)
sign_tokens sign sound = (sign_steady sign sound).stays

-- none of them is an end token
pub sign_inner : (sign : Sign) → is_sound sign ≡ true → has_no_end (tokens (sign_text sign)) ≡ true
sign_inner sign sound = (sign_steady sign sound).inner

pub sign_some : (sign : Sign) → 0 < length (sign_text sign)
sign_some (Mark byte) = omega arith
sign_some (Named name) = name_some name
sign_some (Place number) = omega arith
sign_some (Number (pos n)) = decimal_some n
sign_some (Number (negsuc n)) = omega arith
