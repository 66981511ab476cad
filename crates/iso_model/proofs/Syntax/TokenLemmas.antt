-- The tokens of a text, a lexeme at a time.
use Rattle.std.proofs.Common.{◌≡◌, ℕ, zero, suc, ◌+◌, ◌-◌, ◌<◌, ◌≤◌, Bool, true, false, List, [], ◌∷◌, length, take, drop, refl, sym, ap, ◌∙◌, arith, Some, None}
use Rattle.iso_model.specs.Syntax.Token.{TokenKind}
use Rattle.iso_model.specs.Syntax.Lexemes.{lexeme}
use Rattle.iso_model.specs.Syntax.Tokens.{tokens_from}

-- the bytes that are left of a lexeme are passed over
tokens_from-drop : (n at : ℕ) (after : Bool) (z : List ℕ) → tokens_from n at after z ≡ tokens_from 0 (at + n) after (drop n z)
unfolding tokens_from
tokens_from-drop zero at after z = let e : at + 0 ≡ at = omega arith in ap (λ k. tokens_from 0 k after z) (sym e)
tokens_from-drop (suc n) at after [] = refl
tokens_from-drop (suc n) at after (b ∷ z) =
    let e : at + 1 + n ≡ at + suc n = omega arith in tokens_from-drop n (at + 1) after z ∙ ap (λ k. tokens_from 0 k after (drop n z)) e

drop-cons : (n b : ℕ) (z : List ℕ) → 1 ≤ n → drop (n - 1) z ≡ drop n (b ∷ z)
drop-cons zero b z h = absurd (omega arith)
drop-cons (suc n) b z h = let e : suc n - 1 ≡ n = omega arith in ap (λ k. drop k z) e

-- what stands behind a lexeme of this length
behind : (n at b : ℕ) (now : Bool) (z : List ℕ) → 1 ≤ n → tokens_from (n - 1) (at + 1) now z ≡ tokens_from 0 (at + n) now (drop n (b ∷ z))
behind n at b now z h =
    let e : at + 1 + (n - 1) ≡ at + n = omega arith in
    tokens_from-drop (n - 1) (at + 1) now z ∙ ap (λ k. tokens_from 0 k now (drop (n - 1) z)) e ∙ ap (tokens_from 0 (at + n) now) (drop-cons n b z h)

-- a text that begins with layout has the tokens of what stands behind it
pub tokens-layout : (n at : ℕ) (after : Bool) (z : List ℕ) → 0 < length z → 1 ≤ n → lexeme z ≡ (None, n) → tokens_from 0 at after z ≡ tokens_from 0 (at + n) true (drop n z)
unfolding tokens_from
tokens-layout n at after [] some moves is = absurd (omega arith)
tokens-layout n at after (b ∷ z) some moves is = rw is (behind n at b true z moves)

-- a text that begins with a token has it before those of what stands behind it
pub tokens-token : (k : TokenKind) (n at : ℕ) (after : Bool) (z : List ℕ) → 0 < length z → 1 ≤ n → lexeme z ≡ (Some k, n)
    → tokens_from 0 at after z ≡ record { kind = k; text = take n z; start = at; after_layout = after } ∷ tokens_from 0 (at + n) false (drop n z)
unfolding tokens_from
tokens-token k n at after [] some moves is = absurd (omega arith)
tokens-token k n at after (b ∷ z) some moves is =
    rw is (ap (λ ts. record { kind = k; text = take n (b ∷ z); start = at; after_layout = after } ∷ ts) (behind n at b false z moves))

-- a text that is empty has none
pub tokens-nil : (at : ℕ) (after : Bool) (z : List ℕ) → length z ≡ 0 → tokens_from 0 at after z ≡ []
unfolding tokens_from
tokens-nil at after [] none = refl
tokens-nil at after (b ∷ z) none = absurd (omega arith)
