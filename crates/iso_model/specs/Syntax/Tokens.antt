-- The tokens of a text (ISO/IEC 13211-1:1995, 6.4): each is the longest that fits where the one before it ends.
use Rattle.std.specs.Prelude.{ℕ, zero, suc, ◌+◌, ◌-◌, Bool, true, false, List, [], ◌∷◌, take, Some, None}
use Rattle.iso_model.specs.Syntax.Token.{Shown}
use Rattle.iso_model.specs.Syntax.Lexemes.{Lexeme, lexeme}

-- The tokens of a text with this lexeme at its front, which begins at this place, behind layout or not. `others`
-- gives those behind so many further bytes.
abbrev pub tokens_by : ℕ → Bool → List ℕ → Lexeme → (ℕ → Bool → List Shown) → List Shown
tokens_by at after text (None, n) others = others (n - 1) true
tokens_by at after text (Some k, n) others = record { kind = k; text = take n text; start = at; after_layout = after } ∷ others (n - 1) false

-- The tokens of a text that begins at this place, behind layout or not, where so many of its first bytes are
-- still part of the lexeme before.
unfoldable pub tokens_from : ℕ → ℕ → Bool → List ℕ → List Shown
tokens_from left at after [] = []
tokens_from (suc left) at after (byte ∷ text) = tokens_from left (at + 1) after text
tokens_from zero at after (byte ∷ text) = tokens_by at after (byte ∷ text) (lexeme (byte ∷ text)) (λ left now. tokens_from left (at + 1) now text)

-- the tokens of a text
abbrev pub tokens : List ℕ → List Shown
tokens text = tokens_from 0 0 false text
