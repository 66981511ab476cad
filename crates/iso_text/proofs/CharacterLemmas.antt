-- The characters of a text, one by one.
use Rattle.std.proofs.Common.{◌≡◌, ℕ, List, [], ◌∷◌, ◌++◌, Some, None, chars, encode_utf8, refl, ap, sym, ◌∙◌, length, arith}
use Rattle.std.proofs.lemmas.Str.{chars-nil, chars_past_char, IsUtf8-past_char}
use Rattle.std.specs.Str.{IsUtf8}
use Rattle.iso_model.specs.Search.AtomTexts.{only_code}

empty_text : (text : List ℕ) → length text ≡ 0 → text ≡ []
empty_text [] h = refl
empty_text (b ∷ text) h = absurd (omega arith)

-- an empty text has no characters
pub no_characters : (text : List ℕ) → length text ≡ 0 → chars text ≡ []
no_characters text none = ap chars (empty_text text none) ∙ chars-nil

-- behind the first character there is nothing
pub one_character : (text rest : List ℕ) (c : ℕ) → IsUtf8 text → text ≡ encode_utf8 c ++ rest → length rest ≡ 0 → Some c ≡ only_code (chars text)
one_character text rest c utf8 splits none =
    sym (ap only_code (chars_past_char text rest c utf8 splits ∙ ap (λ (cs : List ℕ). c ∷ cs) (no_characters rest none)))

-- there is another one
pub two_characters : (text rest others : List ℕ) (c d : ℕ) → IsUtf8 text → text ≡ encode_utf8 c ++ rest → rest ≡ encode_utf8 d ++ others → None ≡ only_code (chars text)
two_characters text rest others c d utf8 splits more =
    sym (ap only_code (chars_past_char text rest c utf8 splits ∙ ap (λ (cs : List ℕ). c ∷ cs) (chars_past_char rest others d (IsUtf8-past_char text rest c utf8 splits) more)))
