-- A text begins with another one where its characters do.
use Rattle.std.proofs.Common.{◌≡◌, ℕ, List, ◌++◌, length, take, drop, chars, ap, refl, sym, ◌∙◌, Bool}
use Rattle.std.proofs.lemmas.List.{take-append-drop, take_at}
use Rattle.std.proofs.lemmas.Bool.Decides.{same_from_decides, Decides-like}
use Rattle.std.proofs.lemmas.Slice.Eq.{bytes_eq-Decides}
use Rattle.std.proofs.lemmas.Str.{chars-append, encodes-append, encodes-chars}
use Rattle.std.specs.Str.{IsUtf8, bytes_eq, encode_utf8_all}

bytes_from : (a text : List ℕ) → IsUtf8 a → a ≡ take (length a) text → a ≡ encode_utf8_all (take (length (chars a)) (chars text))
bytes_from a text utf8 begins =
    let splits : text ≡ a ++ drop (length a) text = sym (take-append-drop (length a) text) ∙ ap (λ (bs : List ℕ). bs ++ drop (length a) text) (sym begins) in
    let characters = ap chars splits ∙ chars-append a (drop (length a) text) utf8 in
    sym (encodes-chars a utf8)
    ∙ ap encode_utf8_all (sym (ap (take (length (chars a))) characters ∙ take_at (chars a) (chars (drop (length a) text)) (length (chars a)) refl))

characters_from : (a text : List ℕ) → IsUtf8 text → a ≡ encode_utf8_all (take (length (chars a)) (chars text)) → a ≡ take (length a) text
characters_from a text utf8 begins =
    let k = length (chars a) in
    let cs = chars text in
    let others = encode_utf8_all (drop k cs) in
    let splits : text ≡ a ++ others =
    sym (encodes-chars text utf8) ∙ ap encode_utf8_all (sym (take-append-drop k cs)) ∙ encodes-append (take k cs) (drop k cs) ∙ ap (λ (bs : List ℕ). bs ++ others) (sym begins) in
    sym (ap (take (length a)) splits ∙ take_at a others (length a) refl)

pub begins_same : (r : Bool) (a text : List ℕ) → IsUtf8 a → IsUtf8 text → r ≡ bytes_eq a (take (length a) text) → r ≡ bytes_eq a (encode_utf8_all (take (length (chars a)) (chars text)))
begins_same r a text utf8-a utf8 is =
    let first = take (length a) text in
    let characters = encode_utf8_all (take (length (chars a)) (chars text)) in
    is ∙ same_from_decides (bytes_eq a first) (bytes_eq a characters)
    (Decides-like {P = a ≡ first} {Q = a ≡ characters} (bytes_eq a first) (bytes_from a text utf8-a) (characters_from a text utf8) (bytes_eq-Decides a first)) (bytes_eq-Decides a characters)
