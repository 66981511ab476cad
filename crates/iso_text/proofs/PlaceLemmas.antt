-- Places in a text, counted in characters and in bytes.
use Rattle.std.proofs.Common.{◌≡◌, ℕ, ◌+◌, List, [], ◌∷◌, ◌++◌, length, take, drop, chars, encode_utf8, refl, ap, sym, subst, ◌∙◌, append_assoc, append-nil, arith}
use Rattle.std.proofs.lemmas.List.{length-append, take_at, drop_at}
use Rattle.std.proofs.lemmas.Str.{encodes-append, encodes-chars, chars_from_encodes, cons_from_encodes, IsUtf8-past_char, IsCharBoundary-at_seam}
use Rattle.std.specs.Str.{IsUtf8, IsCharBoundary, encode_utf8_all}
use Rattle.iso_text.proofs.CharacterLemmas.{no_characters}

-- So many characters, and so many bytes, stand before the rest of the text.
pub record IsPlace (text : List ℕ) (count start : ℕ) (rest : List ℕ) : Type 0 where
  pub before : List ℕ
  pub after : List ℕ
  pub characters : chars text ≡ before ++ after
  pub bytes : text ≡ encode_utf8_all before ++ rest
  pub spelled : encode_utf8_all after ≡ rest
  pub utf8 : IsUtf8 rest
  pub count-is : length before ≡ count
  pub start-is : length (encode_utf8_all before) ≡ start

pub first_place : (text : List ℕ) → IsUtf8 text → IsPlace text 0 0 text
first_place text utf8 = record {
  before = [];
  after = chars text;
  characters = refl;
  bytes = refl;
  spelled = encodes-chars text utf8;
  utf8 = utf8;
  count-is = refl;
  start-is = refl;
}

-- one character on
pub next_place : (text : List ℕ) (count start : ℕ) (rest others : List ℕ) (c : ℕ) → IsPlace text count start rest → rest ≡ encode_utf8 c ++ others → IsPlace text (count + 1) (start + length (encode_utf8 c)) others
next_place text count start rest others c here splits =
    let tail = cons_from_encodes here.after others c (here.spelled ∙ splits) in
    let more : encode_utf8_all (here.before ++ c ∷ []) ≡ encode_utf8_all here.before ++ encode_utf8 c =
    encodes-append here.before (c ∷ []) ∙ ap (λ (bs : List ℕ). encode_utf8_all here.before ++ bs) (append-nil (encode_utf8 c)) in
    let counted = here.count-is in
    let started = here.start-is in
    record {
      before = here.before ++ c ∷ [];
      after = tail.0;
      characters = here.characters ∙ ap (λ (cs : List ℕ). here.before ++ cs) tail.1 ∙ sym (append_assoc here.before (c ∷ []) tail.0);
      bytes = here.bytes ∙ ap (λ (bs : List ℕ). encode_utf8_all here.before ++ bs) splits ∙ sym (append_assoc (encode_utf8_all here.before) (encode_utf8 c) others)
          ∙ ap (λ (bs : List ℕ). bs ++ others) (sym more);
      spelled = tail.2;
      utf8 = IsUtf8-past_char rest others c here.utf8 splits;
      count-is = length-append here.before (c ∷ []) ∙ ap (λ (n : ℕ). n + 1) counted;
      start-is = ap length more ∙ length-append (encode_utf8_all here.before) (encode_utf8 c) ∙ ap (λ (n : ℕ). n + length (encode_utf8 c)) started;
    }

-- what stands there
pub before_place : (text : List ℕ) (count start : ℕ) (rest : List ℕ) → IsPlace text count start rest → encode_utf8_all (take count (chars text)) ≡ take start text
before_place text count start rest here =
    ap (λ (cs : List ℕ). encode_utf8_all (take count cs)) here.characters
    ∙ ap encode_utf8_all (take_at here.before here.after count here.count-is)
    ∙ sym (ap (take start) here.bytes ∙ take_at (encode_utf8_all here.before) rest start here.start-is)

pub rest_place : (text : List ℕ) (count start : ℕ) (rest : List ℕ) → IsPlace text count start rest → drop start text ≡ rest
rest_place text count start rest here = ap (drop start) here.bytes ∙ drop_at (encode_utf8_all here.before) rest start here.start-is

pub after_place : (text : List ℕ) (count start : ℕ) (rest : List ℕ) → IsPlace text count start rest → encode_utf8_all (drop count (chars text)) ≡ drop start text
after_place text count start rest here =
    ap (λ (cs : List ℕ). encode_utf8_all (drop count cs)) here.characters
    ∙ ap encode_utf8_all (drop_at here.before here.after count here.count-is)
    ∙ here.spelled
    ∙ sym (rest_place text count start rest here)

pub characters_after : (text : List ℕ) (count start : ℕ) (rest : List ℕ) → IsPlace text count start rest → chars (drop start text) ≡ drop count (chars text)
characters_after text count start rest here =
    ap chars (rest_place text count start rest here)
    ∙ sym (chars_from_encodes here.after rest here.utf8 here.spelled)
    ∙ sym (ap (drop count) here.characters ∙ drop_at here.before here.after count here.count-is)

pub place_boundary : (text : List ℕ) (count start : ℕ) (rest : List ℕ) → IsPlace text count start rest → IsCharBoundary text start
place_boundary text count start rest here =
    subst (IsCharBoundary text) here.start-is (IsCharBoundary-at_seam text (encode_utf8_all here.before) rest here.bytes here.utf8)

-- so many characters are left
pub count_after : (text : List ℕ) (count start : ℕ) (rest : List ℕ) → IsPlace text count start rest → count + length (chars rest) ≡ length (chars text)
count_after text count start rest here =
    let left = ap length (chars_from_encodes here.after rest here.utf8 here.spelled) in
    let whole = ap length here.characters in
    let parts = length-append here.before here.after in
    let counted = here.count-is in
    omega (arith, left, whole, parts, counted)

-- none is left
pub last_count : (text : List ℕ) (count start : ℕ) (rest : List ℕ) → IsPlace text count start rest → length rest ≡ 0 → count ≡ length (chars text)
last_count text count start rest here none =
    let left = ap length (no_characters rest none) in
    let all = count_after text count start rest here in
    omega (arith, left, all)

pub last_start : (text : List ℕ) (count start : ℕ) (rest : List ℕ) → IsPlace text count start rest → length rest ≡ 0 → start ≡ length text
last_start text count start rest here none =
    let whole = ap length here.bytes in
    let parts = length-append (encode_utf8_all here.before) rest in
    let started = here.start-is in
    omega (arith, none, whole, parts, started)
