-- Numbers and character codes as a text writes them (ISO/IEC 13211-1:1995, 6.4.4, and the escapes of 6.4.2.1).
use Rattle.std.specs.Prelude.{ℕ, ◌+◌, ◌*◌, Bool, ◌&&◌, ◌||◌, ◌==◌, nat_lt, nat_le, if◌then◌else◌, List, length, take, drop, fold, slice_index, chars, Option, Some, None, option_map, unwrap_or, codes}
use Rattle.std.specs.Char.{digit_value}
use Rattle.iso_model.specs.Syntax.Characters.{is_digit_of, character_len, run, byte_of, alert, backspace, tab, newline, vertical_tab, form_feed, carriage_return, backslash, quote, double_quote}

-- a number as it is written: its value, and how many bytes write it
pub record Written : Type 0 where
  pub value : ℕ
  pub len : ℕ

-- a number of a base with one more digit
abbrev pub number_step : ℕ → ℕ → ℕ → ℕ
number_step base n digit = n * base + digit_value digit

-- the number that digits of a base write, a digit at a time
abbrev pub number_value : ℕ → List ℕ → ℕ
number_value base digits = fold (number_step base) 0 digits

-- the digits of a base at the front of a text
abbrev pub digits_at : ℕ → List ℕ → Written
digits_at base text = let n = run (is_digit_of base) text in record { value = number_value base (take n text); len = n }

-- whether a number is the code of a character: at most 0x10FFFF, and no surrogate
abbrev pub is_scalar : ℕ → Bool
is_scalar code = nat_lt code 0xD800 || (nat_le 0xE000 code && nat_le code 0x10_FFFF)

-- The character that a sign behind a backslash stands for (6.4.2.1): `\a \b \f \n \r \t \v`, and the backslash,
-- the quotes and the backquote themselves.
abbrev pub sign_code : ℕ → Option ℕ
sign_code sign =
    if sign == byte_of (codes "a") then Some alert
    else (if sign == byte_of (codes "b") then Some backspace
    else (if sign == byte_of (codes "f") then Some form_feed
    else (if sign == byte_of (codes "n") then Some newline
    else (if sign == byte_of (codes "r") then Some carriage_return
    else (if sign == byte_of (codes "t") then Some tab
    else (if sign == byte_of (codes "v") then Some vertical_tab
    else (if sign == backslash || (sign == quote || (sign == double_quote || sign == byte_of (codes "`"))) then Some sign
    else None)))))))

-- a code in digits of a base, which begin at this place, with the backslash that closes it (6.4.2.1)
abbrev pub code_escape : ℕ → ℕ → List ℕ → Option Written
code_escape base from text =
    let digits = digits_at base (drop from text) in
    if nat_lt 0 digits.len && (slice_index text (from + digits.len) == backslash && is_scalar digits.value)
    then Some (record { value = digits.value; len = from + digits.len + 1 })
    else None

-- the character that an escape stands for (6.4.2.1), in a text that begins with its backslash
abbrev pub escape : List ℕ → Option Written
escape text =
    let sign = slice_index text 1 in
    if sign == byte_of (codes "x") then code_escape 16 2 text
    else (if is_digit_of 8 sign then code_escape 8 1 text
    else option_map (λ code. record { value = code; len = 2 }) (sign_code sign))

-- The character behind `0'` (6.4.4): a quote written twice, an escape, or any other character but a quote and a
-- newline.
abbrev pub quoted_character : List ℕ → Option Written
quoted_character text =
    let byte = slice_index text 0 in
    if byte == quote then (if slice_index text 1 == quote then Some (record { value = quote; len = 2 }) else None)
    else (if byte == backslash then escape text
    else (if byte == newline || length text == 0 then None
    else Some (record { value = slice_index (chars text) 0; len = character_len text })))

-- a number behind two bytes
abbrev pub behind_two : Written → Written
behind_two w = record { value = w.value; len = 2 + w.len }

-- digits of a base behind `0` and its letter
abbrev pub based : ℕ → List ℕ → Option Written
based base text = let digits = digits_at base (drop 2 text) in if nat_lt 0 digits.len then Some (behind_two digits) else None

-- a character code, or a number in base 2, 8 or 16 (6.4.4)
abbrev pub special : List ℕ → Option Written
special text =
    let letter = slice_index text 1 in
    if slice_index text 0 == byte_of (codes "0") then (
    if letter == quote then option_map behind_two (quoted_character (drop 2 text))
    else (if letter == byte_of (codes "b") then based 2 text
    else (if letter == byte_of (codes "o") then based 8 text
    else (if letter == byte_of (codes "x") then based 16 text
    else None))))
    else None

-- the integer at the front of a text that begins with a digit (6.4.4)
abbrev pub integer_at : List ℕ → Written
integer_at text = unwrap_or (special text) (digits_at 10 text)
