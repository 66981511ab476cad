-- Classes of bytes of a text (ISO/IEC 13211-1:1995, 6.5), and how far a text begins with one of them.
use Rattle.std.specs.Prelude.{ℕ, ◌+◌, Bool, not, ◌&&◌, ◌||◌, ◌==◌, nat_le, nat_lt, List, drop, slice_index, codes}
use Rattle.std.specs.List.{list_any, prefix_len}
use Rattle.std.specs.Char.{digit_value}

-- The byte that a sign is. Those that have none are named.
abbrev pub byte_of : List ℕ → ℕ
byte_of sign = slice_index sign 0

abbrev pub newline : ℕ
newline = 10

abbrev pub space : ℕ
space = 32

abbrev pub alert : ℕ
alert = 7

abbrev pub backspace : ℕ
backspace = 8

abbrev pub tab : ℕ
tab = 9

abbrev pub vertical_tab : ℕ
vertical_tab = 11

abbrev pub form_feed : ℕ
form_feed = 12

abbrev pub carriage_return : ℕ
carriage_return = 13

abbrev pub delete : ℕ
delete = 127

abbrev pub backslash : ℕ
backslash = byte_of (codes "\\")

abbrev pub quote : ℕ
quote = byte_of (codes "'")

abbrev pub double_quote : ℕ
double_quote = byte_of (codes "\"")

-- layout characters (6.5.4): a space, or one from the tab to the carriage return (own)
abbrev pub is_layout : ℕ → Bool
is_layout byte = byte == space || (nat_le tab byte && nat_le byte carriage_return)

-- small letters, of ASCII alone (6.5.2)
abbrev pub is_small : ℕ → Bool
is_small byte = nat_le (byte_of (codes "a")) byte && nat_le byte (byte_of (codes "z"))

-- capital letters, of ASCII alone (6.5.2)
abbrev pub is_capital : ℕ → Bool
is_capital byte = nat_le (byte_of (codes "A")) byte && nat_le byte (byte_of (codes "Z"))

-- decimal digits (6.5.2)
abbrev pub is_digit : ℕ → Bool
is_digit byte = nat_le (byte_of (codes "0")) byte && nat_le byte (byte_of (codes "9"))

-- alphanumeric characters (6.5.2): letters, digits and `_`
abbrev pub is_alphanumeric : ℕ → Bool
is_alphanumeric byte = is_small byte || (is_capital byte || (is_digit byte || byte == byte_of (codes "_")))

-- what a variable begins with (6.4.3): a capital letter or `_`
abbrev pub begins_variable : ℕ → Bool
begins_variable byte = is_capital byte || byte == byte_of (codes "_")

-- graphic characters, with the backslash (6.5.1, 6.4.2)
abbrev pub is_graphic : ℕ → Bool
is_graphic byte = list_any (λ c. byte == c) (codes "#$&*+-./:<=>?@^~\\")

-- characters that are a token each (6.4.8): brackets, the comma and the bar
abbrev pub is_punctuation : ℕ → Bool
is_punctuation byte = list_any (λ c. byte == c) (codes "()[]{},|")

-- characters that are a name each (6.4.2): `!` and `;`
abbrev pub is_solo : ℕ → Bool
is_solo byte = byte == byte_of (codes "!") || byte == byte_of (codes ";")

-- digits of a base from 2 to 16 (6.4.4), letters in either case
abbrev pub is_digit_of : ℕ → ℕ → Bool
is_digit_of base byte = nat_lt (digit_value byte) base

-- what stands in a line before its end
abbrev pub is_in_line : ℕ → Bool
is_in_line byte = not (byte == newline)

-- bytes of a character of UTF-8 behind its first
abbrev pub is_continuation : ℕ → Bool
is_continuation byte = nat_le 128 byte && nat_le byte 191

-- how many bytes of a class a text begins with
abbrev pub run : (ℕ → Bool) → List ℕ → ℕ
run class text = prefix_len class text

-- how many bytes the first character of a text has
abbrev pub character_len : List ℕ → ℕ
character_len text = 1 + run is_continuation (drop 1 text)
