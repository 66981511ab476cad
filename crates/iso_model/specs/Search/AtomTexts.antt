-- Built-ins on the characters of atoms and on the texts of numbers (ISO/IEC 13211-1:1995, 8.16; which checks are
-- made, and in which order, is own).
use Rattle.std.specs.Prelude.{ℕ, ◌==◌, ℤ, pos, negsuc, neg_ℤ, nat_lt, nat_le, List, [], ◌∷◌, map, drop, length, slice_index, chars, encode_utf8, Bool, true, false, not, ◌&&◌, Option, Some, None, Result, Ok, Err, codes, if◌then◌else◌}
use Rattle.std.specs.Fmt.{signed_decimal}
use Rattle.std.specs.List.{list_any}
use Rattle.std.specs.Option.{option_and_then}
use Rattle.std.specs.Str.{encode_utf8_all}
use Rattle.iso_model.specs.Terms.Integers.{extent}
use Rattle.iso_model.specs.Terms.Trees.{Tree, Variable, Integer, Name}
use Rattle.iso_model.specs.Terms.Types.{is_variable}
use Rattle.iso_model.specs.Terms.Lists.{elements, tail, is_list, is_partial_list}
use Rattle.iso_model.specs.Terms.Arguments.{argument}
use Rattle.iso_model.specs.Syntax.Characters.{is_digit, is_layout, run, byte_of}
use Rattle.iso_model.specs.Syntax.Numbers.{is_scalar, integer_at}
use Rattle.iso_model.specs.Search.Bodies.{one}
use Rattle.iso_model.specs.Search.Keys.{Key, key}
use Rattle.iso_model.specs.Search.Errors.{raised, instantiation_error, type_error, domain_error}
use Rattle.iso_model.specs.Search.Library.{equate, equate_integer, equate_list}
use Rattle.iso_model.specs.Search.Replies.{Answer, Raise}
use Rattle.iso_model.specs.declared.kinds.Text.{Text}
use Rattle.iso_model.specs.declared.kinds.Text.TheVariants.{AtomLength, AtomChars, AtomCodes, CharCode, NumberChars, NumberCodes}

-- ---- characters and their codes (7.1.4)

-- a text is a list of characters, which are atoms, or of their codes
pub data Form : Type 0 where
  Characters : Form
  Codes : Form

-- the element for the character with this code
abbrev pub element : Form → ℕ → Tree
element Characters code = Name (encode_utf8 code)
element Codes code = Integer (pos code)

-- the text of a name, or of a number, in this form
abbrev pub text_elements : Form → List ℕ → List Tree
text_elements form text = map (element form) (chars text)

-- a text of one character has this code
abbrev pub only_code : List ℕ → Option ℕ
only_code (code ∷ []) = Some code
only_code codes = None

-- a representation error: the integer is the code of no character
abbrev pub code_error : Key → Tree
code_error k = raised (one (codes "representation_error") (Name (codes "character_code"))) k

abbrev pub character_code : Tree → Key → Option ℕ → Result ℕ Tree
character_code t k (Some code) = Ok code
character_code t k None = Err (type_error (codes "character") t k)

-- the code of an element, or the error for it
abbrev pub element_code : Form → Tree → Key → Result ℕ Tree
element_code form (Variable n) k = Err (instantiation_error k)
element_code Characters (Name a) k = character_code (Name a) k (only_code (chars a))
element_code Characters t k = Err (type_error (codes "character") t k)
element_code Codes (Integer (pos code)) k = if is_scalar code then Ok code else Err (code_error k)
element_code Codes (Integer (negsuc n)) k = Err (code_error k)
element_code Codes t k = Err (type_error (codes "integer") t k)

-- the codes of all elements, or the error for the first that has one
abbrev pub one_more_code : Result ℕ Tree → Result (List ℕ) Tree → Result (List ℕ) Tree
one_more_code (Err error) others = Err error
one_more_code (Ok code) (Err error) = Err error
one_more_code (Ok code) (Ok others) = Ok (code ∷ others)

abbrev pub elements_codes : Form → List Tree → Key → Result (List ℕ) Tree
elements_codes form [] k = Ok []
elements_codes form (t ∷ ts) k = one_more_code (element_code form t k) (elements_codes form ts k)

-- ---- atom_length/2 (8.16.1)

abbrev pub length_key : Key
length_key = key (codes "atom_length") 2

abbrev pub length_by : ℕ → Tree → Answer
length_by count (Variable n) = equate_integer (Variable n) (pos count)
length_by count (Integer (pos n)) = equate_integer (Integer (pos n)) (pos count)
length_by count (Integer (negsuc n)) = Raise (domain_error (codes "not_less_than_zero") (Integer (negsuc n)) length_key)
length_by count t = Raise (type_error (codes "integer") t length_key)

-- how many characters an atom has
abbrev pub length_answer : Tree → Tree → Answer
length_answer (Variable n) l = Raise (instantiation_error length_key)
length_answer (Name a) l = length_by (length (chars a)) l
length_answer t l = Raise (type_error (codes "atom") t length_key)

-- ---- atom_chars/2, atom_codes/2 (8.16.4, 8.16.5)

-- the atom with these characters
abbrev pub equate_text : Tree → Result (List ℕ) Tree → Answer
equate_text t (Ok text) = equate t (Name (encode_utf8_all text))
equate_text t (Err error) = Raise error

abbrev pub atom_of_list : Form → Tree → Tree → Key → Answer
atom_of_list form t l k = if is_variable (tail l) then Raise (instantiation_error k) else equate_text t (elements_codes form (elements l) k)

abbrev pub with_partial_list : Tree → Key → Answer → Answer
with_partial_list l k goes_on = if is_partial_list l then goes_on else Raise (type_error (codes "list") l k)

-- the list of an atom's characters, or the atom of such a list, which has an end then
abbrev pub atom_list_answer : Form → Tree → Tree → Key → Answer
atom_list_answer form (Variable n) l k = with_partial_list l k (atom_of_list form (Variable n) l k)
atom_list_answer form (Name a) l k = with_partial_list l k (equate_list l (text_elements form a))
atom_list_answer form t l k = Raise (type_error (codes "atom") t k)

-- ---- char_code/2 (8.16.6)

abbrev pub char_code_key : Key
char_code_key = key (codes "char_code") 2

abbrev pub code_of : Result ℕ Tree → Tree → Answer
code_of (Ok code) n = equate_integer n (pos code)
code_of (Err error) n = Raise error

-- the character with this code; or the code of this character, which is compared with the integer
abbrev pub character_of : Tree → Result ℕ Tree → Answer
character_of (Variable n) (Ok code) = equate (Variable n) (Name (encode_utf8 code))
character_of c (Ok code) = equate c (Name (encode_utf8 code))
character_of c (Err error) = Raise error

-- the character is checked before the code
abbrev pub checked_code : Result ℕ Tree → Tree → Tree → Answer
checked_code (Err error) c n = Raise error
checked_code (Ok code) c n = character_of c (element_code Codes n char_code_key)

abbrev pub char_code_answer : Tree → Tree → Answer
char_code_answer (Variable c) n = character_of (Variable c) (element_code Codes n char_code_key)
char_code_answer c (Variable n) = code_of (element_code Characters c char_code_key) (Variable n)
char_code_answer c n = checked_code (element_code Characters c char_code_key) c n

-- ---- number_chars/2, number_codes/2 (8.16.7, 8.16.8)

-- the integer of this size and sign, where it is one
abbrev pub signed : Bool → ℕ → Option ℤ
signed false n = if nat_lt n extent then Some (pos n) else None
signed true n = if nat_le n extent then Some (neg_ℤ (pos n)) else None

-- the value of an integer token that is the whole text
abbrev pub whole_integer : List ℕ → Option ℕ
whole_integer text = if is_digit (slice_index text 0) && (integer_at text).len == length text then Some (integer_at text).value else None

-- the number that a text writes without layout: an optional `-` directly before an integer token
abbrev pub signed_integer : List ℕ → Option ℤ
signed_integer text =
    if slice_index text 0 == byte_of (codes "-") then option_and_then (signed true) (whole_integer (drop 1 text))
    else option_and_then (signed false) (whole_integer text)

-- the number that a text writes: there may be layout before it, and nothing behind it
abbrev pub number_written : List ℕ → Option ℤ
number_written text = signed_integer (drop (run is_layout text) text)

abbrev pub number_error : Key → Tree
number_error k = raised (one (codes "syntax_error") (Name (codes "illegal_number"))) k

abbrev pub equate_number : Tree → Key → Option ℤ → Answer
equate_number t k (Some z) = equate_integer t z
equate_number t k None = Raise (number_error k)

abbrev pub number_of_text : Tree → Key → Result (List ℕ) Tree → Answer
number_of_text t k (Ok text) = equate_number t k (number_written (encode_utf8_all text))
number_of_text t k (Err error) = Raise error

-- the list of a number's characters
abbrev pub number_text : Form → Tree → Tree → Key → Answer
number_text form (Integer z) l k = equate_list l (text_elements form (signed_decimal z))
number_text form t l k = Raise (instantiation_error k)

-- the number of a list without unbound elements, which has an end; or the list of a number's characters
abbrev pub number_by_list : Form → Tree → Tree → Key → Answer
number_by_list form t l k =
    if is_list l && not (list_any is_variable (elements l)) then number_of_text t k (elements_codes form (elements l) k) else number_text form t l k

abbrev pub number_list_answer : Form → Tree → Tree → Key → Answer
number_list_answer form (Variable n) l k = with_partial_list l k (number_by_list form (Variable n) l k)
number_list_answer form (Integer z) l k = with_partial_list l k (number_by_list form (Integer z) l k)
number_list_answer form t l k = Raise (type_error (codes "number") t k)

-- ---- the rows

abbrev pub text_arity : Text → ℕ
text_arity AtomLength = 2
text_arity AtomChars = 2
text_arity AtomCodes = 2
text_arity CharCode = 2
text_arity NumberChars = 2
text_arity NumberCodes = 2

-- what this goal comes to
abbrev pub text_answer : Text → Tree → Answer
text_answer AtomLength t = length_answer (argument 0 t) (argument 1 t)
text_answer AtomChars t = atom_list_answer Characters (argument 0 t) (argument 1 t) (key (codes "atom_chars") 2)
text_answer AtomCodes t = atom_list_answer Codes (argument 0 t) (argument 1 t) (key (codes "atom_codes") 2)
text_answer CharCode t = char_code_answer (argument 0 t) (argument 1 t)
text_answer NumberChars t = number_list_answer Characters (argument 0 t) (argument 1 t) (key (codes "number_chars") 2)
text_answer NumberCodes t = number_list_answer Codes (argument 0 t) (argument 1 t) (key (codes "number_codes") 2)
