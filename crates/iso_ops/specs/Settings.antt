-- Flags (ISO/IEC 13211-1:1995, 7.11), in this project's profile.
use Rattle.std.specs.Prelude.{ℕ, ℤ, pos, negsuc, List, [], ◌∷◌, Option, None, codes, if◌then◌else◌}
use Rattle.std.specs.Borrow.{Bor}
use Rattle.std.specs.List.{find}
use Rattle.std.specs.Map.{lookup}
use Rattle.std.specs.Option.{option_map}
use Rattle.std.specs.Str.{bytes_eq}
use Rattle.iso_ops.specs.declared.settings.DoubleQuotes.{DoubleQuotes}
use Rattle.iso_ops.specs.declared.settings.DoubleQuotes.TheVariants.{Codes, Chars, Atom}
use Rattle.iso_ops.specs.declared.settings.Unknown.{Unknown}
use Rattle.iso_ops.specs.declared.settings.Unknown.TheVariants.{Error, Fail}
use Rattle.iso_ops.specs.declared.settings.FlagValue.{FlagValue}
use Rattle.iso_ops.specs.declared.settings.FlagValue.TheVariants.{Int, Word}
use Rattle.iso_ops.specs.declared.settings.Flags.{Flags}

-- A flag's value: an integer, or an atom by its text.
pub data FlagTerm : Type 0 where
  FlagInteger : (value : ℤ) → FlagTerm
  FlagAtom : (text : List ℕ) → FlagTerm

-- the value that a Rust value is
abbrev pub term_of_value : FlagValue → FlagTerm
term_of_value (Int value) = FlagInteger value
term_of_value (Word text) = FlagAtom text.now

-- a flag with its value, as Rust has both
abbrev pub entry_of_flag : Bor (List ℕ) × FlagValue → List ℕ × FlagTerm
entry_of_flag e = (e.0.now, term_of_value e.1)

-- how the values of `double_quotes` are written
abbrev pub quotes_text : DoubleQuotes → List ℕ
quotes_text Codes = codes "codes"
quotes_text Chars = codes "chars"
quotes_text Atom = codes "atom"

-- the value of `double_quotes` that is written so
abbrev pub quotes_named : List ℕ → Option DoubleQuotes
quotes_named text = find (λ quotes. bytes_eq text (quotes_text quotes)) (Codes ∷ Chars ∷ Atom ∷ [])

-- how the values of `unknown` are written
abbrev pub unknown_text : Unknown → List ℕ
unknown_text Error = codes "error"
unknown_text Fail = codes "fail"

-- the value of `unknown` that is written so
abbrev pub unknown_named : List ℕ → Option Unknown
unknown_named text = find (λ unknown. bytes_eq text (unknown_text unknown)) (Error ∷ Fail ∷ [])

-- the flags before any is set
abbrev pub initial_flags : Flags
initial_flags = record { double_quotes = Codes; unknown = Error }

-- each flag with its value, in the order of `current_prolog_flag/2`
abbrev pub flag_entries : Flags → List (List ℕ × FlagTerm)
flag_entries flags =
    (codes "bounded", FlagAtom (codes "true"))
    ∷ (codes "max_integer", FlagInteger (pos 170141183460469231731687303715884105727))
    ∷ (codes "min_integer", FlagInteger (negsuc 170141183460469231731687303715884105727))
    ∷ (codes "integer_rounding_function", FlagAtom (codes "toward_zero"))
    ∷ (codes "max_arity", FlagInteger (pos 255))
    ∷ (codes "double_quotes", FlagAtom (quotes_text flags.double_quotes))
    ∷ (codes "unknown", FlagAtom (unknown_text flags.unknown))
    ∷ []

-- the value of the flag with this name
abbrev pub flag_value : Flags → List ℕ → Option FlagTerm
flag_value flags name = lookup (bytes_eq name) (flag_entries flags)

-- the flags once this one has this value; none where it can't be set, or has no such value
abbrev pub with_flag : Flags → List ℕ → List ℕ → Option Flags
with_flag flags name value =
    if bytes_eq name (codes "double_quotes") then option_map (λ quotes. record flags { double_quotes = quotes }) (quotes_named value)
    else if bytes_eq name (codes "unknown") then option_map (λ unknown. record flags { unknown = unknown }) (unknown_named value)
    else None
