-- What the elements of a list of characters or codes are found to be.
use Rattle.std.specs.Prelude.{◌≡◌, ℕ, ℤ, pos, negsuc, List, Option, Some, None, Result, Ok, Err, String, string_bytes, if◌then◌else◌}
use Rattle.std.specs.Str.{encode_utf8_all}
use Rattle.std.specs.Global.{Global}
use Rattle.iso_model.specs.Terms.Trees.{Tree}
use Rattle.iso_model.specs.Syntax.Numbers.{is_scalar}
use Rattle.iso_lib_core.specs.declared.outcomes.Fault.{Fault}
use Rattle.iso_lib_core.specs.declared.outcomes.Fault.TheVariants as fault
use Rattle.iso_lib_core.specs.Replies.{IsError}

-- This is the code of the element, or its error is raised.
abbrev pub IsCode : Result ℕ Tree → Result ℕ Fault → Type 0
IsCode (Ok code) (Ok found) = found ≡ code
IsCode (Err error) (Err (fault.Raise ball)) = IsError error ball
IsCode expected (Err fault.NoMemory) = Unit {0}
IsCode expected found = ⊥

-- This is the text of the characters with these codes, or the error of an element is raised.
abbrev pub IsText : Result (List ℕ) Tree → Result (String Global) Fault → Type 0
IsText (Ok codes) (Ok text) = string_bytes text ≡ encode_utf8_all codes
IsText (Err error) (Err (fault.Raise ball)) = IsError error ball
IsText expected (Err fault.NoMemory) = Unit {0}
IsText expected found = ⊥

-- the code of a character, if the integer is one
abbrev pub scalar_of : ℤ → Option ℕ
scalar_of (pos code) = if is_scalar code then Some code else None
scalar_of (negsuc n) = None
