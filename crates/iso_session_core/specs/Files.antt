-- What a text that can't be read says.
use Rattle.std.specs.Prelude.{◌≡◌, ◌≤◌, ℕ, List, length}
use Rattle.std.specs.Str.{IsUtf8}
use Rattle.std.specs.Str.Lossy.{utf8_valid_len}
use Rattle.std.specs.declared.io.ErrorKind.{ErrorKind}
use Rattle.std.specs.declared.io.ErrorKind.TheVariants.{OutOfMemory}
use Rattle.iso_session_core.specs.declared.files.Obstacle.TheVariants.{Refused, NotUtf8, NoEnd}
use Rattle.iso_session_core.specs.declared.files.TextFault.{TextFault}
use Rattle.iso_session_core.specs.declared.files.TextFault.TheVariants as fault

-- the fault of a refusal of the system
abbrev pub refused : ErrorKind → TextFault
refused OutOfMemory = fault.NoMemory
refused other = fault.Unreadable (Refused other)

-- so many reads may take bytes before a text has no end
abbrev pub most_reads : ℕ
most_reads = 4294967295

-- Where bytes are called no UTF-8, they are none, and so many from the first on are; where they have no end, there
-- are so many that each of the reads took some.
abbrev pub Explains : List ℕ → TextFault → Type 0
Explains bytes (fault.Unreadable (NotUtf8 n)) = (n ≡ utf8_valid_len bytes) × ¬ IsUtf8 bytes
Explains bytes (fault.Unreadable NoEnd) = most_reads ≤ length bytes
Explains bytes other = Unit {0}
