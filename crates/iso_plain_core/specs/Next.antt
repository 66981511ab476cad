-- Places of members.
use Rattle.std.specs.Prelude.{◌<◌, ℕ, List, length, Option, Some, None}
use Rattle.iso_plain_core.specs.declared.members.Link.{Link}

-- the place of a link, or none
abbrev pub IsPlace : List Link → Option ℕ → Type 0
IsPlace members None = Unit {0}
IsPlace members (Some i) = i < length members
