-- Which argument of a head is a variable: the first of those that were looked at.
use Rattle.std.specs.Prelude.{Option, Some, None}

-- the first where there is one, else the second
abbrev pub kept_or : {X : Type 0} → Option X → Option X → Option X
kept_or (Some x) o = Some x
kept_or None o = o
