-- Keys: what stands outermost in the first argument of a clause or of a call. Where that is a variable, or where there
-- is no argument, there is no key.
use Rattle.std.specs.Prelude.{Bool, true, false, ◌&&◌, ◌||◌, ◌==◌, Option, Some, None}
use Rattle.std.specs.Ordering.{int_eq}
use Rattle.iso_clauses.specs.declared.keys.FirstKey.{FirstKey}
use Rattle.iso_clauses.specs.declared.keys.FirstKey.TheVariants.{Integer, Wide, Atom, Compound}

-- whether two keys are the same
abbrev pub same_key : FirstKey → FirstKey → Bool
same_key (Integer y) (Integer z) = int_eq y z
same_key (Wide h m) (Wide k n) = int_eq h k && (m == n)
same_key (Atom a) (Atom b) = a == b
same_key (Compound a m) (Compound b n) = (a == b) && (m == n)
same_key j k = false

-- whether a clause has this key, or none
abbrev pub has_key : Option FirstKey → Option FirstKey → Bool
has_key None None = true
has_key None (Some k) = false
has_key (Some j) None = false
has_key (Some j) (Some k) = same_key j k

-- whether a call with this key, or without, may use a clause with that one, or without
abbrev pub fits : Option FirstKey → Option FirstKey → Bool
fits None k = true
fits (Some j) k = has_key (Some j) k || has_key None k
