-- Keys of clauses and of calls: what stands outermost in the first argument, where that is no variable.
use Rattle.std.specs.Prelude.{◌≡◌, ℕ, ℤ, pos, ◌-ℤ◌, ◌*ℤ◌, ◌^◌, unsigned_abs, List, Option, Some, None, if◌then◌else◌}
use Rattle.std.specs.Int.{int_shr}
use Rattle.iso_model.specs.Terms.Integers.{is_short}
use Rattle.iso_model.specs.Terms.Trees.{Tree}
use Rattle.iso_store_core.specs.Patterns.{IsPattern}
use Rattle.iso_store_core.specs.declared.patterns.Part.{Part}
use Rattle.iso_store_core.specs.declared.patterns.Part.TheVariants as part
use Rattle.iso_store_core.specs.declared.shapes.Shape.{Shape}
use Rattle.iso_store_core.specs.declared.shapes.Shape.TheVariants as shape
use Rattle.iso_db.specs.Fits.{FirstKey}
use Rattle.iso_db.specs.Fits.{Integer, Wide, Atom, Compound}
use Rattle.iso_program.specs.Firsts.{IsFirstOf, ShowsFirst, HasFreeFirst}

-- the key of an integer: all of it where it has 64 bits, else its upper half, with the sign, and its lower half
abbrev pub key_of_integer : ℤ → FirstKey
key_of_integer z = if is_short z then Integer z else Wide (int_shr z 64) (unsigned_abs (z -ℤ int_shr z 64 *ℤ pos (2 ^ 64)))

-- the key of a clause, the first argument of whose head has this outermost part
abbrev pub key_of_part : Part → Option FirstKey
key_of_part (part.Variable k) = None
key_of_part (part.Integer z) = Some (key_of_integer z)
key_of_part (part.Atom a) = Some (Atom a)
key_of_part (part.Compound a n) = Some (Compound a n)

-- the same, where the head has a first argument
abbrev pub key_of_first : Option Part → Option FirstKey
key_of_first None = None
key_of_first (Some k) = key_of_part k

-- the parts are those of terms for whose first argument the key stands
abbrev pub IsKeyOf : List Part → Option FirstKey → Type 0
IsKeyOf parts key = (names : List (List ℕ)) (t : Tree) → IsPattern names parts t
    → (first : Option Part) × IsFirstOf names first t × (key ≡ key_of_first first)

-- the key of a call, whose first argument has this shape
abbrev pub key_of_shape : Shape → Option FirstKey
key_of_shape (shape.Var n) = None
key_of_shape (shape.Int z) = Some (key_of_integer z)
key_of_shape (shape.Atom a) = Some (Atom a)
key_of_shape (shape.Compound a n) = Some (Compound a n)

-- Where these are the names of the atoms, the key is that of the call's first argument. Without a key that is a
-- variable, or there is none.
abbrev pub ShowsKey : List (List ℕ) → Option FirstKey → Tree → Type 0
ShowsKey names None t = HasFreeFirst t
ShowsKey names (Some k) t = (s : Shape) × ShowsFirst names s t × (key_of_shape s ≡ Some k)
