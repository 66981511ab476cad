-- Rows of parts of atoms that are offered, as they are kept (ISO/IEC 13211-1:1995, 8.16.2, 8.16.3).
use Rattle.std.specs.Prelude.{◌≡◌, ℕ, zero, suc, ◌+◌, ◌-◌, ◌<◌, ◌≤◌, ◌^◌, List, [], ◌∷◌, ◌++◌, map, reverse, take, drop, chars, pos, Result, Ok, Err, Vec}
use Rattle.std.specs.Global.{Global}
use Rattle.std.specs.List.{All}
use Rattle.std.specs.Str.{encode_utf8_all, IsCharBoundary}
use Rattle.iso_model.specs.Terms.Trees.{Tree, Integer, Name, row}
use Rattle.iso_model.specs.Terms.Arguments.{argument, arity}
use Rattle.iso_model.specs.Search.Settlements.{Settled, Offers, Offer, constant_offer}
use Rattle.iso_lib_core.specs.declared.outcomes.Fault.{Fault}
use Rattle.iso_lib_core.specs.declared.outcomes.Fault.TheVariants as fault
use Rattle.iso_lib_core.specs.Checks.{IsRefused}
use Rattle.iso_model.specs.declared.kinds.AtomPart.{AtomPart}
use Rattle.iso_model.specs.declared.kinds.AtomPart.TheVariants.{Concat, Sub}
use Rattle.iso_text.specs.declared.parts.Part.{Part}
use Rattle.iso_text.specs.declared.parts.Part.TheVariants as part
use Rattle.iso_text.specs.declared.parts.Parts.{Parts}

-- the text of an atom
abbrev pub text_of : Tree → List ℕ
text_of (Name a) = a
text_of t = []

-- the row that the arguments of this goal are unified with
abbrev pub part_row : Tree → Part → Tree
part_row t part.Joined = row (argument 0 t ∷ argument 1 t ∷ Name (text_of (argument 0 t) ++ text_of (argument 1 t)) ∷ [])
part_row t (part.Split place) = row (Name (take place (text_of (argument 2 t))) ∷ Name (drop place (text_of (argument 2 t))) ∷ argument 2 t ∷ [])
part_row t (part.Sub s) = row (argument 0 t ∷ Integer (pos s.before) ∷ Integer (pos s.length) ∷ Integer (pos s.behind) ∷ Name (encode_utf8_all (take s.length (chars (drop s.start (text_of (argument 0 t)))))) ∷ [])

-- this row, of which as many cells are made
abbrev pub part_offer : ℕ → Tree → Part → Offer
part_offer made t p = constant_offer made (part_row t p)

-- the next part at the same place, a character longer
abbrev pub longer : Part → Part
longer (part.Sub s) = part.Sub (record s { length = suc s.length; behind = s.behind - 1 })
longer p = p

-- the part, and so many longer ones
abbrev pub each_longer : Part → ℕ → List Part
each_longer p zero = p ∷ []
each_longer p (suc more) = p ∷ each_longer (longer p) more

-- one after another
abbrev pub each_of : List Parts → List Part
each_of [] = []
each_of (ps ∷ others) = each_longer ps.first ps.more ++ each_of others

-- the parts in the order in which they are offered, of which the last are kept first
abbrev pub parts_in : List Parts → List Part
parts_in kept = each_of (reverse kept)

-- the arguments of a goal of this built-in
abbrev pub arguments_row : AtomPart → Tree → Tree
arguments_row Concat t = row (argument 0 t ∷ argument 1 t ∷ argument 2 t ∷ [])
arguments_row Sub t = row (argument 0 t ∷ argument 1 t ∷ argument 2 t ∷ argument 3 t ∷ argument 4 t ∷ [])

abbrev pub IsAtom : Tree → Type 0
IsAtom t = (a : List ℕ) × (t ≡ Name a)

-- a character of the argument, which is an atom, begins at this byte, or the atom ends there
abbrev pub HasPlace : Tree → ℕ → Type 0
HasPlace t place = (a : List ℕ) × (t ≡ Name a) × IsCharBoundary a place

-- the goal has as many arguments, and the atoms that the part is of
abbrev pub IsOf : Tree → Part → Type 0
IsOf t part.Joined = (arity t ≡ 3) × IsAtom (argument 0 t) × IsAtom (argument 1 t)
IsOf t (part.Split place) = (arity t ≡ 3) × HasPlace (argument 2 t) place
IsOf t (part.Sub s) = (arity t ≡ 5) × HasPlace (argument 0 t) s.start × (s.before + s.length + s.behind < 2 ^ 63)

-- how many characters stand behind a part of a longer atom
abbrev pub part_behind : Part → ℕ
part_behind (part.Sub s) = s.behind
part_behind p = 0

-- so are all parts at one place
abbrev pub AreOf : Tree → Parts → Type 0
AreOf t ps = IsOf t ps.first × (ps.more ≤ part_behind ps.first)

-- These rows are offered, or the error is thrown.
abbrev pub IsParted : AtomPart → Tree → Settled → Result (Vec Parts Global) Fault → Type 0
IsParted built_in t settled (Ok kept) = (made : ℕ) × (settled ≡ Offers (arguments_row built_in t) (map (λ p. constant_offer made (part_row t p)) (parts_in kept.items))) × All (AreOf t) kept.items
IsParted built_in t settled (Err (fault.Raise ball)) = IsRefused settled ball
IsParted built_in t settled (Err fault.Full) = ⊥
IsParted built_in t settled (Err fault.NoMemory) = Unit {0}
