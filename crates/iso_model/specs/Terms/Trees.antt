-- Terms (ISO/IEC 13211-1:1995, 6.1.2 and 7.1) as pure data.
use Rattle.std.specs.Prelude.{ℕ, ℤ, List, [], ◌∷◌, Bool, true, ◌+◌, ◌&&◌, nat_le}

-- A term, or a list of terms: the arguments of a compound are a list. A variable is its number, a name its bytes.
pub data Tree : Type 0 where
  Variable : (number : ℕ) → Tree
  Integer : (value : ℤ) → Tree
  Name : (text : List ℕ) → Tree
  Apply : (name : List ℕ) → (arguments : Tree) → Tree
  End : Tree
  More : (first : Tree) → (others : Tree) → Tree

-- these terms as a list of terms
abbrev pub row : List Tree → Tree
row [] = End
row (t ∷ ts) = More t (row ts)

-- how many terms a list of terms has
abbrev pub count : Tree → ℕ
count (More t ts) = count ts + 1
count t = 0

-- A term is well formed where every compound in it has 1 to 255 arguments (own limit; 7.1.5).
abbrev pub arities_fit : Tree → Bool
arities_fit (Variable n) = true
arities_fit (Integer z) = true
arities_fit (Name a) = true
arities_fit (Apply f ts) = nat_le 1 (count ts) && (nat_le (count ts) 255 && arities_fit ts)
arities_fit End = true
arities_fit (More t ts) = arities_fit t && arities_fit ts
