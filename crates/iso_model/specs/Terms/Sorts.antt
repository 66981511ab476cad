-- Which trees are terms, and which are lists of terms (ISO/IEC 13211-1:1995, 6.1.2 and 7.1; the limit of 255
-- arguments is own).
use Rattle.std.specs.Prelude.{Bool, true, false, ◌&&◌, nat_le}
use Rattle.iso_model.specs.Terms.Trees.{Tree, Variable, Integer, Name, Apply, End, More, count}

-- A term is a variable, an integer, an atom, or a name with a list of 1 to 255 terms. The range of numbers and the
-- coding of texts are left to the Rust types that hold them.
abbrev mutual
  pub is_term : Tree → Bool
  is_term (Variable n) = true
  is_term (Integer z) = true
  is_term (Name a) = true
  is_term (Apply f ts) = nat_le 1 (count ts) && (nat_le (count ts) 255 && is_row ts)
  is_term End = false
  is_term (More t ts) = false

  pub is_row : Tree → Bool
  is_row (Variable n) = false
  is_row (Integer z) = false
  is_row (Name a) = false
  is_row (Apply f ts) = false
  is_row End = true
  is_row (More t ts) = is_term t && is_row ts
