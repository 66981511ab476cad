-- Procedures are named by a name and a number of arguments (ISO/IEC 13211-1:1995, 7.1.6.6).
use Rattle.std.specs.Prelude.{ℕ, List, Bool, ◌&&◌, ◌==◌, Option, Some, None}
use Rattle.std.specs.Str.{bytes_eq}
use Rattle.iso_model.specs.Terms.Trees.{Tree, Variable, Integer, Name, Apply, End, More, count}

-- A procedure's name and number of arguments.
pub record Key : Type 0 where
  pub name : List ℕ
  pub arity : ℕ

-- the procedure of this name and arity
abbrev pub key : List ℕ → ℕ → Key
key f n = record { name = f; arity = n }

-- the name and the number of arguments of a callable term
abbrev pub key_of : Tree → Option Key
key_of (Variable n) = None
key_of (Integer z) = None
key_of (Name a) = Some (key a 0)
key_of (Apply f ts) = Some (key f (count ts))
key_of End = None
key_of (More t ts) = None

abbrev pub same_key : Key → Key → Bool
same_key a b = a.arity == b.arity && bytes_eq a.name b.name
