-- The standard order of terms (ISO/IEC 13211-1:1995, 7.2; that older variables come first is own).
use Rattle.std.specs.Prelude.{ℕ}
use Rattle.std.specs.Ordering.{nat_cmp, int_cmp, ordering_then}
use Rattle.std.specs.declared.cmp.Ordering.{Ordering}
use Rattle.std.specs.declared.cmp.Ordering.TheVariants.{Equal}
use Rattle.std.specs.Cmp.Lexicographic.{slice_cmp}
use Rattle.iso_model.specs.Terms.Trees.{Tree, Variable, Integer, Name, Apply, End, More, count}

-- the place of each kind of term in the order
abbrev pub kind : Tree → ℕ
kind (Variable n) = 0
kind (Integer z) = 1
kind (Name a) = 2
kind (Apply f ts) = 3
kind End = 4
kind (More t ts) = 5

-- Variables come first, by their numbers, then integers by value, then atoms by character codes (as their bytes are
-- ordered), then compounds by arity, name, and arguments from the left.
abbrev pub term_cmp : Tree → Tree → Ordering
term_cmp (Variable m) (Variable n) = nat_cmp m n
term_cmp (Integer y) (Integer z) = int_cmp y z
term_cmp (Name a) (Name b) = slice_cmp nat_cmp a b
term_cmp (Apply f ts) (Apply g us) =
    ordering_then (nat_cmp (count ts) (count us)) (ordering_then (slice_cmp nat_cmp f g) (term_cmp ts us))
term_cmp End End = Equal
term_cmp (More t ts) (More u us) = ordering_then (term_cmp t u) (term_cmp ts us)
term_cmp t u = nat_cmp (kind t) (kind u)
