-- Terms that no substitution can make equal by what stands at their tops (own).
use Rattle.std.specs.Prelude.{Bool, true, false, not, ◌&&◌, ◌==◌}
use Rattle.std.specs.Ordering.{int_eq}
use Rattle.std.specs.Str.{bytes_eq}
use Rattle.iso_model.specs.Terms.Trees.{Tree, Variable, Integer, Name, Apply, End, More, count}

-- Two terms clash where neither is a variable and they are neither the same integer or atom nor compounds of one name
-- and arity.
abbrev pub clash : Tree → Tree → Bool
clash (Variable n) u = false
clash t (Variable n) = false
clash (Integer y) (Integer z) = not (int_eq y z)
clash (Name a) (Name b) = not (bytes_eq a b)
clash (Apply f ts) (Apply g us) = not (bytes_eq f g && count ts == count us)
clash End End = false
clash (More t ts) (More u us) = false
clash t u = true
