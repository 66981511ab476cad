-- Terms that clash, and clauses that a call may enter, as their first arguments show.
use Rattle.std.specs.Prelude.{◌≡◌, List, [], ◌∷◌, Bool, true, false, not, ◌&&◌, ◌==◌}
use Rattle.std.specs.Ordering.{int_eq}
use Rattle.std.specs.Str.{bytes_eq}
use Rattle.iso_model.specs.Terms.Trees.{Tree, Variable, Integer, Name, Apply, End, More, count}
use Rattle.iso_model.specs.Search.Databases.{Clause}

-- whether neither is a variable, and they are neither the same integer or atom nor compounds of one name and arity
abbrev pub clash : Tree → Tree → Bool
clash (Integer y) (Integer z) = not (int_eq y z)
clash (Integer y) (Name b) = true
clash (Integer y) (Apply g us) = true
clash (Name a) (Integer z) = true
clash (Name a) (Name b) = not (bytes_eq a b)
clash (Name a) (Apply g us) = true
clash (Apply f ts) (Integer z) = true
clash (Apply f ts) (Name b) = true
clash (Apply f ts) (Apply g us) = not (count ts == count us && bytes_eq f g)
clash t u = false

-- whether both have a first argument, and these clash
abbrev pub firsts_clash : Tree → Tree → Bool
firsts_clash (Apply f (More t ts)) (Apply g (More u us)) = clash t u
firsts_clash t u = false

-- whether the call may enter the clause, as first arguments show
abbrev pub may_enter : Tree → Clause → Bool
may_enter call c = not (firsts_clash call c.head)

-- it may enter each of the clauses
abbrev pub EachEnters : Tree → List Clause → Type 0
EachEnters call [] = Unit {0}
EachEnters call (c ∷ cs) = (may_enter call c ≡ true) × EachEnters call cs
