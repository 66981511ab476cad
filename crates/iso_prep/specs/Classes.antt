-- In which goals of a clause its variables occur: by this a compiler gives them registers and places in environments
-- (texts on the Warren machine).
use Rattle.std.specs.Prelude.{ℕ, ◌+◌, List, [], ◌∷◌, ◌++◌, Bool, ◌||◌, ◌&&◌, ◌==◌, nat_lt, drop, Option, Some, None, if◌then◌else◌}
use Rattle.std.specs.List.{list_any}
use Rattle.iso_model.specs.Terms.Trees.{Tree, Variable, Integer, Name, Apply, End, More, row}
use Rattle.iso_model.specs.Terms.Variables.{occurs}
use Rattle.iso_model.specs.Search.Bodies.{Body, Cut, Run, And, Or, If, Choose}
use Rattle.iso_prep.specs.declared.classes.Class.{Class}
use Rattle.iso_prep.specs.declared.classes.Class.TheVariants.{Void, Temporary, Permanent}

-- the goals of a converted body, from the left through its control constructs
abbrev pub goals_of : Body → List Tree
goals_of Cut = []
goals_of (Run t) = t ∷ []
goals_of (And a b) = goals_of a ++ goals_of b
goals_of (Or a b) = goals_of a ++ goals_of b
goals_of (If c t) = goals_of c ++ goals_of t
goals_of (Choose c t e) = goals_of c ++ (goals_of t ++ goals_of e)

-- how often the variable occurs
abbrev pub occurrences : ℕ → Tree → ℕ
occurrences x (Variable n) = if n == x then 1 else 0
occurrences x (Integer z) = 0
occurrences x (Name a) = 0
occurrences x (Apply f ts) = occurrences x ts
occurrences x End = 0
occurrences x (More t ts) = occurrences x t + occurrences x ts

-- how many of the goals have the variable
abbrev pub goals_with : ℕ → List Tree → ℕ
goals_with x [] = 0
goals_with x (g ∷ gs) = (if occurs x g then 1 else 0) + goals_with x gs

-- whether it is needed behind a goal: in two goals of the body, or in the head and a goal behind the first
abbrev pub is_permanent : ℕ → Tree → List Tree → Bool
is_permanent x head goals = nat_lt 1 (goals_with x goals) || (occurs x head && list_any (occurs x) (drop 1 goals))

-- The class of a clause's variable: void where it occurs once, permanent where it is needed behind a goal, else
-- temporary.
abbrev pub class_in_clause : ℕ → Tree → List Tree → Class
class_in_clause x head goals =
    if nat_lt (occurrences x head + occurrences x (row goals)) 2 then Void else (if is_permanent x head goals then Permanent else Temporary)

-- all variables of a goal that is no clause are permanent, since their values are asked for behind it
abbrev pub class_of : ℕ → Option Tree → List Tree → Class
class_of x (Some head) goals = class_in_clause x head goals
class_of x None goals = Permanent

-- the last of the goals that has the variable, where this is the number of the first of them, and that of the last
-- before them
abbrev pub last_from : ℕ → ℕ → ℕ → List Tree → ℕ
last_from x number last [] = last
last_from x number last (g ∷ gs) = last_from x (number + 1) (if occurs x g then number else last) gs

-- the number of the last goal that has the variable, counted from 1; 0 where none has it
abbrev pub last_goal : ℕ → List Tree → ℕ
last_goal x goals = last_from x 1 0 goals
