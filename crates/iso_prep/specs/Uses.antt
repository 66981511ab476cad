-- How the variables of a clause are used, found in one pass: its head is goal 0, and its goals are 1, 2, ..
use Rattle.std.specs.Prelude.{◌≡◌, ℕ, ◌+◌, ◌<◌, min, List, [], ◌∷◌, ◌++◌, length, ◌||◌, ◌==◌, false, Option, Some, None, get_or, if◌then◌else◌}
use Rattle.std.specs.List.{slice_get, slice_set}
use Rattle.std.specs.Borrow.{Bor}
use Rattle.iso_model.specs.declared.terms.Term.{Term}
use Rattle.iso_model.specs.Terms.Trees.{Tree, Variable, Integer, Name, Apply, End, More, row}
use Rattle.iso_model.specs.Terms.TermOf.{term_of, row_of}
use Rattle.iso_model.specs.Terms.Variables.{occurs}
use Rattle.iso_prep.specs.declared.uses.Use.{Use}
use Rattle.iso_prep.specs.Classes.{occurrences, last_goal, goals_of}
use Rattle.iso_prep.specs.Preparations.{Preparation}
use Rattle.iso_prep.specs.Readings.{read}

-- no use
abbrev pub unused : Use
unused = record { times = 0; in_head = false; first = 0; last = 0 }

-- one use more, in this goal
abbrev pub noted : ℕ → Use → Use
noted place u = record { times = min 2 (u.times + 1); in_head = u.in_head || place == 0; first = if u.first == 0 then place else u.first; last = place }

-- the uses with this variable noted in this goal
abbrev pub with_use : ℕ → ℕ → List Use → List Use
with_use place x us = slice_set us x (noted place (get_or us x unused))

-- the uses with each variable of the term noted in this goal, from the left
abbrev pub with_term : ℕ → Tree → List Use → List Use
with_term place (Variable n) us = with_use place n us
with_term place (Integer z) us = us
with_term place (Name a) us = us
with_term place (Apply f ts) us = with_term place ts us
with_term place End us = us
with_term place (More t ts) us = with_term place ts (with_term place t us)

-- with rows of terms, the last of which comes first
abbrev pub with_rows : ℕ → List (Bor (List Term)) → List Use → List Use
with_rows place [] us = us
with_rows place (row ∷ rows) us = with_term place (row_of row.now) (with_rows place rows us)

-- with goals, the first of which has this number
abbrev pub with_goals : ℕ → List Tree → List Use → List Use
with_goals number [] us = us
with_goals number (g ∷ gs) us = with_goals (number + 1) gs (with_term number g us)

-- the first of the goals that has the variable, where this is the number of the first of them; 0 where none has it
abbrev pub first_from : ℕ → ℕ → List Tree → ℕ
first_from x number [] = 0
first_from x number (g ∷ gs) = if occurs x g then number else first_from x (number + 1) gs

-- how the variable is used
abbrev pub use_of : ℕ → Tree → List Tree → Use
use_of x head goals = record { times = min 2 (occurrences x head + occurrences x (row goals)); in_head = occurs x head; first = first_from x 1 goals; last = last_goal x goals }

-- the head, or a term without variables where there is none
abbrev pub head_or_end : Option Tree → Tree
head_or_end (Some h) = h
head_or_end None = End

-- These are the uses of variables 0, 1, .., so many.
pub record AreUses (us : List Use) (count : ℕ) (head : Tree) (goals : List Tree) : Type 0 where
  pub many : length us ≡ count
  pub each : (x : ℕ) → x < count → slice_get us x ≡ Some (use_of x head goals)

-- These are the uses of the variables of what is prepared.
abbrev pub AreUsesOf : List Use → Preparation → Type 0
AreUsesOf us p = AreUses us p.variables (head_or_end p.head) (goals_of p.body)

-- the goals of bodies that are gone through, the last one first
abbrev pub goals_left : List (Bor Term) → List Tree
goals_left [] = []
goals_left (t ∷ ts) = goals_left ts ++ goals_of (read (term_of t.now))

-- the goals as terms
abbrev pub goal_terms : List (Bor Term) → List Tree
goal_terms [] = []
goal_terms (t ∷ ts) = term_of t.now ∷ goal_terms ts
