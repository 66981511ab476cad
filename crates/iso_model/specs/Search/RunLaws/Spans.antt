-- How far a state reaches: its members and its alternatives, where an alternative counts while a clause that is left
-- may be entered. A bound on what an engine keeps is said by it.
use Rattle.std.specs.Prelude.{◌+◌, ◌*◌, ◌<◌, ℕ, List, [], ◌∷◌, length, Bool, true, false, ◌||◌, if◌then◌else◌}
use Rattle.iso_model.specs.Terms.Trees.{Tree}
use Rattle.iso_model.specs.Search.Databases.{Clause}
use Rattle.iso_model.specs.Search.Clashes.{may_enter}
use Rattle.iso_model.specs.Search.Runs.{Reaches}
use Rattle.iso_model.specs.Search.Walker.{State, Left, AsIs, Again, Clauses, Catching, Gathering, Offered, Groups, Alternative}

-- for any test by which clauses are ruled out for a call (of a static procedure: by first arguments; of a dynamic one
-- none is)
module _ (enters : Tree → Clause → Bool) where
  abbrev pub some_enters : Tree → List Clause → Bool
  some_enters call [] = false
  some_enters call (c ∷ cs) = enters call c || some_enters call cs

  -- whether the alternative counts
  abbrev pub counts : Left → Bool
  counts (Clauses call cs) = some_enters call cs
  counts AsIs = true
  counts Again = true
  counts (Catching catcher recovery) = true
  counts (Gathering result copies count) = true
  counts (Offered left rights) = true
  counts (Groups by groups) = true

  abbrev pub stack_span : List Alternative → ℕ
  stack_span [] = 0
  stack_span (a ∷ below) = (if counts a.left then 1 + length a.list else 0) + stack_span below

  abbrev pub span : State → ℕ
  span s = 3 * (1 + (length s.list + stack_span s.stack))

-- Some steps without an event lead to a state that spans more than this, where first arguments rule clauses out.
abbrev pub ComesBeyond : ℕ → State → Type 0
ComesBeyond most s = Reaches s (λ t. most < span may_enter t)
