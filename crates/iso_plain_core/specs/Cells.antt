-- How many cells entering a clause and converting a goal take at most (own).
use Rattle.std.specs.Prelude.{ℕ, ◌+◌, List, [], ◌∷◌, Option, Some, None}
use Rattle.iso_store_core.specs.Presents.{Present, meaning}
use Rattle.iso_store_core.specs.declared.patterns.Pattern.{Pattern}
use Rattle.iso_program.specs.Heads.{head_term}
use Rattle.iso_program.specs.Written.{term_in}
use Rattle.iso_prep.specs.declared.bodies.Node.{Node}
use Rattle.iso_prep.specs.declared.bodies.Node.TheVariants as node
use Rattle.iso_program.specs.declared.clauses.Clause.{Clause}
use Rattle.iso_plain_core.specs.declared.conversion.Read.{Read}
use Rattle.iso_plain_core.specs.declared.conversion.Read.TheVariants.{Into, Whole, Number}
use Rattle.iso_plain_core.specs.declared.conversion.Task.{Task}
use Rattle.iso_plain_core.specs.declared.conversion.Task.TheVariants.{Second, Join, Next, Other, Choose}
use Rattle.iso_search_core.specs.Cells.{term_cells, conversion_cells}

-- ---- clauses that are entered

-- the part's goal, and the goals among parts, where these are the names of the atoms
abbrev pub part_cells : List (List ℕ) → Node Pattern → ℕ
part_cells names (node.Run g) = term_cells (term_in names g)
part_cells names part = 0

abbrev pub parts_cells : List (List ℕ) → List (Node Pattern) → ℕ
parts_cells names [] = 0
parts_cells names (part ∷ parts) = part_cells names part + parts_cells names parts

-- the clause's variables, its head and the goals among these parts of its body
abbrev pub entry_cells : {C : Type 0} → List (List ℕ) → Clause C → List (Node Pattern) → ℕ
entry_cells names c parts = c.variables + (term_cells (head_term names c) + parts_cells names parts)

-- ---- goals that are converted

-- what is left to be converted
module _ {W : Type 0} (q : Present W) where
  abbrev pub word_cells : W → ℕ
  word_cells w = conversion_cells (meaning q w)

  abbrev pub task_cells : Task W → ℕ
  task_cells (Second k w) = word_cells w
  task_cells (Join k i) = 0
  task_cells (Next t e) = word_cells t + word_cells e
  task_cells (Other i e) = word_cells e
  task_cells (Choose i j) = 0

  abbrev pub tasks_cells : List (Task W) → ℕ
  tasks_cells [] = 0
  tasks_cells (x ∷ xs) = task_cells x + tasks_cells xs

  abbrev pub next_cells : Option W → ℕ
  next_cells (Some w) = word_cells w
  next_cells None = 0

  abbrev pub read_cells : Read W → ℕ
  read_cells (Into w) = word_cells w
  read_cells Whole = 0
  read_cells Number = 0
