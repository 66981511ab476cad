-- Rows of terms that are still to be gone through, the last of which comes first.
use Rattle.std.specs.Prelude.{ℕ, ◌+◌, ◌*◌, List, [], ◌∷◌}
use Rattle.std.specs.Borrow.{Bor}
use Rattle.iso_model.specs.declared.terms.Term.{Term}
use Rattle.iso_model.specs.Terms.TermOf.{row_of}
use Rattle.iso_model.specs.Terms.Sizes.{size}
use Rattle.iso_model.specs.Terms.Variables.{distinct_from}

-- the variables seen once all rows are gone through
abbrev pub rows_seen : List ℕ → List (Bor (List Term)) → List ℕ
rows_seen seen [] = seen
rows_seen seen (row ∷ rows) = distinct_from (rows_seen seen rows) (row_of row.now)

-- how much there is to do at most of a row
abbrev pub row_load : Bor (List Term) → ℕ
row_load row = 1 + 2 * size (row_of row.now)
