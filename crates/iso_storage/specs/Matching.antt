-- The clauses of a procedure whose heads unify with a term, and clauses that are removed by their numbers.
use Rattle.std.specs.Prelude.{ℕ, List, [], ◌∷◌, map}
use Rattle.std.specs.List.{filter}
use Rattle.iso_model.specs.Terms.Trees.{Tree}
use Rattle.iso_model.specs.Search.Databases.{Clause}
use Rattle.iso_model.specs.Search.Storages.{head_unifies}
use Rattle.iso_db.specs.Databases.{Database, without_clause_at}

-- their numbers, where the term is compared with variables from this number on
abbrev pub matching_numbers : Tree → ℕ → List Clause → List ℕ
matching_numbers h next cs = map (λ c. c.number) (filter (head_unifies h next) cs)

-- the clauses of these numbers removed, one after another, from the procedure at a place
abbrev pub all_removed : {X : Type 0} → ℕ → List ℕ → Database X → Database X
all_removed place [] d = d
all_removed place (n ∷ ns) d = all_removed place ns (without_clause_at place n d)
