-- The side at which a clause is added.
use Rattle.std.specs.Prelude.{List, [], ◌∷◌, ◌++◌}
use Rattle.iso_clauses.specs.Clauses.{Clause}
use Rattle.iso_clauses.specs.declared.blocks.Side.{Side}
use Rattle.iso_clauses.specs.declared.blocks.Side.TheVariants.{First, Last}

-- where a clause comes that is added at this side
abbrev pub put_at_side : {C : Type 0} → Side → Clause C → List (Clause C) → List (Clause C)
put_at_side First c cs = c ∷ cs
put_at_side Last c cs = cs ++ c ∷ []
