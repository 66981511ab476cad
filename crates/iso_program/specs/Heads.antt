-- The parts of the heads of clauses that are kept.
use Rattle.std.specs.Prelude.{ℕ, List, take}
use Rattle.iso_model.specs.Terms.Trees.{Tree}
use Rattle.iso_store_core.specs.declared.patterns.Part.{Part}
use Rattle.iso_program.specs.Written.{term_of_parts}
use Rattle.iso_program.specs.declared.clauses.Clause.{Clause}

-- the first parts of the whole, as many as are those of the head
abbrev pub head_parts : {C : Type 0} → Clause C → List Part
head_parts kept = take kept.head kept.whole.parts.items

-- the head, where these are the names of the atoms
abbrev pub head_term : {C : Type 0} → List (List ℕ) → Clause C → Tree
head_term names kept = term_of_parts names (head_parts kept)
