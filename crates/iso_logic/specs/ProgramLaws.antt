-- Laws that lead from a program's terms to the database that its clauses make.
use Rattle.std.specs.Prelude.{◌≡◌, ◌↔◌, List, true}
use Rattle.iso_model.specs.Terms.Trees.{Tree}
use Rattle.iso_model.specs.Search.Databases.{Database, no_clauses}
use Rattle.iso_logic.specs.Provability.{Proves}
use Rattle.iso_logic.specs.DefinitePrograms.{are_terms, are_definite}
use Rattle.iso_logic.specs.ProgramProofs.{ProvedBy}
use Rattle.iso_logic.specs.DefiniteClauses.{IsDefinite}
use Rattle.iso_logic.specs.Consulting.{Consulted}

-- The first database is definite, and a definite database stays so where definite clauses are added.
abbrev pub ProgramsMakeDefiniteDatabases : Type 0
ProgramsMakeDefiniteDatabases =
    IsDefinite no_clauses.procedures
    × ((ts : List Tree) (db last : Database) → Consulted ts db last → are_terms ts ≡ true → are_definite ts ≡ true → IsDefinite db.procedures
    → IsDefinite last.procedures)

-- A database of definite clauses proves exactly what the program proves that it is made of.
abbrev pub ProgramsProveTheSame : Type 0
ProgramsProveTheSame =
    (program : List Tree) (db : Database) → Consulted program no_clauses db → are_terms program ≡ true → are_definite program ≡ true
    → (t : Tree) → Proves db.procedures t ↔ ProvedBy program t
