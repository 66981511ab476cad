-- The body of a clause that was entered, as members of the search's list.
use Rattle.std.specs.Prelude.{◌≡◌, ℕ, List, length, true}
use Rattle.std.specs.List.{All}
use Rattle.iso_model.specs.Search.Databases as databases
use Rattle.iso_model.specs.Search.Walker.{Member}
use Rattle.iso_store_core.specs.Presents.{Present, Holds}
use Rattle.iso_compile.specs.Clauses.{body_members}
use Rattle.iso_search_core.specs.Words.{word_terms}
use Rattle.iso_instructions.specs.declared.instructions.Code.{Code}
use Rattle.iso_clause_code.specs.Keeping.{KeepsCode}
use Rattle.iso_frames.specs.Running.{Knows, placed}

-- The words are for the variables of the clause, whose code this is: as many, and all of them are held. The atoms that
-- have these names are known.
pub record HasEnvironment {W : Type 0} (atom_word : ℕ → W) (p : Present W) (names : List (List ℕ)) (code : Code)
    (c : databases.Clause) (words : List W) : Type 0 where
  pub keeps : KeepsCode names code c
  pub known : Knows atom_word p names
  pub many : length words ≡ code.variables
  pub hold : All (Holds p) words

-- what the body of the clause is, where its variables have these words, it was called at this height, and no slot keeps
-- a level
abbrev pub clause_members : {W : Type 0} → Present W → List W → ℕ → databases.Clause → List Member
clause_members p words height c = placed (word_terms p words) height (λ slot. 0) (body_members true c.body)
