-- The evaluables, by the atoms of their names.
use Rattle.std.specs.Prelude.{◌≡◌, ℕ, List, map}
use Rattle.iso_atoms.specs.Texts.{text_at}
use Rattle.iso_model.specs.Search.Arithmetic.{operations_of_one, operations_of_two}
use Rattle.iso_arith.specs.declared.evaluables.Evaluables.{Evaluables}
use Rattle.iso_arith.specs.Operations.{does_unary, does_binary}
use Rattle.iso_arith.specs.Tables.{HaveNames}

-- an entry by its name and what it does, where these are the names of the atoms
abbrev pub meant_by : {O A : Type 0} → (O → A) → List (List ℕ) → ℕ × O → List ℕ × A
meant_by does names e = (text_at names e.0, does e.1)

-- The table has these operations, in their order.
pub record Means {O A : Type 0} (does : O → A) (names : List (List ℕ)) (table : List (ℕ × O)) (operations : List (List ℕ × A)) : Type 0 where
  pub within : HaveNames names table
  pub meant : map (meant_by does names) table ≡ operations

-- These are the evaluables, where these are the names of the atoms.
pub record AreEvaluables (names : List (List ℕ)) (e : Evaluables) : Type 0 where
  pub unary : Means does_unary names e.unary.items operations_of_one
  pub binary : Means does_binary names e.binary.items operations_of_two
