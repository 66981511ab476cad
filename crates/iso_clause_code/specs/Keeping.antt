-- What the Warren machine keeps of a clause.
use Rattle.std.specs.Prelude.{◌≡◌, ◌≤◌, ℕ, List, Some}
use Rattle.iso_model.specs.Terms.Trees.{count}
use Rattle.iso_model.specs.Terms.Numbering.{next_number}
use Rattle.iso_model.specs.Search.Databases as databases
use Rattle.iso_model.specs.Search.Additions.{most_variables}
use Rattle.iso_prep.specs.Classes.{goals_of}
use Rattle.iso_prep.specs.Preparations.{Preparation}
use Rattle.iso_alloc.specs.Plans.{Layout, IsPlan, arguments_of}
use Rattle.iso_compile.specs.declared.clauses.Code as compiled
use Rattle.iso_compile.specs.Clauses.{IsCode}
use Rattle.iso_program.specs.Kept.{IsTemplate, AreTemplates}
use Rattle.iso_instructions.specs.declared.instructions.Code.{Code}
use Rattle.iso_bodies.specs.Clauses.{IsLoadedCode, IsNameOf}

-- the clause as it was prepared
abbrev pub preparation_of : databases.Clause → Preparation
preparation_of c = record { head = Some c.head; body = c.body; variables = c.variables }

-- The code is what the clause was compiled to, with some plan, and loaded, where these are the names of the atoms. It
-- has the name and the arity of the head. The clause's variables are numbered by first occurrence, and its head and its
-- goals can be made.
pub record KeepsCode (names : List (List ℕ)) (code : Code) (c : databases.Clause) : Type 0 where
  pub plan : Layout
  pub compiled : compiled.Code
  pub planned : IsPlan plan (preparation_of c)
  pub is : IsCode (preparation_of c) plan compiled
  pub loaded : IsLoadedCode names plan.registers (count (arguments_of (Some c.head))) c.variables compiled code
  pub name : IsNameOf names code.name c.head
  pub arity : code.arity ≡ count (arguments_of (Some c.head))
  pub numbered : (next : ℕ) × (next_number (arguments_of (Some c.head)) 0 ≡ Some next)
  pub few : c.variables ≤ most_variables
  pub head : IsTemplate c.variables c.head
  pub goals : AreTemplates c.variables (goals_of c.body)
