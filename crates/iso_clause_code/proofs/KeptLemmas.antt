-- What is kept of a clause stays so where names come.
use Rattle.std.proofs.Common.{ℕ, List, Some}
use Rattle.iso_atoms.specs.Texts.{KeepsTexts}
use Rattle.iso_model.specs.Terms.Trees.{count}
use Rattle.iso_model.specs.Search.Databases as databases
use Rattle.iso_alloc.specs.Plans.{arguments_of}
use Rattle.iso_instructions.specs.declared.instructions.Code.{Code}
use Rattle.iso_bodies.proofs.KeptLemmas.{code_kept, name_kept}
use Rattle.iso_clause_code.specs.Keeping.{KeepsCode}

pub code_stays : (old new : List (List ℕ)) (code : Code) (c : databases.Clause) → KeepsTexts old new → KeepsCode old code c → KeepsCode new code c
code_stays old new code c keeps h = record {
  plan = h.plan;
  compiled = h.compiled;
  planned = h.planned;
  is = h.is;
  loaded = code_kept old new keeps h.plan.registers (count (arguments_of (Some c.head))) c.variables h.compiled code h.loaded;
  name = name_kept old new keeps code.name c.head h.name;
  arity = h.arity;
  numbered = h.numbered;
  few = h.few;
  head = h.head;
  goals = h.goals;
}
