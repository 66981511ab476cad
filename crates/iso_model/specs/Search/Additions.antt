-- A clause is added to the database, or refused (ISO/IEC 13211-1:1995, 7.4.2, 7.6, 8.9; which checks are made, and in
-- which order, is own).
use Rattle.std.specs.Prelude.{ℕ, ◌+◌, Option, Some, None, codes, if◌then◌else◌, nat_lt}
use Rattle.std.specs.Str.{bytes_eq}
use Rattle.iso_model.specs.Terms.Trees.{Tree, Variable, Name, Apply, End, More}
use Rattle.iso_model.specs.Terms.Variables.{variable_count}
use Rattle.iso_model.specs.Terms.Copies.{copy_from}
use Rattle.iso_model.specs.Search.Bodies.{Body, converted}
use Rattle.iso_model.specs.Search.Table.{is_built_in}
use Rattle.iso_model.specs.Search.Databases.{Clause, Key, Kind, Static, Dynamic, Database, Procedures, Place, at_end, key, key_of, kind_at, is_static, with_clause}
use Rattle.iso_model.specs.Search.Errors.{instantiation_error, type_error_callable, permission_error, max_variables_error}

-- the head of a clause `Head :- Body`, or of a fact
abbrev pub head_of : Tree → Tree
head_of (Apply f (More h (More b End))) = if bytes_eq f (codes ":-") then h else Apply f (More h (More b End))
head_of t = t

-- the body of a clause; a fact's is `true`
abbrev pub body_of : Tree → Tree
body_of (Apply f (More h (More b End))) = if bytes_eq f (codes ":-") then b else Name (codes "true")
body_of t = Name (codes "true")

-- the most distinct variables that a clause may have (own limit)
abbrev pub most_variables : ℕ
most_variables = 65535

-- ---- the checks

-- why a clause can't be added: its head is a variable, a part of it can't be called, it has too many variables, or
-- its procedure is a built-in
pub data ClauseFault : Type 0 where
  UnboundHead : ClauseFault
  NotCallable : (culprit : Tree) → ClauseFault
  TooManyVariables : ClauseFault
  NotUser : (procedure : Key) → ClauseFault

-- A clause that may be added has a procedure and a converted body.
pub data Check : Type 0 where
  Fits : (procedure : Key) → (body : Body) → Check
  Faulty : (fault : ClauseFault) → Check

abbrev pub prepared_small : Tree → Key → Body → Check
prepared_small t k b = if nat_lt most_variables (variable_count t) then Faulty TooManyVariables else Fits k b

-- with the converted body of the clause with its variables numbered, where it can be converted
abbrev pub prepared_body : Tree → Key → Option Body → Check
prepared_body t k None = Faulty (NotCallable (body_of t))
prepared_body t k (Some b) = prepared_small t k b

-- with the key of its head, where the head is callable
abbrev pub prepared_head : Tree → Tree → Option Key → Check
prepared_head t (Variable n) k = Faulty UnboundHead
prepared_head t h None = Faulty (NotCallable h)
prepared_head t h (Some k) = prepared_body t k (converted (body_of (copy_from t 0)))

-- What a clause is whatever procedures there are. The checks are made in this order: a head that is a variable, a
-- head that is a number, a body that can't be converted, too many variables.
abbrev pub prepared : Tree → Check
prepared t = prepared_head t (head_of t) (key_of (head_of t))

-- no clause is added to a procedure of the language itself
abbrev pub user_checked : Check → Check
user_checked (Fits k b) = if is_built_in k then Faulty (NotUser k) else Fits k b
user_checked (Faulty fault) = Faulty fault

-- all checks, that of the procedure last
abbrev pub checked : Tree → Check
checked t = user_checked (prepared t)

-- goals change dynamic procedures alone (8.9.1.3)
abbrev pub dynamic_checked : Procedures → Check → Check
dynamic_checked ps (Fits k b) = if is_static (kind_at ps k) then Faulty (NotUser k) else Fits k b
dynamic_checked ps (Faulty fault) = Faulty fault

-- the error that this procedure raises for the fault
abbrev pub fault_error : Key → ClauseFault → Tree
fault_error by UnboundHead = instantiation_error by
fault_error by (NotCallable culprit) = type_error_callable culprit by
fault_error by TooManyVariables = max_variables_error by
fault_error by (NotUser k) = permission_error k by

-- ---- the addition

-- the clause of this number, with its variables numbered 0, 1, .. by first occurrence
abbrev pub clause_of : Tree → Body → ℕ → Clause
clause_of t b n = record { number = n; head = head_of (copy_from t 0); body = b; variables = variable_count t }

-- the database with the clause, whose procedure gets this kind where it is new
abbrev pub with_added : Place → Kind → Tree → Key → Body → Database → Database
with_added place kind t k b db = record { procedures = with_clause place kind db.procedures k (clause_of t b db.added); added = db.added + 1 }

-- what adding a clause comes to
pub data Addition : Type 0 where
  Adds : (after : Database) → Addition
  Refuses : (error : Tree) → Addition

abbrev pub addition_by : Place → Kind → Key → Tree → Database → Check → Addition
addition_by place kind by t db (Fits k b) = Adds (with_added place kind t k b db)
addition_by place kind by t db (Faulty fault) = Refuses (fault_error by fault)

-- the procedure that adds the clauses of a text, as errors name it (own)
abbrev pub consult_key : Key
consult_key = key (codes "consult") 1

-- a clause of the text comes at the end of its procedure, which is static where it is new
abbrev pub consulted : Tree → Database → Addition
consulted t db = addition_by at_end Static consult_key t db (checked t)

-- A goal of this procedure adds the clause at this place of its procedure, which is dynamic where it is new; or it
-- raises an error (8.9.1, 8.9.2).
abbrev pub asserted : Place → Key → Tree → Database → Addition
asserted place by t db = addition_by place Dynamic by t db (dynamic_checked db.procedures (checked t))
