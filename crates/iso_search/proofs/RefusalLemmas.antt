-- The error for which a clause is refused is well formed where the clause is.
use Rattle.std.proofs.Common.{◌≡◌, true, Option, Some, None, Result, Err, refl}
use Rattle.std.specs.Prelude.{false, nat_lt, if◌then◌else◌}
use Rattle.iso_model.specs.Terms.Trees.{Tree, Variable, arities_fit}
use Rattle.iso_model.specs.declared.pauses.AddFault.{AddFault}
use Rattle.iso_model.specs.Search.Bodies.{Body, converted}
use Rattle.iso_search.specs.Starts.{Comes}
use Rattle.iso_model.specs.Terms.Copies.{copy_from}
use Rattle.iso_store_core.specs.declared.stores.Store.{Ghosts}
use Rattle.iso_search.specs.declared.search.Search.{Search}
use Rattle.iso_model.specs.Terms.Variables.{variable_count}
use Rattle.iso_model.specs.Search.Walker.{World}
use Rattle.iso_model.specs.Search.Databases.{Database, Key, Static, key_of, at_end}
use Rattle.iso_model.specs.Search.Table.{is_built_in}
use Rattle.iso_model.specs.Search.Additions.{Addition, Adds, Refuses, Check, Fits, Faulty, ClauseFault, NotCallable, TooManyVariables, NotUser, head_of, body_of, most_variables, prepared, prepared_head, prepared_body, prepared_small, user_checked, checked, addition_by, consult_key, consulted, fault_error}
use Rattle.iso_model.specs.Search.Engines.{RefusesByTerm}
use Rattle.iso_model.specs.declared.pauses.AddFault.TheVariants as add
use Rattle.iso_search_core.specs.declared.lists.Lists as lists
use Rattle.iso_storage.proofs.AdditionLemmas.{head_fits, body_fits}

-- what is wrong with a clause names a part of it that fits
abbrev FaultFits : ClauseFault → Type 0
FaultFits (NotCallable culprit) = arities_fit culprit ≡ true
FaultFits other = Unit {0}

fault_fits : (by : Key) (f : ClauseFault) → FaultFits f → arities_fit (fault_error by f) ≡ true
fault_fits by (NotCallable culprit) h = rw h refl
fault_fits by f h = refl

-- the checks of a clause
abbrev CheckFits : Check → Type 0
CheckFits (Fits k b) = Unit {0}
CheckFits (Faulty fault) = FaultFits fault

small_fits : (t : Tree) (k : Key) (b : Body) → CheckFits (prepared_small t k b)
small_fits t k b = elim (nat_lt most_variables (variable_count t)) as (λ x. CheckFits (if x then Faulty TooManyVariables else Fits k b)) [ true ↦ tt | false ↦ tt ]

converted_fits : (t : Tree) (k : Key) (o : Option Body) → arities_fit (body_of t) ≡ true → CheckFits (prepared_body t k o)
converted_fits t k None h = h
converted_fits t k (Some b) h = small_fits t k b

key_fits : (t h : Tree) (o : Option Key) → arities_fit h ≡ true → arities_fit (body_of t) ≡ true → CheckFits (prepared_head t h o)
key_fits t (Variable n) o head body = tt
key_fits t x None head body = head
key_fits t x (Some k) head body = converted_fits t k (converted (body_of (copy_from t 0))) body

user_fits : (c : Check) → CheckFits c → CheckFits (user_checked c)
user_fits (Fits k b) h = elim (is_built_in k) as (λ x. CheckFits (if x then Faulty (NotUser k) else Fits k b)) [ true ↦ tt | false ↦ tt ]
user_fits (Faulty fault) h = h

-- what adding a clause comes to
abbrev AdditionFits : Addition → Type 0
AdditionFits (Adds db) = Unit {0}
AdditionFits (Refuses error) = arities_fit error ≡ true

addition_fits : (t : Tree) (db : Database) (c : Check) → CheckFits c → AdditionFits (addition_by at_end Static consult_key t db c)
addition_fits t db (Fits k b) h = tt
addition_fits t db (Faulty fault) h = fault_fits consult_key fault h

consulted_fits : (t : Tree) (db : Database) → arities_fit t ≡ true → AdditionFits (consulted t db)
consulted_fits t db h = addition_fits t db (checked t) (user_fits (prepared t) (key_fits t (head_of t) (key_of (head_of t)) (head_fits t h) (body_fits t h)))

module _ {S L W M K P C N B O : Type 0} (g : Ghosts S W M) (l : lists.Ghosts L S K P C N B O W M) where
  by_addition : (a : Addition) (w : World) (result : Result Unit AddFault) (e : Search S L W M K P C N B O) → AdditionFits a → Comes g l a w result e → RefusesByTerm result
  by_addition (Adds db) w (Err (add.Refused ball)) e fits comes = absurd comes
  by_addition (Refuses error) w (Err (add.Refused ball)) e fits comes = rw comes.0 fits
  by_addition a w result e fits comes = tt

  pub refuses_by_term : (t : Tree) (w : World) (result : Result Unit AddFault) (e : Search S L W M K P C N B O) → arities_fit t ≡ true → Comes g l (consulted t w.database) w result e → RefusesByTerm result
  refuses_by_term t w result e fits comes = by_addition (consulted t w.database) w result e (consulted_fits t w.database fits) comes
