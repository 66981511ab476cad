-- Clauses as they are kept, and the checks by which they come.
use Rattle.std.specs.Prelude.{◌≡◌, ℕ, ◌<◌, ◌≤◌, List, [], ◌∷◌, Some, IfSome, Result, Ok, Err, codes, true, false}
use Rattle.iso_atoms.specs.Texts.{KeepsTexts}
use Rattle.iso_model.specs.Terms.Trees.{Tree}
use Rattle.iso_model.specs.Terms.Sorts.{is_term}
use Rattle.iso_model.specs.Terms.TermOf.{term_of}
use Rattle.iso_model.specs.Terms.Variables.{occurs}
use Rattle.iso_model.specs.Search.Bodies.{Body, body_term, converted, two}
use Rattle.iso_model.specs.Search.Databases as databases
use Rattle.iso_model.specs.Search.Databases.{Key, key_of}
use Rattle.iso_model.specs.Search.BuiltIns.{is_built_in}
use Rattle.iso_model.specs.Search.Errors.{permission_error}
use Rattle.iso_model.specs.Search.Additions.{most_variables, Check, Fits, Faulty, UnboundHead, NotCallable, TooManyVariables, checked, prepared, fault_error, clause_of}
use Rattle.iso_model.specs.declared.pauses.AddFault.{AddFault}
use Rattle.iso_model.specs.declared.pauses.AddFault.TheVariants as add
use Rattle.iso_store_core.specs.Patterns.{IsPattern}
use Rattle.iso_prep.specs.declared.fault.Fault.{Fault}
use Rattle.iso_prep.specs.declared.fault.Fault.TheVariants as fault
use Rattle.iso_prep.specs.Classes.{goals_of}
use Rattle.iso_prep.specs.Preparations.{Preparation, clause_preparation}
use Rattle.iso_prep.specs.PreparationLaws.{HasTerms}
use Rattle.iso_program.specs.declared.checked.Checked.{Checked}
use Rattle.iso_program.specs.declared.clauses.Clause.{Clause}
use Rattle.iso_program.specs.Heads.{head_parts}
use Rattle.iso_program.specs.Written.{IsPatternOf, Fits as FitsPlaces}

-- A callable term whose variables are below n.
pub record IsTemplate (n : ℕ) (t : Tree) : Type 0 where
  pub is : is_term t ≡ true
  pub key : (k : Key) × (key_of t ≡ Some k)
  pub below : (x : ℕ) → occurs x t ≡ true → x < n

-- Each of the terms is one.
abbrev pub AreTemplates : ℕ → List Tree → Type 0
AreTemplates n [] = Unit {0}
AreTemplates n (t ∷ ts) = IsTemplate n t × AreTemplates n ts

-- The term is that of this converted body.
pub record IsBodyTerm (t : Tree) (b : Body) : Type 0 where
  pub term : body_term b ≡ t
  pub body : converted t ≡ Some b

-- the clause as a term
abbrev pub clause_term : databases.Clause → Tree
clause_term c = two (codes ":-") c.head (body_term c.body)

-- A term becomes this as a clause, with this body: the variables are numbered 0, 1, .. by first occurrence.
pub record IsOfTerm (p : Preparation) (b : Body) : Type 0 where
  pub clause : Tree
  pub term : is_term clause ≡ true
  pub is : p ≡ clause_preparation clause b

-- What was checked is the clause of the database.
pub record IsChecked (kept : Checked) (c : databases.Clause) : Type 0 where
  pub head : kept.prepared.head ≡ Some c.head
  pub body : kept.prepared.body ≡ c.body
  pub variables : kept.prepared.variables ≡ c.variables
  pub numbered : IsOfTerm kept.prepared c.body
  pub terms : HasTerms kept.prepared
  pub body_term : IsBodyTerm (body_term c.body) c.body
  pub few : c.variables ≤ most_variables
  pub head_template : IsTemplate c.variables c.head
  pub goal_templates : AreTemplates c.variables (goals_of c.body)

-- what an engine keeps of a clause: of which clause it is, where these are the names of the atoms
abbrev pub Keeping : Type 0 → Type 1
Keeping C = List (List ℕ) → C → databases.Clause → Type 0

-- What is kept of a clause stays so where names come.
abbrev pub StaysKept : {C : Type 0} → Keeping C → Type 0
StaysKept {C = C} keeps = (old new : List (List ℕ)) (own : C) (c : databases.Clause) → KeepsTexts old new
    → keeps old own c → keeps new own c

-- The clause of the database is kept so.
pub record IsClause {C : Type 0} (keeps : Keeping C) (names : List (List ℕ)) (kept : Clause C) (c : databases.Clause)
    : Type 0 where
  pub head : IsPattern names (head_parts kept) c.head
  pub whole : IsPatternOf names kept.whole (clause_term c)
  pub fits : FitsPlaces c.variables (clause_term c)
  pub variables : kept.variables ≡ c.variables
  pub few : c.variables ≤ most_variables
  pub head_template : IsTemplate c.variables c.head
  pub own : keeps names kept.own c

-- What was made ready is this clause, which fits but for its procedure.
pub record IsReady (p : Preparation) (t : Tree) : Type 0 where
  pub key : Key
  pub body : Body
  pub term : is_term t ≡ true
  pub fits : prepared t ≡ Fits key body
  pub is : p ≡ clause_preparation t body

-- the checks found a fault, for which this procedure raises this error
abbrev pub IsRefused : Key → Check → Tree → Type 0
IsRefused by (Fits k b) error = ⊥
IsRefused by (Faulty fault) error = fault_error by fault ≡ error

-- What refuses a clause that wasn't made ready for this reason.
abbrev pub Refuses : Key → Fault → AddFault → Type 0
Refuses by fault.Instantiation (add.Refused ball) = term_of ball.term.value ≡ fault_error by UnboundHead
Refuses by (fault.Callable culprit) (add.Refused ball) =
    term_of ball.term.value ≡ fault_error by (NotCallable (term_of culprit))
Refuses by fault.TooManyVariables (add.Refused ball) = term_of ball.term.value ≡ fault_error by TooManyVariables
Refuses by fault.NoMemory (add.Refused ball) = ⊥
Refuses by fault add.NoMemory = Unit {0}

-- The head is that of no built-in, or the clause is refused.
abbrev pub ChecksUser : Key → Key → Result Unit AddFault → Type 0
ChecksUser by k (Ok u) = is_built_in k ≡ false
ChecksUser by k (Err (add.Refused ball)) = (is_built_in k ≡ true) × (term_of ball.term.value ≡ permission_error k by)
ChecksUser by k (Err add.NoMemory) = Unit {0}

-- The clause may be added, whatever its number will be.
pub record IsAddition (t : Tree) (kept : Checked) : Type 0 where
  pub body : Body
  pub key : Key
  pub clause : (n : ℕ) → IsChecked kept (clause_of t body n)
  pub named : IfSome kept.prepared.head (λ head. key_of head ≡ Some key)
  pub user : is_built_in key ≡ false
  pub fits : checked t ≡ Fits key body

-- The clause is to be added, or refused with the error that this procedure raises.
abbrev pub Prepares : Key → Tree → Result Checked AddFault → Type 0
Prepares by t (Ok kept) = IsAddition t kept
Prepares by t (Err (add.Refused ball)) = IsRefused by (checked t) (term_of ball.term.value)
Prepares by t (Err add.NoMemory) = Unit {0}
