-- What a clause or a goal is once it is prepared, and what preparing it answers (ISO/IEC 13211-1:1995, 7.6).
use Rattle.std.specs.Prelude.{◌≡◌, ℕ, Option, Some, None, Result, Ok, Err}
use Rattle.iso_model.specs.Terms.Trees.{Tree}
use Rattle.iso_model.specs.Terms.TermOf.{term_of}
use Rattle.iso_model.specs.Terms.Variables.{variable_count}
use Rattle.iso_model.specs.Terms.Copies.{copy_from}
use Rattle.iso_model.specs.Search.Bodies.{Body}
use Rattle.iso_model.specs.Search.Additions.{Check, Fits, Faulty, UnboundHead, NotCallable, TooManyVariables, head_of}
use Rattle.iso_prep.specs.declared.fault.Fault.{Fault}
use Rattle.iso_prep.specs.declared.fault.Fault.TheVariants as fault

-- A head, where it is a clause's; the converted body; and how many variables there are, numbered 0, 1, .. by first
-- occurrence.
pub record Preparation : Type 0 where
  pub head : Option Tree
  pub body : Body
  pub variables : ℕ

-- what a clause becomes, with this converted body
abbrev pub clause_preparation : Tree → Body → Preparation
clause_preparation t b = record { head = Some (head_of (copy_from t 0)); body = b; variables = variable_count t }

-- what a goal becomes
abbrev pub goal_preparation : Tree → Body → Preparation
goal_preparation t b = record { head = None; body = b; variables = variable_count t }

-- what preparing a clause answers, by the checks of the definitions; memory may be refused at any time
abbrev pub PreparesClause : {P : Type 0} → (P → Preparation) → Tree → Check → Result P Fault → Type 0
PreparesClause view t check (Err fault.NoMemory) = Unit {0}
PreparesClause view t (Fits k b) (Ok p) = view p ≡ clause_preparation t b
PreparesClause view t (Faulty f) (Ok p) = ⊥
PreparesClause view t (Faulty UnboundHead) (Err fault.Instantiation) = Unit {0}
PreparesClause view t (Faulty (NotCallable c)) (Err (fault.Callable culprit)) = term_of culprit ≡ c
PreparesClause view t (Faulty TooManyVariables) (Err fault.TooManyVariables) = Unit {0}
PreparesClause view t check (Err f) = ⊥

-- what preparing a goal answers: where it can't be converted all of it is the culprit
abbrev pub PreparesGoal : {P : Type 0} → (P → Preparation) → Tree → Option Body → Result P Fault → Type 0
PreparesGoal view t o (Err fault.NoMemory) = Unit {0}
PreparesGoal view t (Some b) (Ok p) = view p ≡ goal_preparation t b
PreparesGoal view t None (Ok p) = ⊥
PreparesGoal view t None (Err (fault.Callable culprit)) = term_of culprit ≡ t
PreparesGoal view t o (Err f) = ⊥
