-- What running a goal of a built-in makes of a store, and what it answers.
use Rattle.std.specs.Prelude.{◌≡◌, ◌≤◌, ◌+◌, ℕ, ℤ, Bool, true, Result, Ok, Err, MatchBool}
use Rattle.iso_model.specs.Terms.Trees.{Tree, arities_fit}
use Rattle.iso_model.specs.Terms.TermOf.{term_of}
use Rattle.iso_model.specs.Terms.Substitutions.{Subst, apply, compose}
use Rattle.iso_model.specs.Terms.Copies.{copy_from}
use Rattle.iso_model.specs.Terms.Variables.{variable_count}
use Rattle.iso_model.specs.Terms.Unifiers.{Unifier, NeverEqual}
use Rattle.iso_model.specs.Search.Keys.{Key}
use Rattle.iso_model.specs.Search.Errors.{raised}
use Rattle.iso_model.specs.Search.Arithmetic.{Value}
use Rattle.iso_model.specs.Search.Replies.{Answer, Fail, Succeed, Equate, EquateCopy, Raise}
use Rattle.iso_model.specs.declared.pauses.Ball.{Ball}
use Rattle.iso_store_core.specs.Presents.{Present, Binds, KeepsWords}
use Rattle.iso_store_core.specs.declared.shapes.StoreFault.{StoreFault}
use Rattle.iso_store_core.specs.declared.shapes.StoreFault.TheVariants as store_fault
use Rattle.iso_lib_core.specs.declared.outcomes.Reply.{Reply}
use Rattle.iso_lib_core.specs.declared.outcomes.Reply.TheVariants as reply
use Rattle.iso_lib_core.specs.declared.outcomes.Fault.{Fault}
use Rattle.iso_lib_core.specs.declared.outcomes.Fault.TheVariants as fault

-- a fault of the store
abbrev pub fault_of : StoreFault → Fault
fault_of store_fault.Full = fault.Full
fault_of store_fault.NoMemory = fault.NoMemory

-- Nothing was bound: words may have come.
pub record IsUnbound {W : Type 0} (p q : Present W) : Type 0 where
  pub words : KeepsWords p q
  pub substitution : q.substitution ≡ p.substitution
  pub next : q.next ≡ p.next

-- the ball is this error, which a store can hold
abbrev pub IsError : Tree → Ball → Type 0
IsError error ball = (term_of ball.term.value ≡ error) × (arities_fit (term_of ball.term.value) ≡ true)

-- The fault is that this error was raised, or that memory was refused.
abbrev pub IsFault : Tree → Fault → Type 0
IsFault error (fault.Raise ball) = IsError error ball
IsFault error fault.Full = ⊥
IsFault error fault.NoMemory = Unit {0}

-- the most variables of a term that is copied for a goal
abbrev pub most_copied : ℕ
most_copied = 536870912

-- The term a was unified with a copy of b, whose variables are numbered from the next number on.
pub record UnifiesCopy {W : Type 0} (p q : Present W) (a b : Tree) : Type 0 where
  pub unifier : Subst
  pub is : Unifier a (apply p.substitution (copy_from b p.next)) unifier
  pub substitution : q.substitution ≡ compose p.substitution unifier
  pub next : q.next ≡ p.next + variable_count b
  pub words : KeepsWords p q
  pub few : variable_count b ≤ most_copied

-- they were, or can't be
abbrev pub MeetsCopy : {W : Type 0} → Present W → Present W → Tree → Tree → Bool → Type 0
MeetsCopy p q a b answer = MatchBool answer (UnifiesCopy p q a b) (NeverEqual a (apply p.substitution (copy_from b p.next)))

-- The goal succeeded: the store is as before, or the unifier is bound.
abbrev pub IsDone : {W : Type 0} → Present W → Present W → Answer → Type 0
IsDone p q Succeed = q ≡ p
IsDone p q (Equate made a b) = (s : Subst) × Unifier a b s × Binds p q s
IsDone p q (EquateCopy a b) = UnifiesCopy p q a b
IsDone p q Fail = ⊥
IsDone p q (Raise error) = ⊥

-- It failed; nothing is said of what is bound then.
abbrev pub IsFailed : {W : Type 0} → Present W → Answer → Type 0
IsFailed p Fail = Unit {0}
IsFailed p (Equate made a b) = NeverEqual a b
IsFailed p (EquateCopy a b) = NeverEqual a (apply p.substitution (copy_from b p.next))
IsFailed p Succeed = ⊥
IsFailed p (Raise error) = ⊥

-- This error was raised.
abbrev pub IsRaised : {W : Type 0} → Present W → Present W → Answer → Ball → Type 0
IsRaised p q (Raise error) ball = IsError error ball × IsUnbound p q
IsRaised p q answer ball = ⊥

-- What is answered is what the table's answer asks for; the store may be full, or memory refused, at any time.
abbrev pub IsReply : {W : Type 0} → Present W → Present W → Answer → Result Reply Fault → Type 0
IsReply p q answer (Ok reply.Done) = IsDone p q answer
IsReply p q answer (Ok reply.Fail) = IsFailed p answer
IsReply p q answer (Err (fault.Raise ball)) = IsRaised p q answer ball
IsReply p q answer (Err fault.Full) = Unit {0}
IsReply p q answer (Err fault.NoMemory) = Unit {0}

-- The answer is the value of an expression, or the error that this procedure raises where it has none.
abbrev pub IsNumber : Value → Key → Result ℤ Fault → Type 0
IsNumber v k (Ok z) = v ≡ Ok z
IsNumber v k (Err (fault.Raise ball)) = (error : Tree) × (v ≡ Err error) × IsError (raised error k) ball
IsNumber v k (Err fault.Full) = ⊥
IsNumber v k (Err fault.NoMemory) = Unit {0}
