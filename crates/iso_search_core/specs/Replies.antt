-- What running a goal of a built-in makes of a store and of the lists, and what comes next.
use Rattle.std.specs.Prelude.{◌≡◌, ℕ, List, true, nat_lt, if◌then◌else◌, Result, Ok, Err}
use Rattle.iso_model.specs.Terms.Trees.{Tree, Name, Apply, arities_fit}
use Rattle.iso_model.specs.declared.pauses.Ball.{Ball}
use Rattle.iso_model.specs.Terms.TermOf.{term_of}
use Rattle.iso_model.specs.Terms.Arguments.{arity}
use Rattle.iso_model.specs.Terms.Substitutions.{Subst, apply}
use Rattle.iso_model.specs.Terms.Copies.{copy_from}
use Rattle.iso_model.specs.Terms.Unifiers.{Unifier, NeverEqual}
use Rattle.iso_model.specs.Search.Bodies.{Body, map_body}
use Rattle.iso_model.specs.Search.BuiltIns.{Reply, Fails, Succeeds, Equates, EquatesCopy, Raises, Calls, CallsOnce, Refutes, Repeats, Catches, Gathers, Halts, AsksWorld, Writes, AsList, InGroups, goal_reply}
use Rattle.iso_model.specs.Search.Errors.{Key, max_arity_error}
use Rattle.iso_model.specs.declared.built_ins.BuiltIn.{BuiltIn}
use Rattle.iso_model.specs.declared.built_ins.BuiltIn.TheVariants as built
use Rattle.iso_prep.specs.Conversions.{is_callable}
use Rattle.iso_store_core.specs.Presents.{Present, Binds, KeepsWords}
use Rattle.iso_store_core.specs.declared.shapes.StoreFault.{StoreFault}
use Rattle.iso_store_core.specs.declared.shapes.StoreFault.TheVariants as store_fault
use Rattle.iso_lib_core.specs.Replies.{IsUnbound, UnifiesCopy}
use Rattle.iso_lib_core.specs.declared.outcomes.Reply as answered
use Rattle.iso_lib_core.specs.declared.outcomes.Reply.TheVariants as outcome
use Rattle.iso_lib_core.specs.declared.outcomes.Fault.{Fault}
use Rattle.iso_lib_core.specs.declared.outcomes.Fault.TheVariants as fault
use Rattle.iso_search_core.specs.declared.goals.Placed.{Placed}
use Rattle.iso_search_core.specs.declared.goals.Placed.TheVariants as placed
use Rattle.iso_search_core.specs.declared.replies.Replied.{Replied}
use Rattle.iso_search_core.specs.declared.replies.Replied.TheVariants as replied
use Rattle.iso_search_core.specs.declared.lists.Lists.{Ghosts}
use Rattle.iso_search_core.specs.Cells.{IsBound}
use Rattle.iso_search_core.specs.Standing.{Keeps}

-- A goal that can be run: it is bound, and can be converted.
abbrev pub CanBeRun : Tree → Type 0
CanBeRun goal = IsBound goal × (is_callable goal ≡ true)

-- In whatever way the goal is run, this error is raised, which a store can hold.
abbrev pub IsRefused : Tree → Key → Ball → Type 0
IsRefused goal k ball = ((runs : Body → Reply) → goal_reply runs goal k ≡ Raises (term_of ball.term.value)) × (arities_fit (term_of ball.term.value) ≡ true)

-- an atom or a compound of this name
abbrev pub HasName : List ℕ → Tree → Type 0
HasName f (Name a) = a ≡ f
HasName f (Apply g ts) = g ≡ f
HasName f t = ⊥

-- neither an atom nor a compound
abbrev pub HasNoName : Tree → Type 0
HasNoName (Name a) = ⊥
HasNoName (Apply f ts) = ⊥
HasNoName t = Unit {0}

-- run in this way, where the goal has no more arguments than terms have
abbrev pub limited : Tree → Key → (Body → Reply) → Body → Reply
limited goal k runs b = if nat_lt 255 (arity goal) then Raises (max_arity_error k) else runs b

-- what a goal of `halt/1` comes to
abbrev pub IsHalt : {B : Type 0} → Reply → Replied B → Type 0
IsHalt (Raises error) (replied.Raises ball) = (term_of ball.term.value ≡ error) × (arities_fit (term_of ball.term.value) ≡ true)
IsHalt (Halts n) (replied.Halts status) = status ≡ n
IsHalt reply answer = ⊥

module _ {S L W M K P C N B O : Type 0} (l : Ghosts L S K P C N B O W M) where
  -- A body was placed whose goals have the values that those of b are; no binding changed.
  pub record Places (p q : Present W) (old new : L) (b : Body) (place : B) : Type 0 where
    pub keeps : Keeps l old new
    pub words : KeepsWords p q
    pub substitution : q.substitution ≡ p.substitution
    pub next : q.next ≡ p.next
    pub own : Body
    pub stands : l.body q new place own
    pub values : map_body p.substitution own ≡ b

  -- what running a goal comes to, in whatever way it is run
  abbrev pub IsRunAs : Present W → Present W → L → L → ((Body → Reply) → Reply) → Placed B → Type 0
  IsRunAs p q old new replied (placed.Body place) = (b : Body) × ((runs : Body → Reply) → replied runs ≡ runs b) × Places p q old new b place
  IsRunAs p q old new replied (placed.Raises ball) = (runs : Body → Reply) → replied runs ≡ Raises (term_of ball.term.value)

  -- where this procedure was called for it
  abbrev pub IsPlaced : Present W → Present W → L → L → Tree → Key → Placed B → Type 0
  IsPlaced p q old new goal k answer = IsRunAs p q old new (λ runs. goal_reply (limited goal k runs) goal k) answer

  -- Where an error is raised a store can hold it, and nothing was bound.
  abbrev pub IsRaising : Present W → Present W → Placed B → Type 0
  IsRaising p q (placed.Body place) = Unit {0}
  IsRaising p q (placed.Raises ball) = (arities_fit (term_of ball.term.value) ≡ true) × IsUnbound p q

  -- This error was raised, which a store can hold.
  pub record IsRaised (p q : Present W) (old new : L) (error : Tree) (ball : Ball) : Type 0 where
    pub is : term_of ball.term.value ≡ error
    pub fits : arities_fit (term_of ball.term.value) ≡ true
    pub unbound : IsUnbound p q
    pub keeps : Keeps l old new

  -- The answer is the one that the reply asks for. Where it fails nothing is said of the store; where a goal goes on
  -- the store is as before, or the unifier is bound.
  abbrev pub IsReply : Present W → Present W → L → L → Reply → Replied B → Type 0
  IsReply p q old new Fails replied.Fails = Keeps l old new
  IsReply p q old new Succeeds replied.GoesOn = (q ≡ p) × (new ≡ old)
  IsReply p q old new (Equates made a b) replied.GoesOn = ((s : Subst) × Unifier a b s × Binds p q s) × (new ≡ old)
  IsReply p q old new (Equates made a b) replied.Fails = NeverEqual a b × Keeps l old new
  IsReply p q old new (EquatesCopy a b) replied.GoesOn = UnifiesCopy p q a b × (new ≡ old)
  IsReply p q old new (EquatesCopy a b) replied.Fails = NeverEqual a (apply p.substitution (copy_from b p.next)) × Keeps l old new
  IsReply p q old new (Raises error) (replied.Raises ball) = IsRaised p q old new error ball
  IsReply p q old new (Catches (Calls b) catcher recovery) replied.Catches = (q ≡ p) × (new ≡ old)
  IsReply p q old new (Catches (Raises error) catcher recovery) (replied.RaisesInside ball) = IsRaised p q old new error ball
  IsReply p q old new (Halts n) (replied.Halts status) = status ≡ n
  IsReply p q old new (Calls b) (replied.Calls place) = Places p q old new b place
  IsReply p q old new (CallsOnce b) (replied.CallsOnce place) = Places p q old new b place
  IsReply p q old new (Refutes b) (replied.Refutes place) = Places p q old new b place
  IsReply p q old new (Gathers template b (AsList result)) replied.Gathers = (q ≡ p) × (new ≡ old)
  IsReply p q old new (Gathers template b (InGroups by)) (replied.Groups sorts) = (q ≡ p) × (new ≡ old) × (by.sorts ≡ sorts)
  IsReply p q old new Repeats replied.Repeats = (q ≡ p) × (new ≡ old)
  IsReply p q old new (AsksWorld settles) (replied.AsksSettings row) = (q ≡ p) × (new ≡ old)
  IsReply p q old new (AsksWorld settles) (replied.AsksDatabase row) = (q ≡ p) × (new ≡ old)
  IsReply p q old new (AsksWorld settles) (replied.TakesApart row) = (q ≡ p) × (new ≡ old)
  IsReply p q old new (Writes bytes) (replied.Writes row) = (q ≡ p) × (new ≡ old)
  IsReply p q old new (Raises error) (replied.Writes row) = (q ≡ p) × (new ≡ old)
  IsReply p q old new reply answer = ⊥

-- what a goal comes to that was answered so
abbrev pub replied_of : {B : Type 0} → Result answered.Reply Fault → Result (Replied B) StoreFault
replied_of (Ok outcome.Done) = Ok replied.GoesOn
replied_of (Ok outcome.Fail) = Ok replied.Fails
replied_of (Err (fault.Raise ball)) = Ok (replied.Raises ball)
replied_of (Err fault.Full) = Err store_fault.Full
replied_of (Err fault.NoMemory) = Err store_fault.NoMemory

-- Of this built-in: where it writes, takes atoms apart or asks what outlives a run, it is one of this row.
abbrev pub Asks : {B : Type 0} → BuiltIn → Replied B → Type 0
Asks b (replied.AsksSettings row) = b ≡ built.Setting row
Asks b (replied.AsksDatabase row) = b ≡ built.Storage row
Asks b (replied.TakesApart row) = b ≡ built.AtomPart row
Asks b (replied.Writes row) = b ≡ built.Output row
Asks b answer = Unit {0}
