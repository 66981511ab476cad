-- The states of a search over definite clauses: what each keeps, and the leaves that its list and its alternatives
-- stand for.
use Rattle.std.proofs.Common.{◌≡◌, ℕ, List, [], ◌∷◌, ◌++◌}
use Rattle.iso_model.specs.Terms.Trees.{Tree}
use Rattle.iso_model.specs.Terms.Substitutions.{Subst, apply, Extends, IsSubstitution}
use Rattle.iso_model.specs.Terms.UnifierLaws.{AllBelow, StaysBelow}
use Rattle.iso_model.specs.Search.Bodies.{body_term}
use Rattle.iso_model.specs.Search.Databases.{Clause, Procedures, Key}
use Rattle.iso_model.specs.Search.Walker.{State, World, Member, Goal, CutTo, Fail, Leave, Raise, Meet, Gather, Left, AsIs, Again, Clauses, Catching, Gathering}
use Rattle.iso_model.specs.Search.Walker.{Offered, Groups, Alternative, Answered, Wrote, Ending, NoMore, Budget}
use Rattle.iso_model.specs.Search.Walker.{Uncaught, Halted, Outcome, Goes, Gives, Ends}
use Rattle.iso_logic.specs.Provability.{Among, HasClause, Proves}
use Rattle.iso_logic.specs.DefiniteClauses.{AreGoals, IsDefiniteClause}
use Rattle.iso_logic.specs.Leaves.{images, Leaves, Branches}
use Rattle.iso_logic.specs.Answers.{with_values}
use Rattle.iso_logic.proofs.GoalLemmas.{parts_of}

-- the list's goals are proved under the substitution
abbrev pub Holds : Procedures → Subst → List Member → Type 0
Holds ps s [] = Unit {0}
Holds ps s (Goal b m ∷ ms) = Proves ps (apply s (body_term b)) × Holds ps s ms
Holds ps s (CutTo h ∷ ms) = ⊥
Holds ps s (Fail ∷ ms) = ⊥
Holds ps s (Leave h ∷ ms) = ⊥
Holds ps s (Raise ball ∷ ms) = ⊥
Holds ps s (Meet ball catcher recovery ∷ ms) = ⊥
Holds ps s (Gather h template ∷ ms) = ⊥

-- the list has goals of user procedures alone
abbrev pub GoodList : ℕ → List Member → Type 0
GoodList n [] = Unit {0}
GoodList n (Goal b m ∷ ms) = AreGoals n b × GoodList n ms
GoodList n (CutTo h ∷ ms) = ⊥
GoodList n (Fail ∷ ms) = ⊥
GoodList n (Leave h ∷ ms) = ⊥
GoodList n (Raise ball ∷ ms) = ⊥
GoodList n (Meet ball catcher recovery ∷ ms) = ⊥
GoodList n (Gather h template ∷ ms) = ⊥

-- the goals of the list, with conjunctions taken apart
abbrev pub goals_in : List Member → List Tree
goals_in [] = []
goals_in (Goal b m ∷ ms) = parts_of b ++ goals_in ms
goals_in (CutTo h ∷ ms) = []
goals_in (Fail ∷ ms) = []
goals_in (Leave h ∷ ms) = []
goals_in (Raise ball ∷ ms) = []
goals_in (Meet ball catcher recovery ∷ ms) = []
goals_in (Gather h template ∷ ms) = []

-- A list of goals of the search for q: where they are proved, q is.
pub record Running (ps : Procedures) (q : Tree) (n : ℕ) (s : Subst) (ms : List Member) : Type 0 where
  pub substitution : IsSubstitution s
  pub below : StaysBelow n s
  pub query : AllBelow n q
  pub goals : GoodList n ms
  pub sound : (t : Subst) → Extends s t → Holds ps t ms → Proves ps (apply t q)

pub record Fine (ps : Procedures) (c : Clause) : Type 0 where
  pub key : Key
  pub has : HasClause ps c
  pub definite : IsDefiniteClause key c

-- Clauses that are tried for a call before a list of goals of the search for q.
pub record Trial (ps : Procedures) (q : Tree) (n : ℕ) (s : Subst) (call : Tree) (cs : List Clause) (ms : List Member) : Type 0 where
  pub substitution : IsSubstitution s
  pub below : StaysBelow n s
  pub query : AllBelow n q
  pub fixed : apply s call ≡ call
  pub call_below : AllBelow n call
  pub goals : GoodList n ms
  pub fine : (c : Clause) → Among c cs → Fine ps c
  pub sound : (t : Subst) → Extends s t → Proves ps (apply t call) → Holds ps t ms → Proves ps (apply t q)

abbrev pub TrialAt : Procedures → Tree → ℕ → Subst → List Member → Left → Type 0
TrialAt ps q n s ms (Clauses call cs) = Trial ps q n s call cs ms
TrialAt ps q n s ms AsIs = ⊥
TrialAt ps q n s ms Again = ⊥
TrialAt ps q n s ms (Catching catcher recovery) = ⊥
TrialAt ps q n s ms (Gathering collecting copies count) = ⊥
TrialAt ps q n s ms (Offered left rights) = ⊥
TrialAt ps q n s ms (Groups by groups) = ⊥

abbrev pub Entries : Procedures → Tree → List Alternative → Type 0
Entries ps q [] = Unit {0}
Entries ps q (a ∷ below) = TrialAt ps q a.next a.subst a.list a.left × Entries ps q below

-- the list of a state: goals, failure, or an error that nothing catches
pub data Ready (ps : Procedures) (q : Tree) (n : ℕ) (s : Subst) : List Member → Type 0 where
  running : {ms : List Member} → Running ps q n s ms → Ready ps q n s ms
  failing : {ms : List Member} → Ready ps q n s (Fail ∷ ms)
  raising : {ball : Tree} {ms : List Member} → GoodList n ms → Ready ps q n s (Raise ball ∷ ms)

pub record GoodParts (ps : Procedures) (q : Tree) (n : ℕ) (s : Subst) (ms : List Member) (stack : List Alternative) (w : World) (query : Tree) : Type 0 where
  pub world : w.database.procedures ≡ ps
  pub asks : query ≡ q
  pub list : Ready ps q n s ms
  pub entries : Entries ps q stack

abbrev pub Good : Procedures → Tree → State → Type 0
Good ps q s = GoodParts ps q s.next s.subst s.list s.stack s.world s.query

-- ---- leaves

-- the leaves of the list
abbrev pub Here : Procedures → Tree → Subst → List Member → List Tree → Type 0
Here ps q s [] l = Leaves ps [] (apply s q) l
Here ps q s (Goal b m ∷ ms) l = Leaves ps (images s (parts_of b ++ goals_in ms)) (apply s q) l
Here ps q s (Fail ∷ ms) l = l ≡ []
Here ps q s (CutTo h ∷ ms) l = ⊥
Here ps q s (Leave h ∷ ms) l = ⊥
Here ps q s (Raise ball ∷ ms) l = ⊥
Here ps q s (Meet ball catcher recovery ∷ ms) l = ⊥
Here ps q s (Gather h template ∷ ms) l = ⊥

abbrev pub LeavesAt : Procedures → Tree → Subst → List Member → Left → List Tree → Type 0
LeavesAt ps q s ms (Clauses call cs) l = Branches ps call cs (images s (goals_in ms)) (apply s q) l
LeavesAt ps q s ms AsIs l = ⊥
LeavesAt ps q s ms Again l = ⊥
LeavesAt ps q s ms (Catching catcher recovery) l = ⊥
LeavesAt ps q s ms (Gathering collecting copies count) l = ⊥
LeavesAt ps q s ms (Offered left rights) l = ⊥
LeavesAt ps q s ms (Groups by groups) l = ⊥

-- two parts of a list, of which P and Q hold
pub record Parts (P Q : List Tree → Type 0) (l : List Tree) : Type 0 where
  pub front : List Tree
  pub back : List Tree
  pub in_front : P front
  pub behind : Q back
  pub whole : l ≡ front ++ back

-- those of the stack
abbrev pub StackLeaves : Procedures → Tree → List Alternative → List Tree → Type 0
StackLeaves ps q [] l = l ≡ []
StackLeaves ps q (a ∷ below) l = Parts (LeavesAt ps q a.subst a.list a.left) (StackLeaves ps q below) l

-- those of a state
abbrev pub StateLeaves : Procedures → Tree → State → List Tree → Type 0
StateLeaves ps q s l = Parts (Here ps q s.subst s.list) (StackLeaves ps q s.stack) l

-- ---- what a step comes to

abbrev pub Ended : Ending → Type 0 → Type 0
Ended NoMore P = P
Ended Budget P = Unit {0}
Ended (Uncaught ball) P = Unit {0}
Ended (Halted status) P = Unit {0}

-- A step keeps the database, and a state good, an answer is proved, and the leaves of the state are the answer, where
-- one is given, and those of the next state.
abbrev pub Steps : Procedures → Tree → (List Tree → Type 0) → Outcome → Type 0
Steps ps q L (Goes t) = Good ps q t × ((l : List Tree) → StateLeaves ps q t l → L l)
Steps ps q L (Gives (Answered vs) t) = Good ps q t × Proves ps (with_values q vs) × ((l : List Tree) → StateLeaves ps q t l → L (with_values q vs ∷ l))
Steps ps q L (Gives (Wrote bytes) t) = ⊥
Steps ps q L (Ends e w) = (w.database.procedures ≡ ps) × Ended e (L [])
