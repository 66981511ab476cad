-- Cut marks: each is a height at which the stack stands still, and what follows a mark is marked over what the mark
-- leaves of the stack. The end of a catch's goal is marked by the height at which the catch's alternative stands; of
-- the end of a findall's goal nothing is said. Every step keeps this, so an engine may keep its alternatives in one
-- stack, a cut gives back the newest of them, and a thrown ball finds its catch.
use Rattle.std.proofs.Common.{◌≡◌, ℕ, List, [], ◌∷◌, length}
use Rattle.iso_model.specs.Terms.Trees.{Tree}
use Rattle.iso_model.specs.Search.Bodies.{Body}
use Rattle.iso_model.specs.Search.Walker.{State, Member, Goal, CutTo, Fail, Leave, Raise, Meet, Gather, Left, Catching, Alternative, Outcome, Goes, Gives, Ends}

-- The first stack is what is left of the second when some of its newest alternatives are taken away.
pub data Under : List Alternative → List Alternative → Type 0 where
  all : {low : List Alternative} → Under low low
  above : {low stack : List Alternative} {a : Alternative} → Under low stack → Under low (a ∷ stack)

-- the alternative is the entry of a catch
abbrev pub IsCatching : Left → Type 0
IsCatching (Catching catcher recovery) = Unit {0}
IsCatching left = ⊥

-- Over this stack the list's marks are heights that stand, and what follows each is marked over what it leaves.
pub data Marked : List Alternative → List Member → Type 0 where
  done : {stack : List Alternative} → Marked stack []
  goal : {low stack : List Alternative} {b : Body} {m : ℕ} {rest : List Member} → Under low stack → length low ≡ m → Marked low rest → Marked stack (Goal b m ∷ rest)
  cut : {low stack : List Alternative} {m : ℕ} {rest : List Member} → Under low stack → length low ≡ m → Marked low rest → Marked stack (CutTo m ∷ rest)
  failing : {low stack : List Alternative} {rest : List Member} → Under low stack → Marked low rest → Marked stack (Fail ∷ rest)
  leaving : {low stack : List Alternative} {a : Alternative} {h : ℕ} {rest : List Member} → Under (a ∷ low) stack → length low ≡ h → IsCatching a.left → Marked low rest → Marked stack (Leave h ∷ rest)
  raising : {low stack : List Alternative} {ball : Tree} {rest : List Member} → Under low stack → Marked low rest → Marked stack (Raise ball ∷ rest)
  meeting : {low stack : List Alternative} {ball catcher recovery : Tree} {rest : List Member} → Under low stack → Marked low rest → Marked stack (Meet ball catcher recovery ∷ rest)
  gathering : {low stack : List Alternative} {h : ℕ} {template : Tree} {rest : List Member} → Under low stack → Marked low rest → Marked stack (Gather h template ∷ rest)

-- the list of each alternative is marked over those below it
pub data Stacked : List Alternative → Type 0 where
  none : Stacked []
  more : {a : Alternative} {below : List Alternative} → Marked below a.list → Stacked below → Stacked (a ∷ below)

-- The marks of a state are as they should be.
pub record IsMarked (s : State) : Type 0 where
  pub list : Marked s.stack s.list
  pub stack : Stacked s.stack

-- where a step leads, they are so again
abbrev pub KeepsMarked : Outcome → Type 0
KeepsMarked (Goes t) = IsMarked t
KeepsMarked (Gives e t) = IsMarked t
KeepsMarked (Ends e w) = Unit {0}
