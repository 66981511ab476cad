-- States that are the same: their lists have the same members, but for the terms, which have the same values under each
-- state's own substitution. A conjunction that comes first may have been taken apart. They have one run, and the first
-- has built no more. By this law an engine may keep words for terms, and forget the marks that nothing reads.
use Rattle.std.specs.Prelude.{◌≡◌, ℕ, ◌≤◌, List, [], ◌∷◌, map}
use Rattle.iso_model.specs.Terms.Trees.{Tree}
use Rattle.iso_model.specs.Terms.Variables.{variables}
use Rattle.iso_model.specs.Terms.Substitutions.{Subst, apply}
use Rattle.iso_model.specs.Search.Bodies.{Body, Cut, Run, And, Or, If, Choose, map_body}
use Rattle.iso_model.specs.Search.Replies.{Collecting, AsList, InGroups}
use Rattle.iso_model.specs.Search.Walker.{query_size, State, Member, Goal, CutTo, Fail, Leave, Raise, Meet, Gather, Left, AsIs, Again, Clauses, Catching, Gathering, Offered, Groups, Alternative}

-- the term stays as it is under the substitution
abbrev pub IsValue : Subst → Tree → Type 0
IsValue r t = apply r t ≡ t

-- the substitution leaves its own terms as they are
abbrev pub IsTwice : Subst → Type 0
IsTwice r = (n : ℕ) → apply r (r n) ≡ r n

-- Two lists have the same members under these substitutions. No goal but a control construct reads its mark. What
-- follows failure or a ball is never run, but a ball looks there for the ends of catches.
pub data SameList (r q : Subst) : List Member → List Member → Type 0 where
  no_member : SameList r q [] []
  same_goal : {t u : Tree} {m n : ℕ} {ms ns : List Member} → apply r t ≡ apply q u → SameList r q ms ns → SameList r q (Goal (Run t) m ∷ ms) (Goal (Run u) n ∷ ns)
  same_construct : {b c : Body} {m : ℕ} {ms ns : List Member} → map_body r b ≡ map_body q c → SameList r q ms ns → SameList r q (Goal b m ∷ ms) (Goal c m ∷ ns)
  same_cut : {height : ℕ} {ms ns : List Member} → SameList r q ms ns → SameList r q (CutTo height ∷ ms) (CutTo height ∷ ns)
  same_failure : {ms ns : List Member} → SameList r q ms ns → SameList r q (Fail ∷ ms) (Fail ∷ ns)
  same_leave : {height : ℕ} {ms ns : List Member} → SameList r q ms ns → SameList r q (Leave height ∷ ms) (Leave height ∷ ns)
  same_ball : {ball : Tree} {ms ns : List Member} → SameList r q ms ns → SameList r q (Raise ball ∷ ms) (Raise ball ∷ ns)
  same_meeting : {ball c d x y : Tree} {ms ns : List Member} → apply r c ≡ apply q d → apply r x ≡ apply q y → SameList r q ms ns → SameList r q (Meet ball c x ∷ ms) (Meet ball d y ∷ ns)
  same_gathering : {height : ℕ} {c d : Tree} {ms ns : List Member} → apply r c ≡ apply q d → SameList r q ms ns → SameList r q (Gather height c ∷ ms) (Gather height d ∷ ns)

-- The substitutions give the queries' variables the same values, agree on the numbers that are not used yet, and
-- leave their own terms as they are.
pub record Agree (r q : Subst) (vs ws : List ℕ) (n : ℕ) : Type 0 where
  pub shown : map r vs ≡ map q ws
  pub beyond : (x : ℕ) → n ≤ x → r x ≡ q x
  pub twice : IsTwice r
  pub other : IsTwice q

-- what solutions are gathered for is made of values
abbrev pub IsOwnCollecting : Subst → Collecting → Type 0
IsOwnCollecting r (AsList result) = IsValue r result
IsOwnCollecting r (InGroups by) = IsValue r by.witness × IsValue r by.result

-- what is left at an alternative is for a call's value, or for those of a goal of catch/3 or of one that gathers, or is
-- made of values
abbrev pub IsOwnLeft : Subst → Left → Type 0
IsOwnLeft r AsIs = Unit {0}
IsOwnLeft r Again = Unit {0}
IsOwnLeft r (Clauses call cs) = IsValue r call
IsOwnLeft r (Catching catcher recovery) = IsValue r catcher × IsValue r recovery
IsOwnLeft r (Gathering collecting copies count) = IsOwnCollecting r collecting
IsOwnLeft r (Offered left rights) = IsValue r left
IsOwnLeft r (Groups by groups) = IsValue r by.witness × IsValue r by.result

-- the alternatives are the same, each under its own substitutions, for queries with these variables
pub data SameStack (vs ws : List ℕ) : List Alternative → List Alternative → Type 0 where
  no_alternative : SameStack vs ws [] []
  same_alternative : {a b : Alternative} {xs ys : List Alternative} → Agree a.subst b.subst vs ws a.next → a.next ≡ b.next → a.built ≤ b.built → SameList a.subst b.subst a.list b.list → a.left ≡ b.left
      → IsOwnLeft a.subst a.left → IsOwnLeft b.subst b.left → SameStack vs ws xs ys → SameStack vs ws (a ∷ xs) (b ∷ ys)

-- The states are the same, whatever comes next; the first has no larger query and has built no more.
pub record Beside (s t : State) : Type 0 where
  pub stack : SameStack (variables s.query) (variables t.query) s.stack t.stack
  pub world : s.world ≡ t.world
  pub steps : s.steps ≡ t.steps
  pub query : query_size s.query ≤ query_size t.query
  pub built : s.built ≤ t.built

-- The states are the same but for their lists.
pub record Around (s t : State) : Type 0 where
  pub agree : Agree s.subst t.subst (variables s.query) (variables t.query) s.next
  pub next : s.next ≡ t.next
  pub beside : Beside s t

-- a body before a list, its conjunctions taken apart as long as one comes first
abbrev pub open_body : Body → ℕ → List Member → List Member
open_body (And a b) mark ms = open_body a mark (Goal b mark ∷ ms)
open_body Cut mark ms = Goal Cut mark ∷ ms
open_body (Run t) mark ms = Goal (Run t) mark ∷ ms
open_body (Or a b) mark ms = Goal (Or a b) mark ∷ ms
open_body (If c t) mark ms = Goal (If c t) mark ∷ ms
open_body (Choose c t e) mark ms = Goal (Choose c t e) mark ∷ ms

-- the list without a conjunction that comes first
abbrev pub open_list : List Member → List Member
open_list [] = []
open_list (Goal b mark ∷ ms) = open_body b mark ms
open_list (CutTo height ∷ ms) = CutTo height ∷ ms
open_list (Fail ∷ ms) = Fail ∷ ms
open_list (Leave height ∷ ms) = Leave height ∷ ms
open_list (Raise ball ∷ ms) = Raise ball ∷ ms
open_list (Meet ball catcher recovery ∷ ms) = Meet ball catcher recovery ∷ ms
open_list (Gather height template ∷ ms) = Gather height template ∷ ms

-- The states are the same. Of a state that fails the substitution and the next number don't count.
pub data Same (s t : State) : Type 0 where
  going : Around s t → SameList s.subst t.subst (open_list s.list) (open_list t.list) → Same s t
  failing : (ms ns : List Member) → s.list ≡ Fail ∷ ms → t.list ≡ Fail ∷ ns → Beside s t → Same s t
