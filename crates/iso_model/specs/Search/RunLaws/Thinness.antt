-- Thin states: the first state has not all alternatives of the second. Those that it leaves out are of clauses none of
-- which can be entered, and so are the clauses that it leaves out of an alternative. They have one run. By this law an
-- engine may keep no choice where the clauses that are left are ruled out, and pass over clauses that are ruled out.
use Rattle.std.specs.Prelude.{◌≡◌, ◌≤◌, ℕ, suc, List, [], ◌∷◌, length, Bool, true, false}
use Rattle.iso_model.specs.Terms.Trees.{Tree}
use Rattle.iso_model.specs.Terms.Substitutions.{Subst, apply}
use Rattle.iso_model.specs.Terms.Unifiers.{NeverEqual}
use Rattle.iso_model.specs.Search.Bodies.{Body}
use Rattle.iso_model.specs.Search.Databases.{Clause}
use Rattle.iso_model.specs.Search.Walker.{State, Member, Goal, CutTo, Fail, Leave, Raise, Meet, Gather, Alternative, Left, AsIs, Again, Clauses, Catching, Gathering, Offered, Groups}
use Rattle.iso_model.specs.Search.Settlements.{Offer}

-- The clause's head and the call are never equal, however the head's variables are named or bound.
abbrev pub Misses : Tree → Clause → Type 0
Misses call c = (r : Subst) → NeverEqual call (apply r c.head)

-- The first clauses are the second without some that miss the call.
pub data Skips (call : Tree) : List Clause → List Clause → Type 0 where
  no_clause : Skips call [] []
  tried_too : {c : Clause} {ds cs : List Clause} → Skips call ds cs → Skips call (c ∷ ds) (c ∷ cs)
  passed_over : {c : Clause} {ds cs : List Clause} → Misses call c → Skips call ds cs → Skips call ds (c ∷ cs)

-- The right row and the left one are never equal.
abbrev pub RowMisses : Tree → Offer → Type 0
RowMisses left o = (r : Subst) → NeverEqual left (apply r o.right)

-- The first rows are the second without some that miss the left one.
pub data SkipsRows (left : Tree) : List Offer → List Offer → Type 0 where
  no_row : SkipsRows left [] []
  met_too : {o : Offer} {ps os : List Offer} → SkipsRows left ps os → SkipsRows left (o ∷ ps) (o ∷ os)
  row_passed_over : {o : Offer} {ps os : List Offer} → RowMisses left o → SkipsRows left ps os → SkipsRows left ps (o ∷ os)

-- nothing of what is left can be entered or met
abbrev pub IsDead : Left → Type 0
IsDead (Clauses call cs) = Skips call [] cs
IsDead (Offered left os) = SkipsRows left [] os
IsDead AsIs = ⊥
IsDead Again = ⊥
IsDead (Catching catcher recovery) = ⊥
IsDead (Gathering collecting copies count) = ⊥
IsDead (Groups by groups) = ⊥

-- Of each alternative of the second state, the newest first, it is said whether the first state has it. So many it has.
abbrev pub kept_count : List Bool → ℕ
kept_count [] = 0
kept_count (true ∷ ks) = suc (kept_count ks)
kept_count (false ∷ ks) = kept_count ks

-- the first are the oldest of the second
pub data Low : List Bool → List Bool → Type 0 where
  all : {low : List Bool} → Low low low
  above : {low ks : List Bool} {k : Bool} → Low low ks → Low low (k ∷ ks)

-- Over these alternatives the lists have the same members. Each mark is a height that stands in both: in the first it
-- counts those that are kept. The ends of catches and of the goals of findalls are marked by alternatives that are
-- kept. What follows a mark is marked over what the mark leaves.
pub data ThinList : List Bool → List Member → List Member → Type 0 where
  no_member : {ks : List Bool} → ThinList ks [] []
  thin_goal : {low ks : List Bool} {b : Body} {m n : ℕ} {ms ns : List Member} → Low low ks → m ≡ kept_count low → n ≡ length low → ThinList low ms ns
      → ThinList ks (Goal b m ∷ ms) (Goal b n ∷ ns)
  thin_cut : {low ks : List Bool} {m n : ℕ} {ms ns : List Member} → Low low ks → m ≡ kept_count low → n ≡ length low → ThinList low ms ns
      → ThinList ks (CutTo m ∷ ms) (CutTo n ∷ ns)
  thin_failure : {low ks : List Bool} {ms ns : List Member} → Low low ks → ThinList low ms ns → ThinList ks (Fail ∷ ms) (Fail ∷ ns)
  thin_leave : {low ks : List Bool} {m n : ℕ} {ms ns : List Member} → Low (true ∷ low) ks → m ≡ kept_count low → n ≡ length low → ThinList low ms ns
      → ThinList ks (Leave m ∷ ms) (Leave n ∷ ns)
  thin_ball : {low ks : List Bool} {ball : Tree} {ms ns : List Member} → Low low ks → ThinList low ms ns → ThinList ks (Raise ball ∷ ms) (Raise ball ∷ ns)
  thin_meeting : {low ks : List Bool} {ball catcher recovery : Tree} {ms ns : List Member} → Low low ks → ThinList low ms ns
      → ThinList ks (Meet ball catcher recovery ∷ ms) (Meet ball catcher recovery ∷ ns)
  thin_gathering : {low ks : List Bool} {m n : ℕ} {template : Tree} {ms ns : List Member} → Low (true ∷ low) ks → m ≡ kept_count low → n ≡ length low
      → ThinList low ms ns → ThinList ks (Gather m template ∷ ms) (Gather n template ∷ ns)

-- what is left to be tried is the same, or without clauses that miss the call, or rows that miss the left one
pub data ThinLeft : Left → Left → Type 0 where
  same_left : {l : Left} → ThinLeft l l
  fewer_clauses : {call : Tree} {ds cs : List Clause} → Skips call ds cs → ThinLeft (Clauses call ds) (Clauses call cs)
  fewer_rows : {left : Tree} {ps os : List Offer} → SkipsRows left ps os → ThinLeft (Offered left ps) (Offered left os)

-- The alternatives are the same but for those that are left out, at each of which nothing can be entered or met.
pub data ThinStack : List Bool → List Alternative → List Alternative → Type 0 where
  no_alternative : ThinStack [] [] []
  kept : {a b : Alternative} {ks : List Bool} {xs ys : List Alternative} → a.subst ≡ b.subst → a.next ≡ b.next → a.built ≡ b.built → ThinList ks a.list b.list
      → ThinLeft a.left b.left → ThinStack ks xs ys → ThinStack (true ∷ ks) (a ∷ xs) (b ∷ ys)
  left_out : {b : Alternative} {ks : List Bool} {xs ys : List Alternative} → IsDead b.left → ThinStack ks xs ys → ThinStack (false ∷ ks) xs (b ∷ ys)

-- The states are so, whatever comes next.
pub record Around (t s : State) : Type 0 where
  pub keeps : List Bool
  pub stack : ThinStack keeps t.stack s.stack
  pub query : t.query ≡ s.query
  pub world : t.world ≡ s.world
  pub steps : t.steps ≡ s.steps

-- The first state is the second without what it leaves out. Of a state that fails the substitution and the next number
-- don't count, and the second may have built more.
pub data Thin (t s : State) : Type 0 where
  going : (around : Around t s) → t.subst ≡ s.subst → t.next ≡ s.next → t.built ≡ s.built → ThinList around.keeps t.list s.list → Thin t s
  failing : (ms ns : List Member) → t.list ≡ Fail ∷ ms → s.list ≡ Fail ∷ ns → t.built ≤ s.built → Around t s → Thin t s
