-- How two terms meet.
use Rattle.std.specs.Prelude.{◌≡◌, ℕ, ◌<◌, List, true, false}
use Rattle.iso_model.specs.Terms.Trees.{Tree, Variable, Apply, count}
use Rattle.iso_model.specs.Terms.Sorts.{is_term}
use Rattle.iso_model.specs.Terms.Unifiers.{NeverEqual}
use Rattle.iso_store.specs.declared.meetings.Meeting.{Meeting}
use Rattle.iso_store.specs.declared.meetings.Meeting.TheVariants.{Same, Clash, FirstVariable, SecondVariable, Arguments}
use Rattle.iso_store_core.specs.Presents.{Present, IsUnification}

-- a variable that may be bound to the term: they are not one, and of two variables it is the younger
abbrev pub IsYounger : ℕ → Tree → Type 0
IsYounger x t = (y : ℕ) → t ≡ Variable y → y < x

-- what the meeting says of the two terms
abbrev pub IsMeeting : Meeting → Tree → Tree → Type 0
IsMeeting Same a b = a ≡ b
IsMeeting Clash a b = NeverEqual a b
IsMeeting (FirstVariable x) a b = (a ≡ Variable x) × IsYounger x b
IsMeeting (SecondVariable x) a b = (b ≡ Variable x) × IsYounger x a
IsMeeting (Arguments n) a b = (f : List ℕ) × (ts : Tree) × (us : Tree) × (a ≡ Apply f ts) × (b ≡ Apply f us) × (count ts ≡ n) × (count us ≡ n)

-- How the terms a and b meet, where a variable may be bound at first: what came of it between the stores p and q. They
-- are the same where it was bound; where there is more to do, nothing is bound.
abbrev pub IsMetFirst : {W : Type 0} → Present W → Present W → Tree → Tree → Meeting → Type 0
IsMetFirst p q a b Same = IsUnification p q a b true
IsMetFirst p q a b Clash = IsUnification p q a b false
IsMetFirst p q a b (FirstVariable x) = (q ≡ p) × IsMeeting (FirstVariable x) a b
IsMetFirst p q a b (SecondVariable x) = (q ≡ p) × IsMeeting (SecondVariable x) a b
IsMetFirst p q a b (Arguments n) = (q ≡ p) × IsMeeting (Arguments n) a b × (is_term a ≡ true) × (is_term b ≡ true)
