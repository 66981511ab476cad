-- A body as a list of its parts, each part before what it is a part of.
use Rattle.std.specs.Prelude.{◌≡◌, ℕ, ◌+◌, ◌-◌, ◌<◌, List, [], ◌∷◌, length, Some}
use Rattle.std.specs.List.{slice_get}
use Rattle.std.specs.Borrow.{Bor}
use Rattle.iso_model.specs.declared.terms.Term.{Term}
use Rattle.iso_model.specs.Terms.Trees.{Tree}
use Rattle.iso_model.specs.Terms.TermOf.{term_of}
use Rattle.iso_model.specs.Search.Bodies.{Body, Cut, Run, And, Or, If, Choose}
use Rattle.iso_prep.specs.declared.bodies.Node.{Node}
use Rattle.iso_prep.specs.declared.bodies.Node.TheVariants as node
use Rattle.iso_prep.specs.declared.connectives.Connective.{Connective}
use Rattle.iso_prep.specs.declared.connectives.Connective.TheVariants as connective

-- The list has this item at this place.
pub record At {X : Type 0} (xs : List X) (i : ℕ) (x : X) : Type 0 where
  pub is : slice_get xs i ≡ Some x

-- The part at this place is this body's, where goals stand for terms in this way. The last part of a construct stands
-- directly before it, and its numbers say how far back the others end.
pub data IsTree {G : Type 0} (Stands : G → Tree → Type 0) (parts : List (Node G)) : ℕ → Body → Type 0 where
  runs : {k : ℕ} {g : G} {t : Tree} → At parts k (node.Run g) → Stands g t → IsTree Stands parts k (Run t)
  cuts : {k : ℕ} → At parts k node.Cut → IsTree Stands parts k Cut
  joins : {i j k distance : ℕ} {a b : Body} → At parts k (node.And distance) → k ≡ i + distance → k ≡ j + 1 → 0 < distance → IsTree Stands parts i a → IsTree Stands parts j b
      → IsTree Stands parts k (And a b)
  branches : {i j k distance : ℕ} {a b : Body} → At parts k (node.Or distance) → k ≡ i + distance → k ≡ j + 1 → 0 < distance → IsTree Stands parts i a → IsTree Stands parts j b
      → IsTree Stands parts k (Or a b)
  commits : {i j k distance : ℕ} {a b : Body} → At parts k (node.If distance) → k ≡ i + distance → k ≡ j + 1 → 0 < distance → IsTree Stands parts i a → IsTree Stands parts j b
      → IsTree Stands parts k (If a b)
  chooses : {h i j k condition next : ℕ} {a b c : Body} → At parts k (node.Choose condition next) → k ≡ h + condition → k ≡ i + next → k ≡ j + 1 → 0 < condition → 0 < next
      → IsTree Stands parts h a → IsTree Stands parts i b → IsTree Stands parts j c → IsTree Stands parts k (Choose a b c)

-- The last of the parts is the body.
pub record EndsWith {G : Type 0} (Stands : G → Tree → Type 0) (parts : List (Node G)) (b : Body) : Type 0 where
  pub some : 0 < length parts
  pub last : IsTree Stands parts (length parts - 1) b

-- The parts are alike: of one kind, with goals that are so related.
abbrev pub IsAlike : {G H : Type 0} → (G → H → Type 0) → Node G → Node H → Type 0
IsAlike R (node.Run g) (node.Run h) = R g h
IsAlike R node.Cut node.Cut = Unit {0}
IsAlike R (node.And d) (node.And e) = d ≡ e
IsAlike R (node.Or d) (node.Or e) = d ≡ e
IsAlike R (node.If d) (node.If e) = d ≡ e
IsAlike R (node.Choose c d) (node.Choose b e) = (c ≡ b) × (d ≡ e)
IsAlike R part other = ⊥

-- the part that joins two others, the first of which ends so far back
abbrev pub joint : {G : Type 0} → Connective → ℕ → Node G
joint connective.And = node.And
joint connective.Or = node.Or
joint connective.If = node.If

-- the terms of the goals among the parts, in their order
abbrev pub goals_in : {G : Type 0} → (G → Tree) → List (Node G) → List Tree
goals_in term [] = []
goals_in term (node.Run g ∷ parts) = term g ∷ goals_in term parts
goals_in term (part ∷ parts) = goals_in term parts

-- the term of a goal that is borrowed
abbrev pub borrowed : Bor Term → Tree
borrowed g = term_of g.now

-- The goal that is borrowed is this term.
abbrev pub IsBorrowed : Bor Term → Tree → Type 0
IsBorrowed g t = t ≡ borrowed g
