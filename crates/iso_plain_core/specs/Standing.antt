-- How nodes and members stand for bodies and lists of goals.
use Rattle.std.specs.Prelude.{◌≡◌, ℕ, ◌<◌, List, [], ◌∷◌, Option, Some, None, true}
use Rattle.std.specs.List.{slice_get}
use Rattle.iso_model.specs.Terms.Trees.{Tree}
use Rattle.iso_model.specs.Search.Bodies.{Body, Run}
use Rattle.iso_model.specs.Search.Walker.{Member, Goal, CutTo, Fail, Leave, Gather}
use Rattle.iso_store_core.specs.Presents.{Present}
use Rattle.iso_plain_core.specs.Nodes.{At, IsTree}
use Rattle.iso_prep.specs.declared.bodies.Node.{Node}
use Rattle.iso_plain_core.specs.declared.members.Todo.TheVariants as todo
use Rattle.iso_plain_core.specs.declared.members.Link.{Link}

-- The link asks for the body at this place of the nodes, whose own part is this.
pub record IsAt {W : Type 0} (nodes : List (Node W)) (f : Link) (place : ℕ) (part : Node W) : Type 0 where
  pub asks : f.todo ≡ todo.Body place
  pub there : slice_get nodes place ≡ Some part

-- The nodes of bodies and the members that stand.
pub record Links (W : Type 0) : Type 0 where
  pub nodes : List (Node W)
  pub members : List Link

-- The word is a goal, made with this term.
abbrev pub IsGoalWord : {W : Type 0} → Present W → W → Tree → Type 0
IsGoalWord p w t = (p.holds w ≡ true) × (t ≡ p.term w)

-- The node at this place is this body's.
abbrev pub IsBody : {W : Type 0} → Present W → List (Node W) → ℕ → Body → Type 0
IsBody p nodes = IsTree (IsGoalWord p) nodes

-- The link is this member.
pub data IsMember {W : Type 0} (p : Present W) (nodes : List (Node W)) (f : Link) : Member → Type 0 where
  a_body : {i : ℕ} {b : Body} → f.todo ≡ todo.Body i → IsBody p nodes i b → IsMember p nodes f (Goal b f.height)
  a_cut : f.todo ≡ todo.CutTo → IsMember p nodes f (CutTo f.height)
  a_failure : f.todo ≡ todo.Fail → IsMember p nodes f Fail
  an_end : f.todo ≡ todo.Leave → IsMember p nodes f (Leave f.height)
  a_template : {i : ℕ} {t : Tree} → f.todo ≡ todo.Gather i → IsBody p nodes i (Run t) → IsMember p nodes f (Gather f.height t)

-- The place is before the i-th, or none.
abbrev pub IsBefore : Option ℕ → ℕ → Type 0
IsBefore None i = Unit {0}
IsBefore (Some j) i = j < i

-- The members from this place on are these members, each after those behind it.
pub data Chain {W : Type 0} (p : Present W) (links : Links W) : Option ℕ → List Member → Type 0 where
  ends : Chain p links None []
  leads : {i : ℕ} {f : Link} {m : Member} {ms : List Member} → At links.members i f → IsBefore f.next i → IsMember p links.nodes f m → Chain p links f.next ms → Chain p links (Some i) (m ∷ ms)

-- The link comes first, and then the members behind it.
pub record First {W : Type 0} (p : Present W) (links : Links W) (f : Link) (list : List Member) : Type 0 where
  pub member : Member
  pub behind : List Member
  pub is : list ≡ member ∷ behind
  pub stands : IsMember p links.nodes f member
  pub chain : Chain p links f.next behind
