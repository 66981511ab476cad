-- Members over nodes of bodies, as they come first of lists, however an engine has its lists.
use Rattle.std.specs.Prelude.{◌≡◌, ◌≢◌, ℕ, List, ◌∷◌, Some, None}
use Rattle.std.specs.List.{slice_get}
use Rattle.iso_model.specs.Search.Walker.{Member}
use Rattle.iso_store_core.specs.Presents.{Present}
use Rattle.iso_prep.specs.declared.bodies.Node.{Node}
use Rattle.iso_prep.specs.declared.bodies.Node.TheVariants as node
use Rattle.iso_plain_core.specs.declared.members.Link.{Link}
use Rattle.iso_plain_core.specs.declared.members.Todo.{Todo}
use Rattle.iso_plain_core.specs.declared.members.Todo.TheVariants as todo
use Rattle.iso_plain_core.specs.Costs.{todo_cost}
use Rattle.iso_plain_core.specs.Standing.{IsMember}
use Rattle.iso_search_core.specs.declared.lists.Lists as lists

-- the link of a member with this height, of which nothing matters but what it asks for and the height
abbrev pub plain_link : Todo → ℕ → Link
plain_link asked height = record { todo = asked; height = height; next = None }

-- What is asked for is no goal.
abbrev pub IsNoGoal : {W : Type 0} → List (Node W) → Todo → Type 0
IsNoGoal {W = W} nodes (todo.Body k) = (w : W) → slice_get nodes k ≢ Some (node.Run w)
IsNoGoal nodes todo.CutTo = Unit {0}
IsNoGoal nodes todo.Fail = Unit {0}
IsNoGoal nodes todo.Leave = Unit {0}
IsNoGoal nodes (todo.Gather k) = Unit {0}

-- A member with this height that asks for this comes first of these members, and then a list.
pub record Leads {W : Type 0} (p : Present W) (nodes : List (Node W)) (list : List Member → Type 0) (asked : Todo)
    (height : ℕ) (ms : List Member) : Type 0 where
  pub member : Member
  pub behind : List Member
  pub is : ms ≡ member ∷ behind
  pub stands : IsMember p nodes (plain_link asked height) member
  pub chain : list behind

-- ---- the laws of lists that have nodes, where this says that what comes first is such a member before a list

module _ {S L W M K P C N B O : Type 0} (l : lists.Ghosts L S K P C N B O W M) (nodes : L → List (Node W))
    (leads : N → Todo → ℕ → P → Type 0) where
  -- a list of which it comes first begins with the member
  abbrev pub GivesMember : Type 0
  GivesMember =
      (p : Present W) (x : L) (next : N) (ms : List Member) (asked : Todo) (height : ℕ) (behind : P)
      → leads next asked height behind → l.first p x next ms
      → Leads p (nodes x) (l.list p x (l.whole x) behind) asked height ms

  -- it comes first of the member and the list
  abbrev pub ComesFirst : Type 0
  ComesFirst =
      (p : Present W) (x : L) (next : N) (asked : Todo) (height : ℕ) (behind : P) (m : Member) (ms : List Member)
      → leads next asked height behind → IsMember p (nodes x) (plain_link asked height) m
      → l.list p x (l.whole x) behind ms → l.first p x next (m ∷ ms)

  -- what is to be done there
  abbrev pub CostsMember : Type 0
  CostsMember =
      (x : L) (next : N) (asked : Todo) (height : ℕ) (behind : P) → leads next asked height behind
      → l.first_cost x next ≡ todo_cost asked (l.cost x behind)

  -- the member takes no cells
  abbrev pub TakesNone : Type 0
  TakesNone =
      (x : L) (next : N) (asked : Todo) (height : ℕ) (behind : P) → leads next asked height behind
      → l.first_pending x next ≡ l.pending x behind
