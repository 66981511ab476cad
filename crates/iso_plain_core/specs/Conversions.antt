-- Goals are converted where they stand in a store, part by part.
use Rattle.std.specs.Prelude.{◌≡◌, ℕ, ◌+◌, ◌*◌, ◌<◌, List, [], ◌∷◌, length, true, Option, Some, None}
use Rattle.iso_model.specs.Terms.Trees.{Tree}
use Rattle.iso_model.specs.Terms.Sizes.{size}
use Rattle.iso_model.specs.Search.Bodies as bodies
use Rattle.iso_model.specs.Search.Bodies.{Body, two, both, either, converted, map_body}
use Rattle.iso_prep.specs.declared.connectives.Connective.{Connective}
use Rattle.iso_prep.specs.declared.connectives.Connective.TheVariants as connective
use Rattle.iso_store_core.specs.Presents.{Present, KeepsWords, meaning}
use Rattle.iso_prep.specs.declared.bodies.Node.{Node}
use Rattle.iso_prep.specs.declared.bodies.Node.TheVariants as node
use Rattle.iso_plain_core.specs.declared.conversion.Task.{Task}
use Rattle.iso_plain_core.specs.declared.conversion.Task.TheVariants.{Second, Join, Next, Other, Choose}
use Rattle.iso_plain_core.specs.declared.conversion.Read.{Read}
use Rattle.iso_plain_core.specs.declared.conversion.Read.TheVariants.{Into, Whole, Number}
use Rattle.iso_plain_core.specs.Nodes.{IsTree, EndsWith}
use Rattle.iso_plain_core.specs.Entering.{Adds}
use Rattle.iso_plain_core.specs.Standing.{IsBody}

-- two parts joined by a connective where the first is no if-then, if both can be converted
abbrev pub joined : Connective → Option Body → Option Body → Option Body
joined connective.And = both bodies.And
joined connective.Or = both bodies.Or
joined connective.If = both bodies.If

-- an if-then-else, if its parts can be converted
abbrev pub chosen : Option Body → Option Body → Option Body → Option Body
chosen c t e = both either (both bodies.If c t) e

-- Words stand for terms in this store.
module _ {W : Type 0} (q : Present W) where
  -- the word stands for this term
  abbrev pub IsValue : W → Tree → Type 0
  IsValue w t = (q.holds w ≡ true) × (t ≡ meaning q w)

  -- The node has no parts, and is this body.
  abbrev pub IsLeaf : Node W → Body → Type 0
  IsLeaf node.Cut b = b ≡ bodies.Cut
  IsLeaf (node.Run w) b = (q.holds w ≡ true) × (b ≡ bodies.Run (meaning q w))
  IsLeaf n b = ⊥

  -- What the task makes of the body that the last part is, where it is one.
  abbrev pub Does : List (Node W) → Task W → Option Body → Option Body → Type 0
  Does nodes (Second k w) o r = (q.holds w ≡ true) × (r ≡ joined k o (converted (meaning q w)))
  Does nodes (Join k i) o r = (a : Body) × IsTree IsValue nodes i a × (r ≡ joined k (Some a) o)
  Does nodes (Next t e) o r = (q.holds t ≡ true) × (q.holds e ≡ true) × (r ≡ chosen o (converted (meaning q t)) (converted (meaning q e)))
  Does nodes (Other i e) o r = (q.holds e ≡ true) × (a : Body) × IsTree IsValue nodes i a × (r ≡ chosen (Some a) o (converted (meaning q e)))
  Does nodes (Choose i j) o r = (a : Body) × (c : Body) × IsTree IsValue nodes i a × IsTree IsValue nodes j c × (r ≡ chosen (Some a) (Some c) o)

  -- What the tasks make of it, the last one first.
  abbrev pub Leads : List (Node W) → List (Task W) → Option Body → Option Body → Type 0
  Leads nodes [] o whole = o ≡ whole
  Leads nodes (x ∷ xs) o whole = (m : Option Body) × Leads nodes xs o m × Does nodes x m whole

  -- With a word that is read next, or else with the last part, they make this of the whole.
  abbrev pub Works : List (Node W) → List (Task W) → Option W → Option Body → Type 0
  Works nodes tasks (Some w) whole = (q.holds w ≡ true) × Leads nodes tasks (converted (meaning q w)) whole
  Works nodes tasks None whole = (b : Body) × EndsWith IsValue nodes b × Leads nodes tasks (Some b) whole

  -- how much there is to do at most
  abbrev pub task_load : Task W → ℕ
  task_load (Second k w) = 3 + 4 * size (meaning q w)
  task_load (Join k i) = 1
  task_load (Next t e) = 7 + 4 * size (meaning q t) + 4 * size (meaning q e)
  task_load (Other i e) = 5 + 4 * size (meaning q e)
  task_load (Choose i j) = 1

  abbrev pub tasks_load : List (Task W) → ℕ
  tasks_load [] = 0
  tasks_load (x ∷ xs) = task_load x + tasks_load xs

  abbrev pub next_load : Option W → ℕ
  next_load (Some w) = 1 + 4 * size (meaning q w)
  next_load None = 0

  -- So much is left at most, and the tasks work on.
  pub record GoesOn (nodes : List (Node W)) (tasks : List (Task W)) (next : Option W) (whole : Option Body) (load : ℕ) : Type 0 where
    pub works : Works nodes tasks next whole
    pub less : next_load next + tasks_load tasks < load

  -- What reading a part comes to.
  abbrev pub IsRead : List (Node W) → List (Task W) → Option Body → ℕ → Read W → Type 0
  IsRead nodes tasks whole load (Into w) = GoesOn nodes tasks (Some w) whole load
  IsRead nodes tasks whole load Whole = GoesOn nodes tasks None whole load
  IsRead nodes tasks whole load Number = whole ≡ None

-- The goal's body came, at this place of the nodes: its goals have the values that those of b are.
pub record Places {W : Type 0} (p q : Present W) (old new : List (Node W)) (b : Body) (place : ℕ) : Type 0 where
  pub adds : Adds old new
  pub words : KeepsWords p q
  pub substitution : q.substitution ≡ p.substitution
  pub next : q.next ≡ p.next
  pub last : place + 1 ≡ length new
  pub body : Body
  pub stands : IsBody q new place body
  pub values : map_body p.substitution body ≡ b
