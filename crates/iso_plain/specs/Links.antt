-- Linked members over bodies, as lists of goals.
use Rattle.std.specs.Prelude.{◌≡◌, ℕ, suc, ◌≤◌, List, [], length, take, drop, Option, Some, None, true, refl}
use Rattle.std.proofs.Common.{◌++◌, subst, sym, le_refl, take-take, take-append-drop}
use Rattle.iso_model.specs.Terms.Trees.{Tree}
use Rattle.iso_model.specs.Terms.Substitutions.{Subst}
use Rattle.iso_model.specs.Search.Bodies.{Body}
use Rattle.iso_model.specs.Search.RunLaws.Sameness.{SameList}
use Rattle.iso_model.specs.Search.Walker.{Member}
use Rattle.iso_store_core.specs.Presents.{Present, KeepsWords, meaning}
use Rattle.iso_plain_core.specs.declared.members.Link.{Link}
use Rattle.iso_plain_core.specs.declared.members.Todo.{Todo}
use Rattle.iso_plain_core.specs.declared.members.Todo.TheVariants as todo
use Rattle.iso_plain_core.specs.Costs.{member_cost, member_costs, place_cost}
use Rattle.iso_plain_core.specs.Entering.{Adds}
use Rattle.iso_program.specs.Values.{HasValues}
use Rattle.iso_plain_core.specs.Standing.{Links, Chain, First, IsBody}
use Rattle.iso_plain_core.proofs.StandingLemmas.{chain_keep, chain_more, body_keep}
use Rattle.iso_search_core.specs.Keeping.{KeepsOf}
use Rattle.iso_plain.specs.declared.linked.Extent.{Extent}
use Rattle.iso_plain.specs.declared.linked.Linked.{Linked}
use Rattle.iso_plain.specs.LinkValues.{members_value}

-- The first is no more than the second.
pub record IsNoMore (j k : Extent) : Type 0 where
  pub nodes : j.nodes ≤ k.nodes
  pub members : j.members ≤ k.members

-- how many ends are passed at most from a place on: the members behind a link come before it
abbrev pub depth_of : Option ℕ → ℕ
depth_of None = 0
depth_of (Some i) = suc i

-- the height of the catch whose end is asked for, where it is one
abbrev pub catch_of : Todo → ℕ → Option ℕ
catch_of todo.Leave height = Some height
catch_of (todo.Body i) height = None
catch_of todo.CutTo height = None
catch_of todo.Fail height = None
catch_of (todo.Gather i) height = None

-- more was added behind what was kept of less
pub taken_adds : {X : Type 0} (m n : ℕ) (xs : List X) → m ≤ n → Adds (take m xs) (take n xs)
taken_adds m n xs less =
    (drop m (take n xs), sym (subst (λ ys. ys ++ drop m (take n xs) ≡ take n xs) (take-take m n xs less) (take-append-drop m (take n xs))))

module _ {S W M : Type 0} where
  -- how much stands
  abbrev pub extent_of : Linked S W M → Extent
  extent_of l = record { nodes = length l.nodes.items; members = length l.members.items }

  -- all nodes and members
  abbrev pub links_of : Linked S W M → Links W
  links_of l = record { nodes = l.nodes.items; members = l.members.items }

  -- those that stood when so much was kept
  abbrev pub links_at : Linked S W M → Extent → Links W
  links_at l k = record { nodes = take k.nodes l.nodes.items; members = take k.members l.members.items }

  -- From the place on these are the members, among those that were kept when so much stood.
  abbrev pub IsList : Present W → Linked S W M → Extent → Option ℕ → List Member → Type 0
  IsList p l k place ms = Chain p (links_at l k) place ms

  -- A word calls the term that it stands for.
  abbrev pub IsFor : Present W → Linked S W M → Extent → W → Tree → Type 0
  IsFor p l k word goal = (p.holds word ≡ true) × (goal ≡ meaning p word)

  -- So much stands.
  abbrev pub IsWithin : Linked S W M → Extent → Type 0
  IsWithin l k = IsNoMore k (extent_of l)

  -- Nothing stands.
  abbrev pub IsNothing : Linked S W M → Type 0
  IsNothing l = (l.nodes.items ≡ []) × (l.members.items ≡ [])

  -- The link comes first of these members.
  abbrev pub IsFirst : Present W → Linked S W M → Link → List Member → Type 0
  IsFirst p l link ms = First p (links_of l) link ms

  -- what is to be done from the place on, and from a link on that comes first
  abbrev pub cost_at : Linked S W M → Option ℕ → ℕ
  cost_at l place = place_cost l.members.items place

  abbrev pub first_cost : Linked S W M → Link → ℕ
  first_cost l link = member_cost (member_costs l.members.items) link

  -- What was kept when so much stood is as it was, of each extent that is meant.
  abbrev pub KeepsLinks : (Extent → Type 0) → Linked S W M → Linked S W M → Type 0
  KeepsLinks meant old new = KeepsOf IsList IsFor IsWithin cost_at (λ l place. 0) meant old new

  -- ---- what lists keep

  pub list_words : (p q : Present W) (l : Linked S W M) (k : Extent) (i : Option ℕ) (ms : List Member)
      → KeepsWords p q → IsList p l k i ms → IsList q l k i ms
  list_words p q l k i ms keeps list = chain_keep keeps list

  pub body_words : (p q : Present W) (l : Linked S W M) (i : ℕ) (b : Body)
      → KeepsWords p q → IsBody p l.nodes.items i b → IsBody q l.nodes.items i b
  body_words p q l i b keeps body = body_keep keeps body

  pub list_more : (p : Present W) (l : Linked S W M) (j k : Extent) (i : Option ℕ) (ms : List Member)
      → IsNoMore j k → IsList p l j i ms → IsList p l k i ms
  list_more p l j k i ms less list =
      chain_more (links_at l k)
      (record { nodes = taken_adds j.nodes k.nodes l.nodes.items less.nodes; members = taken_adds j.members k.members l.members.items less.members })
      (record { stand = λ w h. h; terms = λ w h. refl }) list

  pub list_values : (p q : Present W) (u : Subst) (l : Linked S W M) (k : Extent) (i : Option ℕ) (ms : List Member)
      → HasValues p q u → IsList p l k i ms → SameList q.substitution u ms ms
  list_values p q u l k i ms values list = members_value values (links_at l k) i ms list

pub as_much : (k : Extent) → IsNoMore k k
as_much k = record { nodes = le_refl k.nodes; members = le_refl k.members }
