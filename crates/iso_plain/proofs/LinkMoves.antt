-- The link that comes first, as the moves at members have it.
use Rattle.std.proofs.Common.{◌≡◌, ℕ, ◌<◌, length, get_or, Option, Some, refl, ap, sym, ◌∙◌, subst}
use Rattle.std.specs.List.{slice_get}
use Rattle.iso_store_core.specs.declared.stores.Store.{Ghosts}
use Rattle.iso_prep.specs.declared.bodies.Node.{Node}
use Rattle.iso_prep.specs.declared.bodies.Node.TheVariants as node
use Rattle.iso_plain_core.specs.declared.members.Link.{Link}
use Rattle.iso_plain_core.specs.declared.members.Todo.TheVariants as todo
use Rattle.iso_model.specs.Search.Walker.{State}
use Rattle.iso_search_core.specs.declared.nows.Now.TheVariants as now
use Rattle.iso_search_core.proofs.StandingLemmas.{item_there}
use Rattle.iso_search.specs.EngineStates.{Represents}
use Rattle.iso_search.specs.Nexts.{IsAtGoal, IsGoalFirst}
use Rattle.iso_control.specs.declared.control.First.{First}
use Rattle.iso_control.specs.Firsts.{Begins}
use Rattle.iso_control.specs.Members.{IsNoGoal}
use Rattle.iso_control.proofs.FirstMoves.{Laws, at_goal, goal_first, place_within as within}
use Rattle.iso_plain.specs.Links.{as_much, extent_of, list_more, list_words}
use Rattle.iso_plain.specs.LinkMembers.{IsLink, link_comes, link_costs, link_gives, link_takes, members_of}
use Rattle.iso_plain.specs.Engines.{Engine, linked}

-- the member that is the link
abbrev pub first_of : Link → First (Option ℕ)
first_of f = record { todo = f.todo; height = f.height; behind = f.next }

module _ {S W M : Type 0} where
  pub laws : Laws (linked {S = S} {W = W} {M = M}) members_of
  laws = record {
    led = link_gives;
    leading = link_comes;
    led_cost = link_costs;
    led_pending = link_takes;
    spans = λ limit s full. full.0;
    all = λ l. as_much (extent_of l);
    top = λ l k stands. stands;
    more = list_more;
    words = list_words;
  }

  -- it comes first
  pub begins : (e : Engine S W M) (f : Link) → e.now ≡ now.Running f → Begins IsLink e.now (first_of f)
  begins e f doing = (f, doing, refl)

  -- where it asks for no goal, none comes first
  pub no_goal_first : (e : Engine S W M) (f : Link) → e.now ≡ now.Running f → IsNoGoal e.lists.nodes.items f.todo
      → (first : Link) → e.now ≡ now.Running first → IsNoGoal e.lists.nodes.items first.todo
  no_goal_first e f doing none first is =
      let same : now.Running f ≡ now.Running first = sym doing ∙ is in
      let here : f ≡ first = cc same in
      subst (λ (x : Link). IsNoGoal e.lists.nodes.items x.todo) here none

  module _ (g : Ghosts S W M) (e : Engine S W M) (f : Link) (doing : e.now ≡ now.Running f) (k : ℕ)
      (asks : f.todo ≡ todo.Body k) (s : State) (r : Represents g linked e s) where
    -- the body is one of the nodes
    pub place_within : k < length e.lists.nodes.items
    place_within = within g linked members_of laws e (first_of f) (begins e f doing) k asks s r

    module _ (x : Node W) (item : x ≡ get_or e.lists.nodes.items k x) where
      -- the node that was read there
      pub there_is : (n : Node W) → x ≡ n → slice_get e.lists.nodes.items k ≡ Some n
      there_is n is = item_there e.lists.nodes.items k x place_within item ∙ ap Some is

      -- a goal comes first
      pub goal_read : (w : W) → x ≡ node.Run w → IsAtGoal g linked e w f.next r.own
      goal_read w is =
          at_goal g linked members_of laws e (first_of f) (begins e f doing) k asks w (there_is (node.Run w) is) r.own
          r.engine

      pub first_read : (w : W) → x ≡ node.Run w → IsGoalFirst g linked e w f.next
      first_read w is =
          goal_first g linked members_of laws e (first_of f) (begins e f doing) k asks w (there_is (node.Run w) is)
