-- Linked members that come first, as the moves at members that are no goals have them.
use Rattle.std.specs.Prelude.{◌≡◌, ℕ, List, ◌∷◌, length, Option, None, refl}
use Rattle.std.proofs.Common.{ap, ap₂, le_refl, subst, sym}
use Rattle.std.proofs.lemmas.List.{take_all}
use Rattle.iso_model.specs.Search.Walker.{Member}
use Rattle.iso_model.specs.Search.Runs.{ComesOver}
use Rattle.iso_store_core.specs.Presents.{Present}
use Rattle.iso_prep.specs.declared.bodies.Node.{Node}
use Rattle.iso_plain_core.specs.declared.bodies.ClauseBody.{ClauseBody}
use Rattle.iso_plain_core.specs.declared.members.Link.{Link}
use Rattle.iso_plain_core.specs.declared.members.Todo.{Todo}
use Rattle.iso_plain_core.specs.Standing.{Links, Chain, IsMember, a_body, a_cut, a_failure, an_end, a_template}
use Rattle.iso_control.specs.declared.members.Members.{Ghosts}
use Rattle.iso_control.specs.Members.{IsNoGoal, GivesMember, ComesFirst, CostsMember, TakesNone}
use Rattle.iso_plain.specs.declared.linked.Extent.{Extent}
use Rattle.iso_plain.specs.declared.linked.Linked.{Linked}
use Rattle.iso_plain.specs.Links.{IsList, IsFirst, extent_of, first_cost, links_at, links_of}
use Rattle.iso_plain.specs.Engines.{linked}

-- The link is that of a member with this height, which asks for this, before the list from the place on.
abbrev pub IsLink : Link → Todo → ℕ → Option ℕ → Type 0
IsLink link asked height behind = link ≡ record { todo = asked; height = height; next = behind }

-- where the list behind a link begins has nothing to do with which member it is
pub member_before : {W : Type 0} {p : Present W} {nodes : List (Node W)} {f : Link} (next : Option ℕ) {m : Member}
    → IsMember p nodes f m → IsMember p nodes (record f { next = next }) m
member_before next (a_body is body) = a_body is body
member_before next (a_cut is) = a_cut is
member_before next (a_failure is) = a_failure is
member_before next (an_end is) = an_end is
member_before next (a_template is body) = a_template is body

-- links by their parts
abbrev pub links : {W : Type 0} → List (Node W) → List Link → Links W
links nodes members = record { nodes = nodes; members = members }

module _ {S W M : Type 0} where
  -- the nodes of bodies
  abbrev pub nodes_of : Linked S W M → List (Node W)
  nodes_of l = l.nodes.items

  -- the link asks for no goal, so that it is left to `step`
  abbrev pub IsByStep : Linked S W M → Link → Type 0
  IsByStep l link = IsNoGoal (nodes_of l) link.todo

  -- how linked members come first
  abbrev pub members_of : Ghosts (Linked S W M) S Extent (Option ℕ) W Link ℕ ClauseBody W M
  members_of = record { nodes = nodes_of; leads = IsLink; over = ComesOver }

  -- ---- all that stands

  pub whole_links : (l : Linked S W M) → links_at l (extent_of l) ≡ links_of l
  whole_links l =
      let ns = l.nodes.items in
      let fs = l.members.items in
      ap₂ links (take_all (length ns) ns (le_refl (length ns))) (take_all (length fs) fs (le_refl (length fs)))

  pub whole_chain : {p : Present W} (l : Linked S W M) {place : Option ℕ} {ms : List Member}
      → IsList p l (extent_of l) place ms → Chain p (links_of l) place ms
  whole_chain {p = p} l {place = place} {ms = ms} list =
      subst (λ (ls : Links W). Chain p ls place ms) (whole_links l) list

  pub whole_list : {p : Present W} (l : Linked S W M) {place : Option ℕ} {ms : List Member}
      → Chain p (links_of l) place ms → IsList p l (extent_of l) place ms
  whole_list {p = p} l {place = place} {ms = ms} chain =
      subst (λ (ls : Links W). Chain p ls place ms) (sym (whole_links l)) chain

  -- ---- the laws

  pub link_gives : GivesMember (linked {S = S} {W = W} {M = M}) nodes_of IsLink
  link_gives p l next ms asked height behind is first =
      let here = subst (λ (f : Link). IsFirst p l f ms) is first in
      record {
        member = here.member;
        behind = here.behind;
        is = here.is;
        stands = member_before None here.stands;
        chain = whole_list l here.chain;
      }

  pub link_comes : ComesFirst (linked {S = S} {W = W} {M = M}) nodes_of IsLink
  link_comes p l next asked height behind m ms is member list =
      subst (λ (f : Link). IsFirst p l f (m ∷ ms)) (sym is) (record {
        member = m;
        behind = ms;
        is = refl;
        stands = member_before behind member;
        chain = whole_chain l list;
      })

  pub link_costs : CostsMember (linked {S = S} {W = W} {M = M}) nodes_of IsLink
  link_costs l next asked height behind is = ap (first_cost l) is

  pub link_takes : TakesNone (linked {S = S} {W = W} {M = M}) nodes_of IsLink
  link_takes l next asked height behind is = refl
