-- Bodies and members, as the store, the nodes and the members change.
use Rattle.std.proofs.Common.{◌≡◌, ℕ, ◌<◌, List, [], ◌++◌, length, Option, Some, None, refl, sym, ◌∙◌, subst}
use Rattle.std.specs.List.{slice_get}
use Rattle.std.proofs.lemmas.Option.{slice_get_within}
use Rattle.iso_model.specs.Search.Bodies.{Body}
use Rattle.iso_model.specs.Search.Walker.{Member}
use Rattle.iso_store_core.specs.Presents.{Present, KeepsWords}
use Rattle.iso_plain_core.specs.Next.{IsPlace}
use Rattle.iso_prep.specs.declared.bodies.Node.{Node}
use Rattle.iso_plain_core.specs.declared.members.Link.{Link}
use Rattle.iso_plain_core.specs.Nodes.{At}
use Rattle.iso_plain_core.specs.Standing.{Links, IsBody, IsMember, a_body, a_cut, a_failure, an_end, a_template, Chain, ends, leads, First}
use Rattle.iso_plain_core.specs.Entering.{Adds}
use Rattle.iso_plain_core.specs.BodyNames.{tree_keep}
pub use Rattle.iso_prep.proofs.TreeLemmas.{at_more, at_last, tree_more, tree_within}

-- ---- bodies and members

-- a store that keeps its words
pub body_keep : {W : Type 0} {p q : Present W} {nodes : List (Node W)} {i : ℕ} {b : Body} → KeepsWords p q → IsBody p nodes i b → IsBody q nodes i b
body_keep keeps body = tree_keep (λ w t h. (keeps.stand w h.0, h.1 ∙ sym (keeps.terms w h.0))) body

-- more nodes, and a store that keeps its words
pub body_more : {W : Type 0} {p q : Present W} {nodes : List (Node W)} {i : ℕ} {b : Body} (more : List (Node W)) → KeepsWords p q → IsBody p nodes i b → IsBody q (nodes ++ more) i b
body_more more keeps body = tree_more more (body_keep keeps body)

pub body_within : {W : Type 0} (p : Present W) {nodes : List (Node W)} {i : ℕ} {b : Body} → IsBody p nodes i b → i < length nodes
body_within p body = tree_within body

pub member_more : {W : Type 0} {p q : Present W} {nodes : List (Node W)} {f : Link} {m : Member} (more : List (Node W)) → KeepsWords p q → IsMember p nodes f m → IsMember q (nodes ++ more) f m
member_more more keeps (a_body is body) = a_body is (body_more more keeps body)
member_more more keeps (a_cut is) = a_cut is
member_more more keeps (a_failure is) = a_failure is
member_more more keeps (an_end is) = an_end is
member_more more keeps (a_template is body) = a_template is (body_more more keeps body)

pub member_keep : {W : Type 0} {p q : Present W} {nodes : List (Node W)} {f : Link} {m : Member} → KeepsWords p q → IsMember p nodes f m → IsMember q nodes f m
member_keep keeps (a_body is body) = a_body is (body_keep keeps body)
member_keep keeps (a_cut is) = a_cut is
member_keep keeps (a_failure is) = a_failure is
member_keep keeps (an_end is) = an_end is
member_keep keeps (a_template is body) = a_template is (body_keep keeps body)

-- nodes and members that were added at the end
pub record AddsLinks {W : Type 0} (old new : Links W) : Type 0 where
  pub nodes : Adds old.nodes new.nodes
  pub members : Adds old.members new.members

pub chain_more : {W : Type 0} {p q : Present W} {old : Links W} {place : Option ℕ} {ms : List Member} (new : Links W) → AddsLinks old new → KeepsWords p q → Chain p old place ms → Chain q new place ms
chain_more new adds keeps ends = ends
chain_more {q = q} {old = old} new adds keeps (leads {i = i} {f = f} {m = m} at below member others) =
    leads (subst (λ (fs : List Link). At fs i f) (sym adds.members.1) (at_more old.members adds.members.0 i f at)) below
    (subst (λ (ns : List (Node _)). IsMember q ns f m) (sym adds.nodes.1) (member_more adds.nodes.0 keeps member)) (chain_more new adds keeps others)

pub chain_keep : {W : Type 0} {p q : Present W} {links : Links W} {place : Option ℕ} {ms : List Member} → KeepsWords p q → Chain p links place ms → Chain q links place ms
chain_keep keeps ends = ends
chain_keep keeps (leads at below member others) = leads at below (member_keep keeps member) (chain_keep keeps others)

-- the place that a chain begins at
pub chain_place : {W : Type 0} {p : Present W} {links : Links W} (place : Option ℕ) {ms : List Member} → Chain p links place ms → IsPlace links.members place
chain_place None ends = tt
chain_place {links = links} (Some i) (leads at below member others) = slice_get_within links.members i _ at.is

-- ---- what comes next

-- the first of the members that a link leads to
pub record Leads {W : Type 0} (p : Present W) (links : Links W) (place : ℕ) (ms : List Member) : Type 0 where
  pub link : Link
  pub at : slice_get links.members place ≡ Some link
  pub first : First p links link ms

pub leads_to : {W : Type 0} {p : Present W} {links : Links W} {place : ℕ} {ms : List Member} → Chain p links (Some place) ms → Leads p links place ms
leads_to (leads {f = f} {m = m} {ms = ms} at below member others) = record { link = f; at = at.is; first = record { member = m; behind = ms; is = refl; stands = member; chain = others } }

-- no members are behind the last
pub none_linked : {W : Type 0} {p : Present W} {links : Links W} {ms : List Member} → Chain p links None ms → ms ≡ []
none_linked ends = refl
