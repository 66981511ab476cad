-- Linked members, as nodes and members come and go.
use Rattle.std.proofs.Common.{◌≡◌, ℕ, ◌<◌, List, [], ◌∷◌, ◌++◌, length, take, get_or, Option, Some, None, refl, ap, ap₂, sym, ◌∙◌, subst, arith, take-take, length-take-le, length-append, append-nil, append_assoc}
use Rattle.std.specs.Global.{Global}
use Rattle.std.specs.Prelude.{MatchOption, Vec, true}
use Rattle.std.specs.List.{slice_get}
use Rattle.std.proofs.lemmas.List.{take-append-le}
use Rattle.iso_model.specs.Search.Bodies.{Body, Run}
use Rattle.iso_model.specs.Search.Walker.{Member, Leave}
use Rattle.iso_store_core.specs.Presents.{Present}
use Rattle.iso_prep.specs.declared.bodies.Node.{Node}
use Rattle.iso_prep.specs.declared.bodies.Node.TheVariants as node
use Rattle.iso_plain_core.specs.declared.members.Link.{Link}
use Rattle.iso_plain_core.specs.declared.members.Todo.{Todo}
use Rattle.iso_plain_core.specs.Costs.{place_cost}
use Rattle.iso_plain_core.specs.Entering.{Adds}
use Rattle.iso_plain_core.specs.Next.{IsPlace}
use Rattle.iso_plain_core.specs.Nodes.{At, runs}
use Rattle.iso_plain_core.specs.Standing.{Links, IsBefore, IsBody, IsMember, a_body, a_cut, a_failure, an_end, a_template, Chain, leads}
use Rattle.iso_plain_core.proofs.CostLemmas.{more_cost, newest_cost, there_cost, taken_place, taken_cost}
use Rattle.iso_plain_core.proofs.StandingLemmas.{at_last, tree_more, chain_more, chain_place, leads_to}
use Rattle.iso_search_core.proofs.StandingLemmas.{item_is, some_same}
use Rattle.iso_search_core.specs.Keeping.{Passes, NoLeave}
use Rattle.iso_plain.specs.declared.linked.Extent.{Extent}
use Rattle.iso_plain.specs.declared.linked.Linked.{Linked}
use Rattle.iso_plain.specs.LinkMembers.{links}
pub use Rattle.iso_plain.specs.LinkMembers.{whole_chain, whole_links, whole_list}
use Rattle.iso_plain.specs.Links.{IsNoMore, IsList, IsFirst, KeepsLinks, catch_of, depth_of, extent_of, links_of, cost_at, first_cost}

-- the place of the link behind one is before it
before_of : {W : Type 0} {p : Present W} {links : Links W} {i : ℕ} {ms : List Member} (f : Link) → slice_get links.members i ≡ Some f → Chain p links (Some i) ms → IsBefore f.next i
before_of {i = i} f there (leads {f = g} at below member others) = subst (λ (h : Link). IsBefore h.next i) (some_same (sym at.is ∙ there)) below

-- a place among so many is before the next
place_before : (fs : List Link) (place : Option ℕ) → IsPlace fs place → IsBefore place (length fs)
place_before fs None within = tt
place_before fs (Some i) within = within

falls_before : (place : Option ℕ) (i : ℕ) → IsBefore place i → depth_of place < depth_of (Some i)
falls_before None i before = omega arith
falls_before (Some j) i before = omega (arith, before)

-- ---- what is added

pub adds_same : {X : Type 0} {old new : Vec X Global} → new ≡ old → Adds old.items new.items
adds_same {X = X} {old = old} same = ([], ap (λ (v : Vec X Global). v.items) same ∙ sym (append-nil old.items))

pub adds_both : {X : Type 0} (old : List X) {middle new : List X} → Adds old middle → Adds middle new → Adds old new
adds_both {X = X} old first second = (first.0 ++ second.0, second.1 ∙ (ap (λ (xs : List X). xs ++ second.0) first.1 ∙ append_assoc old first.0 second.0))

pub body_on : {W : Type 0} (p : Present W) (old : List (Node W)) {new : List (Node W)} {i : ℕ} {b : Body} → Adds old new → IsBody p old i b → IsBody p new i b
body_on {W = W} p old {i = i} {b = b} adds body =
    subst (λ (ns : List (Node W)). IsBody p ns i b) (sym adds.1) (tree_more adds.0 body)

-- a goal at the end of the nodes
pub run_pushed : {W : Type 0} (p : Present W) (goal : W) (old new : List (Node W)) (place : ℕ) → new ≡ old ++ node.Run goal ∷ [] → place ≡ length old → p.holds goal ≡ true → IsBody p new place (Run (p.term goal))
run_pushed {W = W} p goal old new place are last holds =
    runs (subst (λ (ns : List (Node W)). At ns place (node.Run goal)) (sym are) (subst (λ (n : ℕ). At (old ++ node.Run goal ∷ []) n (node.Run goal)) (sym last) (at_last old (node.Run goal)))) (holds, refl)

module _ {S W M : Type 0} where
  -- ---- what comes first

  -- the link at the place that a list begins at
  pub link_there : {p : Present W} (l : Linked S W M) {i : ℕ} {ms : List Member} (f : Link) → f ≡ get_or l.members.items i f → IsList p l (extent_of l) (Some i) ms → slice_get l.members.items i ≡ Some f
  link_there l {i = i} f same list =
      let first = leads_to (whole_chain l list) in
      first.at ∙ ap Some (sym (item_is l.members.items i first.link f first.at same))

  pub list_within : {p : Present W} (l : Linked S W M) {i : ℕ} {ms : List Member} → IsList p l (extent_of l) (Some i) ms → i < length l.members.items
  list_within l {i = i} list = chain_place (Some i) (whole_chain l list)

  pub list_first : {p : Present W} (l : Linked S W M) {i : ℕ} {ms : List Member} (f : Link) → f ≡ get_or l.members.items i f → IsList p l (extent_of l) (Some i) ms → IsFirst p l f ms
  list_first {p = p} l {i = i} {ms = ms} f same list =
      let first = leads_to (whole_chain l list) in
      subst (λ (h : Link). IsFirst p l h ms) (sym (item_is l.members.items i first.link f first.at same)) first.first

  pub list_cost : {p : Present W} (l : Linked S W M) {i : ℕ} {ms : List Member} (f : Link) → f ≡ get_or l.members.items i f → IsList p l (extent_of l) (Some i) ms → cost_at l (Some i) ≡ first_cost l f
  list_cost l {i = i} f same list =
      let there = link_there l f same list in
      there_cost l.members.items i f there (before_of f there (whole_chain l list))

  pub list_falls : {p : Present W} (l : Linked S W M) {i : ℕ} {ms : List Member} (f : Link) → f ≡ get_or l.members.items i f → IsList p l (extent_of l) (Some i) ms → depth_of f.next < depth_of (Some i)
  list_falls l {i = i} f same list = falls_before f.next i (before_of f (link_there l f same list) (whole_chain l list))

  -- ---- a link that is passed

  -- a member that is no end
  passes_other : {p : Present W} (l : Linked S W M) (f : Link) (m : Member) (ms behind : List Member) → catch_of f.todo f.height ≡ None → NoLeave (m ∷ []) → ms ≡ m ∷ behind → IsList p l (extent_of l) f.next behind
      → Passes (IsList p l (extent_of l)) ms (record { leave = catch_of f.todo f.height; behind = f.next })
  passes_other l f m ms behind no_catch none same list = record {
    front = m ∷ [];
    rest = behind;
    none = none;
    are = list;
    is = subst (λ (o : Option ℕ). MatchOption o (ms ≡ (m ∷ []) ++ behind) (λ height. ms ≡ (m ∷ []) ++ Leave height ∷ behind)) (sym no_catch) same;
  }

  passes_member : {p : Present W} (l : Linked S W M) (f : Link) (m : Member) (ms behind : List Member) → IsMember p l.nodes.items f m → ms ≡ m ∷ behind → IsList p l (extent_of l) f.next behind
      → Passes (IsList p l (extent_of l)) ms (record { leave = catch_of f.todo f.height; behind = f.next })
  passes_member l f m ms behind (an_end is) same list = record {
    front = [];
    rest = behind;
    none = tt;
    are = list;
    is = subst (λ (t : Todo). MatchOption (catch_of t f.height) (ms ≡ [] ++ behind) (λ height. ms ≡ [] ++ Leave height ∷ behind)) (sym is) same;
  }
  passes_member l f m ms behind (a_body is body) same list = passes_other l f m ms behind (ap (λ (t : Todo). catch_of t f.height) is) tt same list
  passes_member l f m ms behind (a_cut is) same list = passes_other l f m ms behind (ap (λ (t : Todo). catch_of t f.height) is) tt same list
  passes_member l f m ms behind (a_failure is) same list = passes_other l f m ms behind (ap (λ (t : Todo). catch_of t f.height) is) tt same list
  passes_member l f m ms behind (a_template is body) same list = passes_other l f m ms behind (ap (λ (t : Todo). catch_of t f.height) is) tt same list

  pub list_passes : {p : Present W} (l : Linked S W M) {i : ℕ} {ms : List Member} (f : Link) → f ≡ get_or l.members.items i f → IsList p l (extent_of l) (Some i) ms
      → Passes (IsList p l (extent_of l)) ms (record { leave = catch_of f.todo f.height; behind = f.next })
  list_passes l {ms = ms} f same list =
      let first = list_first l f same list in
      passes_member l f first.member ms first.behind first.stands first.is (whole_list l first.chain)

  -- ---- what is added

  pub adds_keeps : (old new : Linked S W M) → Adds old.nodes.items new.nodes.items → Adds old.members.items new.members.items → KeepsLinks (λ j. Unit {0}) old new
  adds_keeps old new nodes members = record {
    stands = λ j meant on. record {
      nodes = (let a = on.nodes in let b = ap length nodes.1 in let d = length-append old.nodes.items nodes.0 in omega (arith, a, b, d));
      members = (let a = on.members in let b = ap length members.1 in let d = length-append old.members.items members.0 in omega (arith, a, b, d));
    };
    lists = λ p j i ms meant on list. subst (λ (ls : Links W). Chain p ls i ms) (sym (ap₂ links (ap (take j.nodes) nodes.1 ∙ take-append-le j.nodes old.nodes.items nodes.0 on.nodes) (ap (take j.members) members.1 ∙ take-append-le j.members old.members.items members.0 on.members))) list;
    calls = λ p j c t meant on is. is;
    costs = λ p j i ms meant on list. ap (λ (fs : List Link). place_cost fs i) members.1 ∙ more_cost old.members.items members.0 i (taken_place j.members old.members.items i (chain_place i list));
    pendings = λ p j i ms meant on list. refl;
  }

  -- the list from a place on, over all that stands
  pub list_on : {p : Present W} (old new : Linked S W M) {place : Option ℕ} {ms : List Member} → Adds old.nodes.items new.nodes.items → Adds old.members.items new.members.items → IsList p old (extent_of old) place ms → IsList p new (extent_of new) place ms
  list_on old new nodes members list =
      whole_list new (chain_more (links_of new) (record { nodes = nodes; members = members }) (record { stand = λ w h. h; terms = λ w h. refl }) (whole_chain old list))

  pub cost_same : (old new : Linked S W M) (place : Option ℕ) → new.members ≡ old.members → cost_at new place ≡ cost_at old place
  cost_same old new place same = ap (λ (v : Vec Link Global). place_cost v.items place) same

  -- ---- what is taken away

  pub taken_keeps : (old new : Linked S W M) (kept : Extent) → IsNoMore kept (extent_of old) → new.nodes.items ≡ take kept.nodes old.nodes.items → new.members.items ≡ take kept.members old.members.items → KeepsLinks (λ j. IsNoMore j kept) old new
  taken_keeps old new kept within nodes members = record {
    stands = λ j less on. record {
      nodes = (let a = less.nodes in let b = ap length nodes ∙ length-take-le kept.nodes old.nodes.items within.nodes in omega (arith, a, b));
      members = (let a = less.members in let b = ap length members ∙ length-take-le kept.members old.members.items within.members in omega (arith, a, b));
    };
    lists = λ p j i ms less on list. subst (λ (ls : Links W). Chain p ls i ms) (sym (ap₂ links (ap (take j.nodes) nodes ∙ take-take j.nodes kept.nodes old.nodes.items less.nodes) (ap (take j.members) members ∙ take-take j.members kept.members old.members.items less.members))) list;
    calls = λ p j c t less on is. is;
    costs = λ p j i ms less on list.
        ap (λ (fs : List Link). place_cost fs i) members
        ∙ taken_cost kept.members old.members.items i (taken_place j.members (take kept.members old.members.items) i
        (subst (λ (fs : List Link). IsPlace fs i) (sym (take-take j.members kept.members old.members.items less.members)) (chain_place i list)));
    pendings = λ p j i ms less on list. refl;
  }

  -- ---- a member that comes

  pub pushed_list : {p : Present W} (old new : Linked S W M) (f : Link) {m : Member} {ms : List Member} (place : ℕ) → new.nodes ≡ old.nodes → new.members.items ≡ old.members.items ++ f ∷ [] → place ≡ length old.members.items → IsMember p old.nodes.items f m
      → IsList p old (extent_of old) f.next ms → IsList p new (extent_of new) (Some place) (m ∷ ms)
  pushed_list {p = p} old new f {m = m} {ms = ms} place nodes members last member list =
      let chain = whole_chain old list in
      let behind = chain_more (links_of new) (record { nodes = adds_same nodes; members = (f ∷ [], members) }) (record { stand = λ w h. h; terms = λ w h. refl }) chain in
      subst (λ (n : ℕ). IsList p new (extent_of new) (Some n) (m ∷ ms)) (sym last)
      (whole_list new (leads (subst (λ (fs : List Link). At fs (length old.members.items) f) (sym members) (at_last old.members.items f))
      (place_before old.members.items f.next (chain_place f.next chain))
      (subst (λ (v : Vec (Node W) Global). IsMember p v.items f m) (sym nodes) member) behind))

  pub pushed_cost : (old new : Linked S W M) (f : Link) (place : ℕ) → new.members.items ≡ old.members.items ++ f ∷ [] → place ≡ length old.members.items → cost_at new (Some place) ≡ first_cost old f
  pushed_cost old new f place members last = ap₂ (λ (fs : List Link) (n : ℕ). place_cost fs (Some n)) members last ∙ newest_cost old.members.items f
