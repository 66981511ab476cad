-- What the member that comes first asks for.
use Rattle.std.proofs.Common.{◌≡◌, ◌≢◌, ℕ, ◌+◌, ◌<◌, List, ◌∷◌, length, Some, refl, ap, sym, ◌∙◌, subst, arith}
use Rattle.std.proofs.Common.{inl, inr}
use Rattle.std.specs.List.{slice_get}
use Rattle.iso_model.specs.Terms.Trees.{Tree}
use Rattle.iso_model.specs.Terms.Substitutions.{Subst, apply}
use Rattle.iso_model.specs.Search.Bodies.{Body, Cut, Run}
use Rattle.iso_search.specs.Limits.{ComesFull}
use Rattle.iso_model.specs.Search.Walker.{State, Member, Goal, CutTo, Fail, Leave, Gather}
use Rattle.iso_store_core.specs.Presents.{Present, KeepsWords}
use Rattle.iso_store_core.specs.declared.stores.Store.{Ghosts}
use Rattle.iso_prep.specs.declared.bodies.Node.{Node}
use Rattle.iso_prep.specs.declared.bodies.Node.TheVariants as node
use Rattle.iso_plain_core.specs.declared.members.Link.{Link}
use Rattle.iso_plain_core.specs.declared.members.Todo.{Todo}
use Rattle.iso_plain_core.specs.declared.members.Todo.TheVariants as todo
use Rattle.iso_plain_core.specs.Costs.{todo_cost}
use Rattle.iso_plain_core.specs.Nodes.{runs}
use Rattle.iso_plain_core.specs.Standing.{IsBody, IsMember, a_body, a_cut, a_failure, an_end, a_template}
use Rattle.iso_plain_core.proofs.PlaceLemmas.{part_is}
use Rattle.iso_plain_core.proofs.StandingLemmas.{body_within}
use Rattle.iso_search_core.specs.declared.lists.Lists as lists
use Rattle.iso_search_core.specs.declared.nows.Now.{Now}
use Rattle.iso_search_core.specs.declared.nows.Now.TheVariants as now
use Rattle.iso_search_core.specs.Costs.{now_pending}
use Rattle.iso_search_core.proofs.BodyCosts.{cost_above}
use Rattle.iso_search_core.proofs.FittingLemmas.{fits_fewer}
use Rattle.iso_search_core.proofs.StandingLemmas.{some_same}
use Rattle.iso_search.specs.declared.search.Search.{Search}
use Rattle.iso_search.specs.EngineStates.{IsAhead, IsEngine, Represents}
use Rattle.iso_search.specs.Nexts.{IsAtGoal, IsGoalFirst}
use Rattle.iso_search.specs.Members.{IsCut, IsLeave, IsFirst, FailsFirst, GathersFirst}
use Rattle.iso_search.proofs.AheadLemmas.{goes_with}
use Rattle.iso_search.proofs.EndLemmas.{next_is}
use Rattle.iso_control.specs.declared.control.First.{First}
use Rattle.iso_control.specs.declared.members.Members as members
use Rattle.iso_control.specs.Firsts.{Begins, link_of}
use Rattle.iso_control.specs.Members.{IsNoGoal, GivesMember, ComesFirst, CostsMember, TakesNone}

-- ---- what a link asks for

-- the member of a link that asks for this
abbrev Asked : {W : Type 0} → Present W → List (Node W) → ℕ → Todo → Member → Type 0
Asked p nodes height (todo.Body k) m = (b : Body) × (m ≡ Goal b height) × IsBody p nodes k b
Asked p nodes height todo.CutTo m = m ≡ CutTo height
Asked p nodes height todo.Fail m = m ≡ Fail
Asked p nodes height todo.Leave m = m ≡ Leave height
Asked p nodes height (todo.Gather k) m = (t : Tree) × (m ≡ Gather height t) × IsBody p nodes k (Run t)

asked : {W : Type 0} (p : Present W) (nodes : List (Node W)) (f : Link) (m : Member) (t : Todo) → f.todo ≡ t
    → IsMember p nodes f m → Asked p nodes f.height t m
asked p nodes f m t asks member = subst (λ (x : Todo). Asked p nodes f.height x m) asks (by_member m member) where
  by_member : (m : Member) → IsMember p nodes f m → Asked p nodes f.height f.todo m
  by_member m (a_body {b = b} is body) = subst (λ (x : Todo). Asked p nodes f.height x m) (sym is) (b, refl, body)
  by_member m (a_cut is) = subst (λ (x : Todo). Asked p nodes f.height x m) (sym is) refl
  by_member m (a_failure is) = subst (λ (x : Todo). Asked p nodes f.height x m) (sym is) refl
  by_member m (an_end is) = subst (λ (x : Todo). Asked p nodes f.height x m) (sym is) refl
  by_member m (a_template {t = t} is body) = subst (λ (x : Todo). Asked p nodes f.height x m) (sym is) (t, refl, body)

-- a body that is a goal is a node's
run_there : {W : Type 0} (p : Present W) {nodes : List (Node W)} {k : ℕ} {t : Tree} → IsBody p nodes k (Run t)
    → (w : W) × (slice_get nodes k ≡ Some (node.Run w))
run_there p (runs {g = w} at is) = (w, at.is)

-- the node at a place, as it was read
pub node_is : {W : Type 0} (nodes : List (Node W)) (k : ℕ) (x n : Node W) → slice_get nodes k ≡ Some x → x ≡ n
    → slice_get nodes k ≡ Some n
node_is nodes k x n there is = there ∙ ap Some is

-- where a body comes first, what is behind it costs less
pub less_behind : (r k : ℕ) (t : Todo) → t ≡ todo.Body k → r < todo_cost t r
less_behind r k t is = subst (λ (x : Todo). r < todo_cost x r) (sym is) (cost_above k r)

-- no goal is asked for
pub no_goal_asked : {W : Type 0} (nodes : List (Node W)) (t : Todo) → ((k : ℕ) (w : W) → t ≡ todo.Body k
    → slice_get nodes k ≢ Some (node.Run w)) → IsNoGoal nodes t
no_goal_asked nodes (todo.Body k) none = λ w there. none k w refl there
no_goal_asked nodes todo.CutTo none = tt
no_goal_asked nodes todo.Fail none = tt
no_goal_asked nodes todo.Leave none = tt
no_goal_asked nodes (todo.Gather k) none = tt

-- ---- the laws

module _ {S L W M K P C N B O : Type 0} (l : lists.Ghosts L S K P C N B O W M)
    (m : members.Ghosts L S K P C N B O W M) where
  -- What lists with nodes promise, as the moves need it.
  pub record Laws : Type 0 where
    pub led : GivesMember l m.nodes m.leads
    pub leading : ComesFirst l m.nodes m.leads
    pub led_cost : CostsMember l m.nodes m.leads
    pub led_pending : TakesNone l m.nodes m.leads
    pub spans : (limit : ℕ) (s : State) → ComesFull limit s → m.over limit s
    pub all : (x : L) → l.within x (l.whole x)
    pub top : (x : L) (k : K) → l.within x k → l.below k (l.whole x)
    pub more : (p : Present W) (x : L) (j k : K) (i : P) (ms : List Member) → l.below j k → l.list p x j i ms
        → l.list p x k i ms
    pub words : (p q : Present W) (x : L) (k : K) (i : P) (ms : List Member) → KeepsWords p q → l.list p x k i ms
        → l.list q x k i ms

-- ---- the member that comes first

module _ {S L W M K P C N B O : Type 0} (g : Ghosts S W M) (l : lists.Ghosts L S K P C N B O W M)
    (m : members.Ghosts L S K P C N B O W M) where
  -- The engine, in this state, is to do what this member asks for.
  pub record AtFirst (e : Search S L W M K P C N B O) (s : State) (f : First P) : Type 0 where
    pub member : Member
    pub behind : List Member
    pub list : s.list ≡ member ∷ behind
    pub stands_for : IsMember (g.present e.store) (m.nodes e.lists) (link_of f) member
    pub ahead : IsAhead g l e (record s { list = behind }) f.behind

  -- It is to run the body at this place.
  pub record AtBody (e : Search S L W M K P C N B O) (s : State) (f : First P) (k : ℕ) : Type 0 where
    pub body : Body
    pub behind : List Member
    pub list : s.list ≡ Goal body f.height ∷ behind
    pub stands_for : IsBody (g.present e.store) (m.nodes e.lists) k body
    pub ahead : IsAhead g l e (record s { list = behind }) f.behind

module _ {S L W M K P C N B O : Type 0} (g : Ghosts S W M) (l : lists.Ghosts L S K P C N B O W M)
    (m : members.Ghosts L S K P C N B O W M) (laws : Laws l m) where
  module _ (e : Search S L W M K P C N B O) (f : First P) (begins : Begins m.leads e.now f) where
    abbrev p : Present W
    p = g.present e.store

    -- what is to be done where it comes first
    cost_is : l.first_cost e.lists begins.0 ≡ todo_cost f.todo (l.cost e.lists f.behind)
    cost_is = laws.led_cost e.lists begins.0 f.todo f.height f.behind begins.2

    pub at_first : (s : State) → IsEngine g l e s → AtFirst g l m e s f
    at_first s is =
        let next = next_is g l e s (now.Running begins.0) begins.1 is in
        let first = laws.led p e.lists begins.0 s.list f.todo f.height f.behind begins.2 next.0 in
        let none = laws.led_pending e.lists begins.0 f.todo f.height f.behind begins.2 in
        let here = ap (λ (n : Now N P). now_pending (l.first_pending e.lists) n) begins.1 in
        record {
          member = first.member;
          behind = first.behind;
          list = first.is;
          stands_for = first.stands;
          ahead = record {
            world = is.world;
            steps = is.steps;
            base = is.base;
            choices = is.choices;
            room = is.room;
            fits = fits_fewer g p s {few = l.pending e.lists f.behind} (omega (arith, none, here)) is.fits;
            goes = goes_with first.behind s.stack next.1;
            chain = first.chain;
          };
        }

    -- ---- a body

    module _ (k : ℕ) (asks : f.todo ≡ todo.Body k) where
      pub at_body : (s : State) → IsEngine g l e s → AtBody g l m e s f k
      at_body s is =
          let a = at_first s is in
          let b = asked p (m.nodes e.lists) (link_of f) a.member (todo.Body k) asks a.stands_for in
          record {
            body = b.0;
            behind = a.behind;
            list = a.list ∙ ap (λ (x : Member). x ∷ a.behind) b.1;
            stands_for = b.2;
            ahead = a.ahead;
          }

      pub place_within : (s : State) → Represents g l e s → k < length (m.nodes e.lists)
      place_within s r = body_within p (at_body r.own r.engine).stands_for

      -- what is behind costs less
      pub body_less : l.cost e.lists f.behind < l.first_cost e.lists begins.0
      body_less =
          let less = less_behind (l.cost e.lists f.behind) k f.todo asks in
          let all = cost_is in
          omega (arith, less, all)

      -- the goal that is its node comes first
      pub at_goal : (w : W) → slice_get (m.nodes e.lists) k ≡ Some (node.Run w) → (s : State) → IsEngine g l e s
          → IsAtGoal g l e w f.behind s
      at_goal w there s is =
          let b = at_body s is in
          let found = part_is (node.Run w) there b.stands_for in
          record {
            term = found.0;
            mark = f.height;
            at = record {
              behind = b.behind;
              list = b.list ∙ ap (λ (c : Body). Goal c f.height ∷ b.behind) found.1;
              ahead = b.ahead;
            };
            holds = (found.2).0;
            value = ap (apply s.subst) (found.2).1 ∙ ap (λ (r : Subst). apply r (p.term w)) (sym (b.ahead.goes).subst);
          }

      pub goal_first : (w : W) → slice_get (m.nodes e.lists) k ≡ Some (node.Run w) → IsGoalFirst g l e w f.behind
      goal_first w there = record { first = begins.0; running = begins.1; at = at_goal w there; less = body_less }

      -- the body is a cut
      pub cut_body : slice_get (m.nodes e.lists) k ≡ Some node.Cut → IsFirst g l e (IsCut f.height) f.behind
      cut_body there = record {
        first = begins.0;
        running = begins.1;
        at = λ s is.
            (let b = at_body s is in
            let cut = part_is node.Cut there b.stands_for in (
              Goal Cut f.height,
              inr refl,
              record {
                behind = b.behind;
                list = b.list ∙ ap (λ (c : Body). Goal c f.height ∷ b.behind) cut;
                ahead = b.ahead;
              },
            ));
        less = body_less;
      }

    -- ---- other members

    -- what is behind, or nothing at all, costs less
    other_less : (t : Todo) → f.todo ≡ t → todo_cost t (l.cost e.lists f.behind) ≡ l.cost e.lists f.behind + 1
        → l.cost e.lists f.behind < l.first_cost e.lists begins.0
    other_less t asks one =
        let all = cost_is in
        let here = ap (λ (x : Todo). todo_cost x (l.cost e.lists f.behind)) asks in
        omega (arith, all, here, one)

    pub cut_first : f.todo ≡ todo.CutTo → IsFirst g l e (IsCut f.height) f.behind
    cut_first asks = record {
      first = begins.0;
      running = begins.1;
      at = λ s is.
          (let a = at_first s is in
          let cut = asked p (m.nodes e.lists) (link_of f) a.member todo.CutTo asks a.stands_for in (
            CutTo f.height,
            inl refl,
            record { behind = a.behind; list = a.list ∙ ap (λ (x : Member). x ∷ a.behind) cut; ahead = a.ahead },
          ));
      less = other_less todo.CutTo asks (omega arith);
    }

    pub leave_first : f.todo ≡ todo.Leave → IsFirst g l e IsLeave f.behind
    leave_first asks = record {
      first = begins.0;
      running = begins.1;
      at = λ s is.
          (let a = at_first s is in
          let end = asked p (m.nodes e.lists) (link_of f) a.member todo.Leave asks a.stands_for in (
            Leave f.height,
            (f.height, refl),
            record { behind = a.behind; list = a.list ∙ ap (λ (x : Member). x ∷ a.behind) end; ahead = a.ahead },
          ));
      less = other_less todo.Leave asks (omega arith);
    }

    pub fail_first : f.todo ≡ todo.Fail → FailsFirst g l e
    fail_first asks = record {
      first = begins.0;
      running = begins.1;
      at = λ s is.
          (let a = at_first s is in
          let fails = asked p (m.nodes e.lists) (link_of f) a.member todo.Fail asks a.stands_for in
          (a.behind, a.list ∙ ap (λ (x : Member). x ∷ a.behind) fails));
      less = (let less = other_less todo.Fail asks (omega arith) in omega (arith, less));
    }

    -- ---- a template

    module _ (k : ℕ) (asks : f.todo ≡ todo.Gather k) where
      -- the member gathers it
      template_at : (s : State) (is : IsEngine g l e s)
          → Asked p (m.nodes e.lists) f.height (todo.Gather k) (at_first s is).member
      template_at s is =
          let a = at_first s is in
          asked p (m.nodes e.lists) (link_of f) a.member (todo.Gather k) asks a.stands_for

      -- its word is at this place
      pub template_within : (s : State) → IsEngine g l e s → k < length (m.nodes e.lists)
      template_within s is = body_within p (template_at s is).2

      -- which is a goal's
      pub template_node : (s : State) → IsEngine g l e s → (x : Node W) → slice_get (m.nodes e.lists) k ≡ Some x
          → (w : W) × (x ≡ node.Run w)
      template_node s is x at =
          let there = run_there p (template_at s is).2 in
          (there.0, some_same (sym at ∙ there.1))

      pub gather_first : (w : W) → slice_get (m.nodes e.lists) k ≡ Some (node.Run w) → (s : State) → IsEngine g l e s
          → GathersFirst g l e f.height w
      gather_first w there o was = record {
        first = begins.0;
        running = begins.1;
        at = λ s is.
            (let a = at_first s is in
            let t = template_at s is in
            let found = part_is (node.Run w) there t.2 in
            let term : t.0 ≡ found.0 = cc (found.1) in (
              t.0,
              a.behind,
              a.list ∙ ap (λ (x : Member). x ∷ a.behind) t.1,
              ap (apply s.subst) (term ∙ (found.2).1)
                  ∙ ap (λ (r : Subst). apply r (p.term w)) (sym (a.ahead.goes).subst),
            ));
        holds = (part_is (node.Run w) there (template_at o was).2).2.0;
        less = (let less = other_less (todo.Gather k) asks (omega arith) in omega (arith, less));
      }
