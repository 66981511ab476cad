-- What comes first, where it is a member or code: a goal, or what is left to a step.
use Rattle.std.proofs.Common.{◌≡◌, ◌≢◌, ◌<◌, ℕ, List, ◌∷◌, length, get_or, Option, Some, None, Ok, inl, inr, refl, ap, ap₂, sym, ◌∙◌, subst, arith}
use Rattle.std.specs.Global.{Global}
use Rattle.std.specs.List.{slice_get}
use Rattle.std.specs.declared.rc.Rc.{Rc}
use Rattle.iso_model.specs.Terms.Trees.{Tree}
use Rattle.iso_model.specs.Terms.Substitutions.{Subst, apply}
use Rattle.iso_model.specs.Search.Bodies.{Body}
use Rattle.iso_model.specs.Search.Walker.{State, Member, Goal}
use Rattle.iso_store_core.specs.Presents.{Present}
use Rattle.iso_store_core.specs.declared.stores.Store.{Ghosts}
use Rattle.iso_prep.specs.declared.bodies.Node.{Node}
use Rattle.iso_prep.specs.declared.bodies.Node.TheVariants as node
use Rattle.iso_plain_core.specs.Costs.{todo_cost}
use Rattle.iso_plain_core.specs.Standing.{IsBody, IsMember, a_body, a_cut, a_failure, an_end, a_template}
use Rattle.iso_plain_core.specs.declared.members.Todo.{Todo}
use Rattle.iso_plain_core.specs.declared.members.Todo.TheVariants as todo
use Rattle.iso_plain_core.proofs.PlaceLemmas.{part_is}
use Rattle.iso_plain_core.proofs.StandingLemmas.{body_within}
use Rattle.iso_search_core.specs.Costs.{now_pending}
use Rattle.iso_search_core.specs.declared.nows.Now.TheVariants as now
use Rattle.iso_search_core.proofs.BodyCosts.{cost_above}
use Rattle.iso_search_core.proofs.FittingLemmas.{fits_fewer}
use Rattle.iso_search_core.proofs.StandingLemmas.{item_there}
use Rattle.iso_instructions.specs.declared.instructions.Code.{Code}
use Rattle.iso_instructions.specs.declared.instructions.Instruction.{Instruction}
use Rattle.iso_instructions.specs.declared.instructions.Instruction.TheVariants as instruction
use Rattle.iso_instructions.specs.declared.instructions.Goal as loaded
use Rattle.iso_frames.specs.declared.frames.Rest.{Rest}
use Rattle.iso_frames.specs.declared.frames.Frame.{Frame}
use Rattle.iso_frames.specs.declared.frames.Level.{Level}
use Rattle.iso_frames.specs.declared.frames.Link.{Link}
use Rattle.iso_frames.specs.declared.frames.Next.{Next}
use Rattle.iso_frames.specs.declared.frames.Next.TheVariants as next
use Rattle.iso_frames.specs.Frames.{Leads, StopsAt, plain_link}
use Rattle.iso_frames.specs.Costs.{first_pending}
use Rattle.iso_environments.specs.Leveled.{IsAtClause}
use Rattle.iso_environments.specs.Putting.{IsCallThere}
use Rattle.iso_search.specs.EngineStates.{IsAhead, IsEngine, Represents}
use Rattle.iso_search.specs.declared.calls.Next.TheVariants as calls
use Rattle.iso_search.specs.declared.calls.NextGoal.{NextGoal}
use Rattle.iso_search.specs.Nexts.{IsAtGoal, IsGoalFirst, IsNext}
use Rattle.iso_search.proofs.AheadLemmas.{goes_with}
use Rattle.iso_search.proofs.EndLemmas.{next_is}
use Rattle.iso_search.proofs.LimitLemmas.{stays_same}
use Rattle.iso_search.proofs.Moves.Next.{running_stands}
use Rattle.iso_machine.specs.Came.{Came}
use Rattle.iso_machine.specs.Engines.{Engine, framed}
use Rattle.iso_machine.specs.Instructions.{IsInstructionThere}
use Rattle.iso_machine.specs.Lists.{cost_at, pending_at, stack_of}
use Rattle.iso_control.specs.Members.{IsNoGoal}
use Rattle.iso_machine.specs.Steps.{IsByStep, IsNoCall}
use Rattle.iso_machine.specs.Wholes.{whole_list}

-- ---- members

-- a member that asks for a body
member_body : {W : Type 0} (p : Present W) (nodes : List (Node W)) (t : Todo) (height : ℕ) (m : Member) (k : ℕ)
    → t ≡ todo.Body k → IsMember p nodes (plain_link t height) m → (b : Body) × (m ≡ Goal b height) × IsBody p nodes k b
member_body p nodes t height m k asks (a_body {i = i} {b = b} is body) =
    let same : todo.Body i ≡ todo.Body k = sym is ∙ asks in
    let place : i ≡ k = cc in
    (b, refl, subst (λ (j : ℕ). IsBody p nodes j b) place body)
member_body p nodes t height m k asks (a_cut is) = absurd (let none : todo.CutTo ≡ todo.Body k = sym is ∙ asks in cc)
member_body p nodes t height m k asks (a_failure is) = absurd (let none : todo.Fail ≡ todo.Body k = sym is ∙ asks in cc)
member_body p nodes t height m k asks (an_end is) = absurd (let none : todo.Leave ≡ todo.Body k = sym is ∙ asks in cc)
member_body p nodes t height m k asks (a_template {i = i} is body) =
    absurd (let none : todo.Gather i ≡ todo.Body k = sym is ∙ asks in cc)

-- what asks for no body is no goal
no_body : {W : Type 0} (nodes : List (Node W)) (t : Todo) → ((k : ℕ) → t ≢ todo.Body k) → IsNoGoal nodes t
no_body nodes (todo.Body k) other = absurd (other k refl)
no_body nodes todo.CutTo other = tt
no_body nodes todo.Fail other = tt
no_body nodes todo.Leave other = tt
no_body nodes (todo.Gather k) other = tt

-- an instruction that is no call
pub no_call : (i : Instruction) → ((x : _) → i ≢ instruction.Call x) → ((x : _) → i ≢ instruction.Execute x)
    → IsNoCall i
no_call (instruction.Call x) calls executes = absurd (calls x refl)
no_call (instruction.Execute x) calls executes = absurd (executes x refl)
no_call i calls executes = tt

-- an instruction that is one
pub called_there : (frames : List Frame) (r : Rest) (x : loaded.Goal)
    → IsInstructionThere frames r (instruction.Call x) → IsCallThere frames r
called_there frames r x there = (
  x,
  record {
    frame = there.frame;
    code = there.code;
    level = there.level;
    clause = there.clause;
    called = inl there.item;
  },
)

pub executed_there : (frames : List Frame) (r : Rest) (x : loaded.Goal)
    → IsInstructionThere frames r (instruction.Execute x) → IsCallThere frames r
executed_there frames r x there = (
  x,
  record {
    frame = there.frame;
    code = there.code;
    level = there.level;
    clause = there.clause;
    called = inr there.item;
  },
)

module _ {S W M : Type 0} (g : Ghosts S W M) (atom_word : ℕ → W) where
  -- what comes first is left to a step
  pub left_to_step : (e : Engine S W M) (first : Next W) → e.now ≡ now.Running first → IsByStep e.lists first
      → IsNext g (framed atom_word) IsByStep e None
  left_to_step e first doing by other is =
      let whole : now.Running first ≡ now.Running other = sym doing ∙ is in
      let same : first ≡ other = cc in
      subst (IsByStep e.lists) same by

  -- what comes first is left as it is
  pub came_left : (e : Engine S W M) (first : Next W) (n : Option (NextGoal W (Option Rest)))
      → e.now ≡ now.Running first → IsNext g (framed atom_word) IsByStep e n
      → Came g atom_word e (Ok calls.Other) n e
  came_left e first n doing is = record {
    next = λ s r.
        (let stands = running_stands g (framed atom_word) e s first doing r in
        (stands.0, stands.1, is));
    stopped = λ s r. tt;
    falls = omega arith;
    full = λ none. absurd (cc);
    stays = stays_same g e;
  }

  -- code that comes first is at an instruction of a clause
  pub engine_stops : (e : Engine S W M) (r : Rest) → e.now ≡ now.Running (next.Code r) → (s : State)
      → IsEngine g (framed atom_word) e s
      → (f : Frame) × (code : Rc Code Global) × (level : Option Level) × IsAtClause e.lists.frames.items r f code level
      × (r.address < length code.value.body.items)
  engine_stops e r doing s is =
      let stops : StopsAt atom_word (stack_of e.lists) r =
      (next_is g (framed atom_word) e s (now.Running (next.Code r)) doing is).0.1 in
      (stops.frame, stops.code, stops.level, record { at = stops.at.is; work = stops.work }, stops.stops.inside)

  pub code_stops : (e : Engine S W M) (r : Rest) → e.now ≡ now.Running (next.Code r) → (s : State)
      → Represents g (framed atom_word) e s
      → (f : Frame) × (code : Rc Code Global) × (level : Option Level) × IsAtClause e.lists.frames.items r f code level
      × (r.address < length code.value.body.items)
  code_stops e r doing s is = engine_stops e r doing is.own is.engine

  module _ (e : Engine S W M) (link : Link) (doing : e.now ≡ now.Running (next.Member link)) where
    -- The engine, in this state, is to run the body at this place.
    pub record AtBody (s : State) (k : ℕ) : Type 0 where
      pub body : Body
      pub behind : List Member
      pub list : s.list ≡ Goal body link.height ∷ behind
      pub stands : IsBody (g.present e.store) e.lists.nodes.items k body
      pub ahead : IsAhead g (framed atom_word) e (record s { list = behind }) link.behind

    at_body : (s : State) (k : ℕ) → link.todo ≡ todo.Body k → IsEngine g (framed atom_word) e s → AtBody s k
    at_body s k asks is =
        let p = g.present e.store in
        let first = next_is g (framed atom_word) e s (now.Running (next.Member link)) doing is in
        let leads : Leads atom_word p (stack_of e.lists) link s.list = first.0 in
        let b = member_body p e.lists.nodes.items link.todo link.height leads.member k asks leads.stands in
        let pending = ap (now_pending (λ (n : Next W). first_pending e.lists.frames.items n)) doing in
        record {
          body = b.0;
          behind = leads.behind;
          list = leads.is ∙ ap (λ (m : Member). m ∷ leads.behind) b.1;
          stands = b.2;
          ahead = record {
            world = is.world;
            steps = is.steps;
            base = is.base;
            choices = is.choices;
            room = is.room;
            fits = fits_fewer g p s {few = pending_at e.lists link.behind} (omega (arith, pending)) is.fits;
            goes = goes_with leads.behind s.stack first.1;
            chain = whole_list atom_word e.lists leads.chain;
          };
        }

    module _ (k : ℕ) (asks : link.todo ≡ todo.Body k) where
      pub place_within : (s : State) → Represents g (framed atom_word) e s → k < length e.lists.nodes.items
      place_within s r = body_within (g.present e.store) (at_body r.own k asks r.engine).stands

      -- the node that was read there
      pub node_read : (s : State) → Represents g (framed atom_word) e s → (x : Node W)
          → x ≡ get_or e.lists.nodes.items k x → slice_get e.lists.nodes.items k ≡ Some x
      node_read s r x item = item_there e.lists.nodes.items k x (place_within s r) item

      at_goal : (w : W) → slice_get e.lists.nodes.items k ≡ Some (node.Run w) → (s : State)
          → IsEngine g (framed atom_word) e s → IsAtGoal g (framed atom_word) e w link.behind s
      at_goal w there s is =
          let b = at_body s k asks is in
          let found = part_is (node.Run w) there b.stands in
          record {
            term = found.0;
            mark = link.height;
            at = record {
              behind = b.behind;
              list = b.list ∙ ap (λ (c : Body). Goal c link.height ∷ b.behind) found.1;
              ahead = b.ahead;
            };
            holds = (found.2).0;
            value = ap₂ (λ (x : Subst) (t : Tree). apply x t) (sym (b.ahead.goes).subst) (found.2).1;
          }

      -- it is a goal, which comes first
      pub node_first : (w : W) → slice_get e.lists.nodes.items k ≡ Some (node.Run w)
          → IsGoalFirst g (framed atom_word) e w link.behind
      node_first w there = record {
        first = next.Member link;
        running = doing;
        at = at_goal w there;
        less =
            subst (λ (t : Todo). cost_at e.lists link.behind < todo_cost t (cost_at e.lists link.behind)) (sym asks)
            (cost_above k (cost_at e.lists link.behind));
      }

      -- it is no goal
      pub node_other : ((w : W) → slice_get e.lists.nodes.items k ≢ Some (node.Run w))
          → IsNext g (framed atom_word) IsByStep e None
      node_other other =
          left_to_step e (next.Member link) doing (subst (IsNoGoal e.lists.nodes.items) (sym asks) other)

    -- the member asks for no body
    pub member_other : ((k : ℕ) → link.todo ≢ todo.Body k) → IsNext g (framed atom_word) IsByStep e None
    member_other other = left_to_step e (next.Member link) doing (no_body e.lists.nodes.items link.todo other)
