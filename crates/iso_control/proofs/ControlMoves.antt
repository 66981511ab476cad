-- Moves at control constructs.
use Rattle.std.proofs.Common.{◌≡◌, ℕ, suc, ◌+◌, ◌-◌, ◌<◌, ◌≤◌, ◌⊎◌, List, ◌∷◌, length, refl, ap, sym, ◌∙◌, subst}
use Rattle.std.proofs.Common.{arith, inl, inr, Vec, Global}
use Rattle.iso_atoms.specs.Texts.{KeepsTexts}
use Rattle.iso_model.specs.Search.Bodies.{Body, And, Or, If, Choose}
use Rattle.iso_model.specs.Search.Walker.{State, Member, Goal, CutTo, Alternative, AsIs, Goes, pushed, step}
use Rattle.iso_search.specs.Limits.{ComesFull}
use Rattle.iso_store_core.specs.Presents.{Present, KeepsMarks}
use Rattle.iso_store_core.specs.declared.stores.Store.{Ghosts}
use Rattle.iso_prep.specs.declared.bodies.Node.{Node}
use Rattle.iso_prep.specs.declared.bodies.Node.TheVariants as node
use Rattle.iso_plain_core.specs.declared.members.Todo.{Todo}
use Rattle.iso_plain_core.specs.declared.members.Todo.TheVariants as todo
use Rattle.iso_plain_core.specs.Costs.{todo_cost}
use Rattle.iso_plain_core.specs.Standing.{IsAt, IsBody, IsGoalWord, IsMember, a_body, a_cut}
use Rattle.iso_plain_core.proofs.PlaceLemmas.{Pair, Triple, part_is}
use Rattle.iso_search_core.specs.Bodies.{body_cost}
use Rattle.iso_search_core.specs.declared.lists.Lists as lists
use Rattle.iso_search_core.specs.declared.choices.Left.TheVariants as left
use Rattle.iso_search_core.specs.declared.choices.Choice as kept
use Rattle.iso_search_core.specs.declared.nows.Now.TheVariants as now
use Rattle.iso_search_core.specs.Costs.{choices_cost}
use Rattle.iso_search_core.specs.Standing.{GainsChoice, Keeps}
use Rattle.iso_search_core.proofs.BodyCosts.{cost_above, cost_more, cost_parts}
use Rattle.iso_search_core.proofs.StandingLemmas.{choices_length, keeps_both, keeps_none}
use Rattle.iso_search.specs.declared.search.Move.TheVariants as move
use Rattle.iso_search.specs.declared.search.Search.{Search}
use Rattle.iso_search.specs.EngineStates.{IsEngine, IsAhead, Refused, Represents, Moves, cost, kept_cost, weight}
use Rattle.iso_search.proofs.AheadLemmas.{ahead_choice, ahead_grown, remains_ahead}
use Rattle.iso_search.proofs.BoundLemmas.{list_on}
use Rattle.iso_search.proofs.Moves.Body.{engine_grown, grown_cost}
use Rattle.iso_search.proofs.Moves.Member.{running_cost}
use Rattle.iso_search.proofs.Moves.Search.{goes, refuses, comes_over}
use Rattle.iso_search.proofs.SearchSteps.{step_is}
use Rattle.iso_search.proofs.StoppedLemmas.{keeps_lists}
use Rattle.iso_search.proofs.WeightLemmas.{falls_less, gained_cost}
use Rattle.iso_control.specs.declared.control.First.{First}
use Rattle.iso_control.specs.declared.members.Members as members
use Rattle.iso_control.specs.Firsts.{Begins, link_of}
use Rattle.iso_control.specs.Members.{plain_link}
use Rattle.iso_control.proofs.FirstMoves.{AtBody, Laws, at_body}

-- ---- what parts cost

and_less : (k i j r : ℕ) → i < k → j < k → body_cost i (body_cost j r) < body_cost k r
and_less k i j r first second =
    let all = cost_parts k i j j r first second second in
    let more = cost_more i (body_cost j r) (body_cost j r + 2) (omega arith) in
    omega (arith, all, more)

if_less : (k i j r : ℕ) → i < k → j < k → body_cost i (suc (body_cost j r)) < body_cost k r
if_less k i j r first second =
    let all = cost_parts k i j j r first second second in
    let more = cost_more i (suc (body_cost j r)) (body_cost j r + 2) (omega arith) in
    omega (arith, all, more)

or_less : (k i j r : ℕ) → i < k → j < k → suc (body_cost j r) + body_cost i r < body_cost k r
or_less k i j r first second =
    let all = cost_parts k i i j r first first second in
    let up = cost_above i r in
    let more = cost_more i r (body_cost i r + 2) (omega (arith, up)) in
    omega (arith, all, more)

choose_less : (k h i j r : ℕ) → h < k → i < k → j < k
    → suc (body_cost j r) + body_cost h (suc (body_cost i r)) < body_cost k r
choose_less k h i j r first second third =
    let all = cost_parts k h i j r first second third in
    let more = cost_more h (suc (body_cost i r)) (body_cost i r + 2) (omega arith) in
    omega (arith, all, more)

-- ---- what came

module _ {S L W M K P C N B O : Type 0} (l : lists.Ghosts L S K P C N B O W M)
    (m : members.Ghosts L S K P C N B O W M) where
  -- The member that asks for this came, and its place is before the list that stood behind it.
  pub record Came (old more : L) (asked : Todo) (height : ℕ) (behind place : P) : Type 0 where
    pub placed : (p : Present W) (x : Member) (ms : List Member)
        → IsMember p (m.nodes old) (plain_link asked height) x → l.list p old (l.whole old) behind ms
        → l.list p more (l.whole more) place (x ∷ ms)
    pub cost : l.cost more place ≡ todo_cost asked (l.cost old behind)
    pub pending : l.pending more place ≡ l.pending old behind
    pub keeps : Keeps l old more
    pub nodes : m.nodes more ≡ m.nodes old

module _ {S L W M K P C N B O : Type 0} (g : Ghosts S W M) (l : lists.Ghosts L S K P C N B O W M) where
  -- A choice came over these lists, at which the list from the place on is left as it is.
  pub record Leaves (e : Search S L W M K P C N B O) (more : L) (place : P) (store : S)
      (choices : Vec (kept.Choice W M K P C) Global) : Type 0 where
    pub same : g.present store ≡ g.present e.store
    pub marks : KeepsMarks (g.stands e.store) (g.stands store)
    pub texts : KeepsTexts (g.names e.store) (g.names store)
    pub gains : GainsChoice (g.stands e.store) (g.stands store) g.older (g.present e.store) (l.whole more) place
        left.AsIs e.choices.items choices.items

module _ {S L W M K P C N B O : Type 0} (g : Ghosts S W M) (l : lists.Ghosts L S K P C N B O W M)
    (m : members.Ghosts L S K P C N B O W M) (laws : Laws l m) where
  -- a body of the old nodes comes first, before a list
  first_body : (p : Present W) (old more : L) (k height : ℕ) (behind : P) (next : N) (b : Body) (ms : List Member)
      → m.leads next (todo.Body k) height behind → m.nodes more ≡ m.nodes old → IsBody p (m.nodes old) k b
      → l.list p more (l.whole more) behind ms → l.first p more next (Goal b height ∷ ms)
  first_body p old more k height behind next b ms leads nodes body list =
      laws.leading p more next (todo.Body k) height behind (Goal b height) ms leads
      (a_body refl (subst (λ (ns : List (Node W)). IsBody p ns k b) (sym nodes) body)) list

  -- where no choice may be made any more, the frames may be full
  pub full_over : (e : Search S L W M K P C N B O) (s : State) → Represents g l e s
      → (e.limit ≤ length e.choices.items → ComesFull e.limit s)
      → (e.limit ≤ length e.choices.items) ⊎ ((t : State) → Represents g l e t → m.over e.limit t)
      → m.over e.limit s
  full_over e s r comes (inl full) = laws.spans e.limit s (comes full)
  full_over e s r comes (inr over) = over s r

  module _ (e : Search S L W M K P C N B O) (s : State) (f : First P) (k : ℕ) (begins : Begins m.leads e.now f)
      (r : Represents g l e s) where
    abbrev own : State
    own = r.own

    abbrev p : Present W
    p = g.present e.store

    abbrev rest : ℕ
    rest = l.cost e.lists f.behind

    abbrev at : f.todo ≡ todo.Body k → AtBody g l m e own f k
    at asks = at_body g l m laws e f begins k asks own r.engine

    -- what is to be done at the body
    old_cost : f.todo ≡ todo.Body k → cost l e ≡ kept_cost l e + body_cost k rest
    old_cost asks =
        let all = running_cost l e begins.0 begins.1 in
        let member = laws.led_cost e.lists begins.0 f.todo f.height f.behind begins.2 in
        let here = ap (λ (t : Todo). todo_cost t rest) asks in
        omega (arith, all, member, here)

    -- ---- a conjunction

    pub and_parts : (d : ℕ) → (h : IsAt (m.nodes e.lists) (link_of f) k (node.And d))
        → (d ≤ k) × (0 < d) × (0 < k) × Pair (IsGoalWord p) (m.nodes e.lists) And (k - d) (k - 1) (at h.asks).body
    and_parts d h = part_is (node.And d) h.there (at h.asks).stands_for

    module _ (d : ℕ) (h : IsAt (m.nodes e.lists) (link_of f) k (node.And d)) (more : L) (second : P) (next : N)
        (c : Came l m e.lists more (todo.Body (k - 1)) f.height f.behind second)
        (led : m.leads next (todo.Body (k - d)) f.height second) where
      pub takes_apart : Moves g l move.Goes s (record e { lists = more; now = now.Running next })
      takes_apart =
          let a = at h.asks in
          let b = (and_parts d h).3 in
          let list = c.placed p (Goal b.second f.height) a.behind (a_body refl b.second_body) a.ahead.chain in
          let ms : List Member = Goal b.second f.height ∷ a.behind in
          let none = laws.led_pending more next (todo.Body (k - d)) f.height second led in
          let same = c.pending in
          goes g l e (record e { lists = more; now = now.Running next }) s r
          (record own { list = Goal b.first f.height ∷ ms })
          (step_is own (Goal (And b.first b.second) f.height ∷ a.behind)
          (a.list ∙ ap (λ (x : Body). Goal x f.height ∷ a.behind) b.is))
          (engine_grown g l e (record own { list = a.behind }) f.behind more next (Goal b.first f.height ∷ ms) a.ahead
          c.keeps (first_body p e.lists more (k - d) f.height second next b.first ms led c.nodes b.first_body list)
          (omega (arith, none, same))) tt

      pub apart_falls : weight l (record e { lists = more; now = now.Running next }) < weight l e
      apart_falls =
          let a = at h.asks in
          let parts = and_parts d h in
          let old = old_cost h.asks in
          let kept_all = grown_cost g l e (record own { list = a.behind }) f.behind more a.ahead c.keeps in
          let here = laws.led_cost more next (todo.Body (k - d)) f.height second led in
          let behind = ap (body_cost (k - d)) c.cost in
          let some = parts.1 in
          let long = parts.2 in
          let less = and_less k (k - d) (k - 1) rest (omega (arith, some, long)) (omega (arith, long)) in
          falls_less l e (record e { lists = more; now = now.Running next }) refl
          (omega (arith, old, kept_all, here, behind, less))

    -- ---- an if-then

    pub if_parts : (d : ℕ) → (h : IsAt (m.nodes e.lists) (link_of f) k (node.If d))
        → (d ≤ k) × (0 < d) × (0 < k) × Pair (IsGoalWord p) (m.nodes e.lists) If (k - d) (k - 1) (at h.asks).body
    if_parts d h = part_is (node.If d) h.there (at h.asks).stands_for

    module _ (d height : ℕ) (h : IsAt (m.nodes e.lists) (link_of f) k (node.If d)) (middle more : L)
        (behind once : P) (next : N) (many : height ≡ length e.choices.items)
        (c : Came l m e.lists middle (todo.Body (k - 1)) f.height f.behind behind)
        (cut : Came l m middle more todo.CutTo height behind once)
        (led : m.leads next (todo.Body (k - d)) height once) where
      abbrev both_keep : Keeps l e.lists more
      both_keep = keeps_both l c.keeps cut.keeps

      pub takes_condition : Moves g l move.Goes s (record e { lists = more; now = now.Running next })
      takes_condition =
          let a = at h.asks in
          let b = (if_parts d h).3 in
          let same : height ≡ length own.stack = many ∙ choices_length l r.engine.choices in
          let list = c.placed p (Goal b.second f.height) a.behind (a_body refl b.second_body) a.ahead.chain in
          let both = cut.placed p (CutTo height) (Goal b.second f.height ∷ a.behind) (a_cut refl) list in
          let ms : List Member = CutTo height ∷ Goal b.second f.height ∷ a.behind in
          let new : Search S L W M K P C N B O = record e { lists = more; now = now.Running next } in
          let none = laws.led_pending more next (todo.Body (k - d)) height once led in
          let one = c.pending in
          let two = cut.pending in
          let engine = engine_grown g l e (record own { list = a.behind }) f.behind more next
          (Goal b.first height ∷ ms) a.ahead both_keep
          (first_body p e.lists more (k - d) height once next b.first ms led (cut.nodes ∙ c.nodes) b.first_body
          both) (omega (arith, none, one, two)) in
          goes g l e new s r
          (record own {
            list = Goal b.first (length own.stack) ∷ CutTo (length own.stack) ∷ Goal b.second f.height ∷ a.behind;
          })
          (step_is own (Goal (If b.first b.second) f.height ∷ a.behind)
          (a.list ∙ ap (λ (x : Body). Goal x f.height ∷ a.behind) b.is))
          (subst (λ (n : ℕ). IsEngine g l new
          (record own { list = Goal b.first n ∷ CutTo n ∷ Goal b.second f.height ∷ a.behind })) same engine) tt

      pub condition_falls : weight l (record e { lists = more; now = now.Running next }) < weight l e
      condition_falls =
          let a = at h.asks in
          let parts = if_parts d h in
          let old = old_cost h.asks in
          let kept_all = grown_cost g l e (record own { list = a.behind }) f.behind more a.ahead both_keep in
          let here = laws.led_cost more next (todo.Body (k - d)) height once led in
          let costs = ap (body_cost (k - d)) (cut.cost ∙ ap suc c.cost) in
          let some = parts.1 in
          let long = parts.2 in
          let less = if_less k (k - d) (k - 1) rest (omega (arith, some, long)) (omega (arith, long)) in
          falls_less l e (record e { lists = more; now = now.Running next }) refl
          (omega (arith, old, kept_all, here, costs, less))

    -- ---- a body that is left as a choice

    module _ (b : Body) (a : AtBody g l m e own f k) (more : L) (place : P)
        (c : Came l m e.lists more (todo.Body (k - 1)) f.height f.behind place)
        (body : IsBody p (m.nodes e.lists) (k - 1) b) (store : S) (choices : Vec (kept.Choice W M K P C) Global)
        (leaves : Leaves g l e more place store choices) where
      -- the alternatives with the one at which it is run
      abbrev pub others : List Alternative
      others = (pushed (Goal b f.height ∷ a.behind) AsIs own).stack

      -- what is behind costs what it did, and takes the cells that it took
      behind_cost : l.cost more f.behind ≡ rest
      behind_cost = c.keeps.costs p (l.whole e.lists) f.behind a.behind tt (laws.all e.lists) a.ahead.chain

      behind_pending : l.pending more f.behind ≡ l.pending e.lists f.behind
      behind_pending = c.keeps.pendings p (l.whole e.lists) f.behind a.behind tt (laws.all e.lists) a.ahead.chain

      left_ahead : IsAhead g l (record e { lists = more; store = store; choices = choices })
          (record own { list = a.behind; stack = others }) f.behind
      left_ahead =
          let list = c.placed p (Goal b f.height) a.behind (a_body refl body) a.ahead.chain in
          let same = c.pending in
          let one = ahead_grown g l e (record own { list = a.behind }) f.behind place more
          (Goal b f.height ∷ a.behind) a.ahead c.keeps list (omega (arith, same)) in
          let two = ahead_choice g l (record e { lists = more }) (record own { list = Goal b f.height ∷ a.behind })
          place store choices left.AsIs AsIs (laws.all more) (λ j within. laws.top more j within) one refl refl
          leaves.same leaves.marks leaves.texts leaves.gains in
          let stays = list_on l laws.all laws.top laws.more laws.words p p e.lists more f.behind a.behind
          (record { stand = λ w h. h; terms = λ w h. refl }) c.keeps a.ahead.chain in
          let behind = subst (λ (q : Present W). l.list q more (l.whole more) f.behind a.behind) (sym leaves.same)
          stays in
          let fewer = behind_pending in
          ahead_grown g l (record e { lists = more; store = store; choices = choices })
          (pushed (Goal b f.height ∷ a.behind) AsIs (record own { list = Goal b f.height ∷ a.behind })) place f.behind
          more a.behind two (keeps_none l more) behind (omega (arith, same, fewer))

      -- what is to be done at the choices then
      left_cost : choices_cost (l.cost more) choices.items ≡ kept_cost l e + suc (body_cost (k - 1) rest)
      left_cost =
          let gained = gained_cost (l.cost more) leaves.gains in
          let old = grown_cost g l e (record own { list = a.behind }) f.behind more a.ahead c.keeps in
          let costs : l.cost more place ≡ body_cost (k - 1) rest = c.cost in
          omega (arith, gained, old, costs)

    -- ---- a disjunction

    pub or_parts : (d : ℕ) → (h : IsAt (m.nodes e.lists) (link_of f) k (node.Or d))
        → (d ≤ k) × (0 < d) × (0 < k) × Pair (IsGoalWord p) (m.nodes e.lists) Or (k - d) (k - 1) (at h.asks).body
    or_parts d h = part_is (node.Or d) h.there (at h.asks).stands_for

    module _ (d : ℕ) (h : IsAt (m.nodes e.lists) (link_of f) k (node.Or d)) where
      or_step : step own ≡ Goes (record (pushed (Goal ((or_parts d h).3).second f.height ∷ (at h.asks).behind) AsIs own)
          { list = Goal ((or_parts d h).3).first f.height ∷ (at h.asks).behind })
      or_step =
          let a = at h.asks in
          let b = (or_parts d h).3 in
          step_is own (Goal (Or b.first b.second) f.height ∷ a.behind)
          (a.list ∙ ap (λ (x : Body). Goal x f.height ∷ a.behind) b.is)

      -- the choice would be one too many
      pub either_over : e.limit ≤ length e.choices.items → ComesFull e.limit s
      either_over full =
          let a = at h.asks in
          let b = (or_parts d h).3 in
          let many = choices_length l r.engine.choices in
          comes_over g l e s r
          (record (pushed (Goal b.second f.height ∷ a.behind) AsIs own) { list = Goal b.first f.height ∷ a.behind })
          e.limit or_step refl (omega (arith, many, full))

      module _ (more : L) (second : P) (next : N)
          (c : Came l m e.lists more (todo.Body (k - 1)) f.height f.behind second) (store : S)
          (choices : Vec (kept.Choice W M K P C) Global) (leaves : Leaves g l e more second store choices)
          (led : m.leads next (todo.Body (k - d)) f.height f.behind) where
        abbrev either_engine : Search S L W M K P C N B O
        either_engine = record e { lists = more; store = store; choices = choices; now = now.Running next }

        pub takes_either : Moves g l move.Goes s
            (record e { lists = more; store = store; choices = choices; now = now.Running next })
        takes_either =
            let a = at h.asks in
            let b = (or_parts d h).3 in
            let ahead = left_ahead b.second a more second c b.second_body store choices leaves in
            let there : Search S L W M K P C N B O = record e { lists = more; store = store; choices = choices } in
            let body = subst (λ (q : Present W). IsBody q (m.nodes e.lists) (k - d) b.first) (sym leaves.same)
            b.first_body in
            let v : State = record (pushed (Goal b.second f.height ∷ a.behind) AsIs own) { list = a.behind } in
            let none = laws.led_pending more next (todo.Body (k - d)) f.height f.behind led in
            goes g l e either_engine s r (record v { list = Goal b.first f.height ∷ a.behind }) or_step
            (engine_grown g l there v f.behind more next (Goal b.first f.height ∷ a.behind) ahead (keeps_none l more)
            (first_body (g.present store) e.lists more (k - d) f.height f.behind next b.first a.behind led c.nodes body
            ahead.chain) (omega (arith, none))) tt

        pub either_falls : weight l
            (record e { lists = more; store = store; choices = choices; now = now.Running next }) < weight l e
        either_falls =
            let a = at h.asks in
            let parts = or_parts d h in
            let b = parts.3 in
            let old = old_cost h.asks in
            let kept_all = left_cost b.second a more second c b.second_body store choices leaves in
            let here = laws.led_cost more next (todo.Body (k - d)) f.height f.behind led in
            let costs = ap (body_cost (k - d)) (behind_cost b.second a more second c b.second_body store choices leaves)
            in
            let some = parts.1 in
            let long = parts.2 in
            let less = or_less k (k - d) (k - 1) rest (omega (arith, some, long)) (omega (arith, long)) in
            falls_less l e either_engine refl (omega (arith, old, kept_all, here, costs, less))

    -- ---- an if-then-else

    pub choose_parts : (c d : ℕ) → (h : IsAt (m.nodes e.lists) (link_of f) k (node.Choose c d))
        → (c ≤ k) × (d ≤ k) × (0 < c) × (0 < d) × (0 < k)
        × Triple (IsGoalWord p) (m.nodes e.lists) (k - c) (k - d) (k - 1) (at h.asks).body
    choose_parts c d h = part_is (node.Choose c d) h.there (at h.asks).stands_for

    module _ (c d : ℕ) (h : IsAt (m.nodes e.lists) (link_of f) k (node.Choose c d)) where
      -- the members then
      abbrev chosen : List Member
      chosen =
          Goal ((choose_parts c d h).5).first (suc (length own.stack)) ∷ CutTo (length own.stack)
          ∷ Goal ((choose_parts c d h).5).second f.height ∷ (at h.asks).behind

      -- the alternatives with the one for where the condition fails
      abbrev pub failed : List Alternative
      failed = (pushed (Goal ((choose_parts c d h).5).third f.height ∷ (at h.asks).behind) AsIs own).stack

      choose_goes : step own ≡ Goes (record own { list = chosen; stack = failed })
      choose_goes =
          let a = at h.asks in
          let b = (choose_parts c d h).5 in
          step_is own (Goal (Choose b.first b.second b.third) f.height ∷ a.behind)
          (a.list ∙ ap (λ (x : Body). Goal x f.height ∷ a.behind) b.is)

      pub choose_over : e.limit ≤ length e.choices.items → ComesFull e.limit s
      choose_over full =
          let many = choices_length l r.engine.choices in
          comes_over g l e s r (record own { list = chosen; stack = failed }) e.limit choose_goes refl
          (omega (arith, many, full))

      module _ (one : L) (other : P) (came : Came l m e.lists one (todo.Body (k - 1)) f.height f.behind other)
          (store : S) (choices : Vec (kept.Choice W M K P C) Global)
          (leaves : Leaves g l e one other store choices) where
        -- with the choice
        abbrev pub kept_engine : Search S L W M K P C N B O
        kept_engine = record e { lists = one; store = store; choices = choices }

        choose_ahead : IsAhead g l kept_engine (record own { list = (at h.asks).behind; stack = failed }) f.behind
        choose_ahead =
            let b = (choose_parts c d h).5 in
            left_ahead b.third (at h.asks) one other came b.third_body store choices leaves

        -- memory was refused for what comes behind the choice
        pub choose_refused : (more : L) → Keeps l one more → Refused g l (record kept_engine { lists = more }) s
        choose_refused more grows =
            let a = at h.asks in
            let all = remains_ahead g l kept_engine (record own { list = a.behind; stack = failed }) f.behind
            choose_ahead in
            refuses g l (record kept_engine { lists = more }) own (record own { list = chosen; stack = failed }) s
            r.same choose_goes (keeps_lists g l kept_engine more own.world failed all.0 grows, all.1)

        module _ (height : ℕ) (two three : L) (behind once : P) (next : N) (many : height ≡ length e.choices.items)
            (body : Came l m one two (todo.Body (k - d)) f.height f.behind behind)
            (cut : Came l m two three todo.CutTo height behind once)
            (led : m.leads next (todo.Body (k - c)) (height + 1) once) where
          abbrev pub condition_engine : Search S L W M K P C N B O
          condition_engine = record kept_engine { lists = three; now = now.Running next }

          abbrev behind_keep : Keeps l one three
          behind_keep = keeps_both l body.keeps cut.keeps

          pub chooses : Moves g l move.Goes s condition_engine
          chooses =
              let a = at h.asks in
              let b = (choose_parts c d h).5 in
              let q = g.present store in
              let in_store : (i : ℕ) (x : Body) → IsBody p (m.nodes e.lists) i x → IsBody q (m.nodes one) i x =
              λ i x stands. subst (λ (y : Present W). IsBody y (m.nodes one) i x) (sym leaves.same)
              (subst (λ (ns : List (Node W)). IsBody p ns i x) (sym came.nodes) stands) in
              let list = body.placed q (Goal b.second f.height) a.behind
              (a_body refl (in_store (k - d) b.second b.second_body)) choose_ahead.chain in
              let both = cut.placed q (CutTo height) (Goal b.second f.height ∷ a.behind) (a_cut refl) list in
              let ms : List Member = CutTo height ∷ Goal b.second f.height ∷ a.behind in
              let height_is : height ≡ length own.stack = many ∙ choices_length l r.engine.choices in
              let mark_is : height + 1 ≡ suc (length own.stack) = omega (arith, height_is) in
              let v : State = record own { list = a.behind; stack = failed } in
              let none = laws.led_pending three next (todo.Body (k - c)) (height + 1) once led in
              let first_one = body.pending in
              let first_two = cut.pending in
              let engine = engine_grown g l kept_engine v f.behind three next (Goal b.first (height + 1) ∷ ms)
              choose_ahead behind_keep
              (first_body q one three (k - c) (height + 1) once next b.first ms led (cut.nodes ∙ body.nodes)
              (in_store (k - c) b.first b.first_body) both) (omega (arith, none, first_one, first_two)) in
              goes g l e condition_engine s r (record own { list = chosen; stack = failed }) choose_goes
              (subst (λ (n : ℕ). IsEngine g l condition_engine (record v {
                list = Goal b.first (suc (length own.stack)) ∷ CutTo n ∷ Goal b.second f.height ∷ a.behind;
              })) height_is
              (subst (λ (n : ℕ). IsEngine g l condition_engine (record v { list = Goal b.first n ∷ ms })) mark_is
              engine)) tt

          pub choose_falls : weight l condition_engine < weight l e
          choose_falls =
              let a = at h.asks in
              let parts = choose_parts c d h in
              let b = parts.5 in
              let old = old_cost h.asks in
              let kept_all = left_cost b.third a one other came b.third_body store choices leaves in
              let grown = grown_cost g l kept_engine (record own { list = a.behind; stack = failed }) f.behind three
              choose_ahead behind_keep in
              let next_cost = behind_cost b.third a one other came b.third_body store choices leaves in
              let here = laws.led_cost three next (todo.Body (k - c)) (height + 1) once led in
              let costs = ap (body_cost (k - c)) (cut.cost ∙ ap suc (body.cost ∙ ap (body_cost (k - d)) next_cost)) in
              let first = parts.2 in
              let second = parts.3 in
              let long = parts.4 in
              let less = choose_less k (k - c) (k - d) (k - 1) rest (omega (arith, first, long))
              (omega (arith, second, long)) (omega (arith, long)) in
              falls_less l e condition_engine refl (omega (arith, old, kept_all, grown, here, costs, less))
