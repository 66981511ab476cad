-- The moves at members that are no goals: a cut, failure, the end of a catch, a template to be gathered.
use Rattle.iso_program.specs.Leaving.{AreLeft}
use Rattle.iso_model.specs.Terms.Trees.{arities_fit, Tree}
use Rattle.iso_search.specs.EngineStates.{cost, IsAhead, IsBehind, IsEngine, kept_cost, Moves, phase_of, Refused, Represents, weight}
use Rattle.iso_search_core.specs.Standing.{DoesNext, StandsForChoices}
use Rattle.iso_store_core.specs.declared.stores.Store.{Ghosts}
use Rattle.iso_model.specs.Search.Runs.{here}
use Rattle.iso_model.specs.Search.Engines.{IsAwake}
use Rattle.iso_atoms.specs.Texts.{KeepsTexts}
use Rattle.iso_store_core.specs.Presents.{meaning, Present}
use Rattle.iso_search_core.specs.declared.nows.Now.{Now}
use Rattle.iso_search_core.specs.Costs.{now_cost, now_pending}
use Rattle.iso_search_core.specs.Fitting.{FitsLeft, FitsState}
use Rattle.iso_search_core.specs.Own.{own_of}
use Rattle.iso_search.specs.declared.search.Search.{Search}
use Rattle.iso_model.specs.Terms.TermOf.{term_of}
use Rattle.iso_model.specs.Terms.Variables.{variables}
use Rattle.std.proofs.Common.{◌≡◌, ℕ, ◌+◌, ◌-◌, ◌<◌, ◌≤◌, List, [], ◌∷◌, length, take, drop, Some, true, refl, ap, sym, ◌∙◌, subst, arith, Vec, Global, inl, inr}
use Rattle.std.specs.Prelude.{option_map}
use Rattle.std.specs.List.{slice_get}
use Rattle.iso_model.specs.Search.Walker.{State, Member, Alternative, Goes, cut_back, shortened, gathered_at, fails, query_size, step, Leave, Gather, Goal, CutTo}
use Rattle.iso_model.specs.Search.Bodies.{Cut}
use Rattle.iso_search_core.specs.Solutions.{Change, Gains}
use Rattle.iso_search_core.specs.declared.lists.Lists as lists
use Rattle.iso_search_core.specs.declared.choices.Choice as kept
use Rattle.iso_search_core.specs.declared.nows.Now.TheVariants as now
use Rattle.iso_search_core.specs.Gathering.{SameCopies, ChangesAt}
use Rattle.iso_search_core.proofs.FittingLemmas.{fits_fewer}
use Rattle.iso_search_core.proofs.GatheringLemmas.{choices_gain, choices_same, room_gathered, changed_costs}
use Rattle.iso_search_core.proofs.StandingLemmas.{lower, choices_length}
use Rattle.iso_search.specs.declared.search.Move.TheVariants as move
use Rattle.iso_search.specs.Members.{IsCut, IsLeave, IsFirst, FailsFirst, GathersFirst}
use Rattle.iso_search.proofs.AheadLemmas.{engine_place, room_dropped}
use Rattle.iso_search.proofs.Moves.Search.{goes, refuses_here}
use Rattle.iso_search.proofs.SearchSteps.{step_is}
use Rattle.iso_search.proofs.StoppedLemmas.{remains_all}
use Rattle.iso_search.proofs.WeightLemmas.{falls_less}
use Rattle.iso_search.proofs.WorldLemmas.{world_on, choices_kept}

module _ {S L W M K P C N B O : Type 0} (g : Ghosts S W M) (l : lists.Ghosts L S K P C N B O W M) where
  -- ---- choices of an engine that fails

  -- what an engine that fails does next has nothing to do with its store and its choices
  fails_still : (e : Search S L W M K P C N B O) (s : State) (store : S) (stack : List Alternative) → e.now ≡ now.Failing → IsEngine g l e s
      → DoesNext l (g.present store) e.lists e.query.items e.now (option_map (λ b. term_of b.term.value) e.raised) (record s { stack = stack })
  fails_still e s store stack doing is =
      let failing = subst (λ (n : Now N P). DoesNext l (g.present e.store) e.lists e.query.items n (option_map (λ b. term_of b.term.value) e.raised) s) doing is.next in
      subst (λ (n : Now N P). DoesNext l (g.present store) e.lists e.query.items n (option_map (λ b. term_of b.term.value) e.raised) (record s { stack = stack })) (sym doing) failing

  -- the choices above a height go
  pub cut_failing : (e : Search S L W M K P C N B O) (s : State) (height : ℕ) (store : S) (choices : Vec (kept.Choice W M K P C) Global) (c : kept.Choice W M K P C) → IsEngine g l e s → e.now ≡ now.Failing
      → slice_get e.choices.items height ≡ Some c → choices.items ≡ take height e.choices.items → g.present store ≡ g.present e.store → ((m : M) (p : Present W) → g.older m c.mark → g.stands e.store m p → g.stands store m p) → KeepsTexts (g.names e.store) (g.names store)
      → IsEngine g l (record e { store = store; choices = choices }) (record s { stack = shortened height s.stack })
  cut_failing e s height store choices c is doing there taken same marks texts =
      let b = is.base in
      let low = lower l height c there is.choices in
      let stood : StandsForChoices l (g.stands store) g.older e.base (AreLeft (own_of l) (g.names store) e.db) e.query.items (variables s.query) (FitsLeft g (query_size s.query)) e.lists (take height e.choices.items) (shortened height s.stack) =
      choices_kept l texts (λ d p among standing. marks d.mark p (low.newer d among).0 standing) low.stand in
      record {
        world = world_on l texts is.world;
        steps = is.steps;
        base = record { present = b.present; stands_for = marks e.base b.present low.newer_base b.stands_for; substitution = b.substitution; next = b.next; cells = b.cells; variables = b.variables };
        choices = rw taken stood;
        room = room_dropped e.steps (length s.stack - height) s.stack is.room;
        fits = subst (λ (p : Present W). FitsState g p (now_pending (l.first_pending e.lists) e.now) (record s { stack = shortened height s.stack })) (sym same) is.fits;
        next = fails_still e s store (shortened height s.stack) doing is;
      }

  -- none is above it
  pub uncut_failing : (e : Search S L W M K P C N B O) (s : State) (height : ℕ) → IsEngine g l e s → e.now ≡ now.Failing → length e.choices.items ≤ height → IsEngine g l e (record s { stack = shortened height s.stack })
  uncut_failing e s height is doing less =
      let many = choices_length l is.choices in
      let none : 0 ≡ length s.stack - height = omega (arith, many, less) in
      subst (λ (n : ℕ). IsEngine g l e (record s { stack = drop n s.stack })) none (record {
        world = is.world;
        steps = is.steps;
        base = is.base;
        choices = is.choices;
        room = is.room;
        fits = is.fits;
        next = fails_still e s e.store s.stack doing is;
      })

  -- ---- a cut, and the end of a catch

  cut_to : (s : State) (height : ℕ) (behind : List Member) (m : Member) → IsCut height m → s.list ≡ m ∷ behind → step s ≡ Goes (cut_back height behind s)
  cut_to s height behind m (inl is) list = step_is s (CutTo height ∷ behind) (list ∙ ap (λ (x : Member). x ∷ behind) is)
  cut_to s height behind m (inr is) list = step_is s (Goal Cut height ∷ behind) (list ∙ ap (λ (x : Member). x ∷ behind) is)

  module _ (e : Search S L W M K P C N B O) (s : State) (rest : P) (r : Represents g l e s) where
    pub cuts : (height : ℕ) (mid : Search S L W M K P C N B O) (next : Now N P) (f : IsFirst g l e (IsCut height) rest) → IsAhead g l mid (cut_back height (f.at r.own r.engine).2.behind r.own) rest
        → IsBehind l (g.present mid.store) mid.lists rest next (f.at r.own r.engine).2.behind → IsAwake (phase_of next) → Moves g l move.Goes s (record mid { now = next })
    cuts height mid next f ahead comes awake =
        let a = f.at r.own r.engine in
        goes g l e (record mid { now = next }) s r (cut_back height a.2.behind r.own) (cut_to r.own height a.2.behind a.0 a.1 a.2.list)
        (engine_place g l mid (cut_back height a.2.behind r.own) rest next ahead comes) awake

    pub leaves : (next : Now N P) (f : IsFirst g l e IsLeave rest) → IsBehind l (g.present e.store) e.lists rest next (f.at r.own r.engine).2.behind → IsAwake (phase_of next) → Moves g l move.Goes s (record e { now = next })
    leaves next f comes awake =
        let a = f.at r.own r.engine in
        let v : State = record (r.own) { list = a.2.behind } in
        goes g l e (record e { now = next }) s r v (step_is r.own (Leave a.1.0 ∷ a.2.behind) (a.2.list ∙ ap (λ (x : Member). x ∷ a.2.behind) a.1.1)) (engine_place g l e v rest next a.2.ahead comes) awake

  -- ---- failure

  pub fails_first : (e : Search S L W M K P C N B O) (s : State) → FailsFirst g l e → Represents g l e s → Moves g l move.Goes s (record e { now = now.Failing })
  fails_first e s f r =
      let h = r.engine in
      let a = f.at r.own r.engine in (
        s,
        here,
        record {
          own = r.own;
          engine = record { world = h.world; steps = h.steps; base = h.base; choices = h.choices; room = h.room; fits = fits_fewer g (g.present e.store) r.own (omega arith) h.fits; next = (a.0, a.1) };
          same = r.same;
        },
        tt,
      )

  -- ---- a solution

  module _ (e : Search S L W M K P C N B O) (s : State) (height : ℕ) (template : W) (f : GathersFirst g l e height template) (r : Represents g l e s) where
    gather_goes : (v : Tree) → v ≡ meaning (g.present e.store) template → step r.own ≡ Goes (fails (record (r.own) { stack = gathered_at height v (r.own).stack }))
    gather_goes v value =
        let a = f.at r.own r.engine in
        subst (λ (x : Tree). step r.own ≡ Goes (fails (record (r.own) { stack = gathered_at height x (r.own).stack }))) (a.3 ∙ sym value)
        (step_is r.own (Gather height a.0 ∷ a.1) a.2)

    pub gathers_on : (choices : Vec (kept.Choice W M K P C) Global) (v : Tree) → v ≡ meaning (g.present e.store) template → arities_fit v ≡ true → ChangesAt (Gains v) height e.choices.items choices.items
        → Moves g l move.Goes s (record e { choices = choices; now = now.Failing })
    gathers_on choices v value fits change =
        let is = r.engine in
        goes g l e (record e { choices = choices; now = now.Failing }) s r (fails (record (r.own) { stack = gathered_at height v (r.own).stack })) (gather_goes v value)
        (record {
          world = is.world;
          steps = is.steps;
          base = is.base;
          choices = choices_gain l (λ p n a x h. h) height v fits change is.choices;
          room = room_gathered e.steps height v (r.own).stack fits is.room;
          fits = fits_fewer g (g.present e.store) r.own (omega arith) is.fits;
          next = ([], refl);
        }) tt

    pub gather_stops : (choices : Vec (kept.Choice W M K P C) Global) → ChangesAt SameCopies height e.choices.items choices.items → Refused g l (record e { choices = choices }) s
    gather_stops choices change =
        let is = r.engine in
        refuses_here g l (record e { choices = choices }) r.own s r.same
        ((is.world, is.base, ((r.own).query, choices_same l (λ p n a x h. h) height change is.choices)), (remains_all g l e r.own is).1)

-- ---- what falls

module _ {S L W M K P C N B O : Type 0} (l : lists.Ghosts L S K P C N B O W M) where
  -- what is to be done at what comes first
  pub running_cost : (e : Search S L W M K P C N B O) (first : N) → e.now ≡ now.Running first → cost l e ≡ kept_cost l e + l.first_cost e.lists first
  running_cost e first doing = ap (λ (n : Now N P). kept_cost l e + now_cost (l.first_cost e.lists) n) doing

  pub behind_falls : (e mid new : Search S L W M K P C N B O) (first : N) (rest : P) (next : Now N P) → e.now ≡ now.Running first → l.cost e.lists rest < l.first_cost e.lists first → new ≡ record mid { now = next } → mid.steps ≡ e.steps → mid.lists ≡ e.lists
      → kept_cost l mid ≤ kept_cost l e → now_cost (l.first_cost mid.lists) next ≤ l.cost mid.lists rest → weight l new < weight l e
  behind_falls e mid new first rest next doing less is steps same fewer comes =
      let old = running_cost e first doing in
      let here : l.cost mid.lists rest ≡ l.cost e.lists rest = ap (λ (x : L). l.cost x rest) same in
      subst (λ (x : Search S L W M K P C N B O). weight l x < weight l e) (sym is) (falls_less l e (record mid { now = next }) steps (omega (arith, old, less, here, fewer, comes)))

  pub failing_falls : (e : Search S L W M K P C N B O) (first : N) → e.now ≡ now.Running first → 0 < l.first_cost e.lists first → weight l (record e { now = now.Failing }) < weight l e
  failing_falls e first doing less = let old = running_cost e first doing in falls_less l e (record e { now = now.Failing }) refl (omega (arith, old, less))

  pub gather_falls : (e : Search S L W M K P C N B O) (first : N) (height : ℕ) (choices : Vec (kept.Choice W M K P C) Global) (R : Change) → e.now ≡ now.Running first → 0 < l.first_cost e.lists first → ChangesAt R height e.choices.items choices.items
      → weight l (record e { choices = choices; now = now.Failing }) < weight l e
  gather_falls e first height choices R doing less change =
      let old = running_cost e first doing in
      let new = changed_costs R (l.cost e.lists) change in
      falls_less l e (record e { choices = choices; now = now.Failing }) refl (omega (arith, old, new, less))
