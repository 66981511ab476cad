-- A goal of a built-in: whatever its reply is, the engine's move is a step.
use Rattle.std.proofs.Common.{◌≡◌, ◌+◌, ◌-◌, ◌≤◌, ℕ, suc, List, [], ◌∷◌, length, refl, ap, ap₂, sym, ◌∙◌, subst, arith, inl, inr, ◌⊎◌, true, Some, codes, Result}
use Rattle.std.specs.Prelude.{IfOk, OnErr}
use Rattle.iso_model.specs.Terms.Substitutions.{apply, Subst}
use Rattle.iso_model.specs.Terms.Arguments.{argument, arity}
use Rattle.iso_model.specs.Search.RunLaws.Sameness.{Around, IsValue}
use Rattle.iso_model.specs.declared.kinds.AtomPart.{AtomPart}
use Rattle.iso_model.specs.Search.Bodies.{Body, body_term, converted, map_body, Run}
use Rattle.iso_model.specs.declared.built_ins.BuiltIn.{BuiltIn}
use Rattle.iso_model.specs.Search.Runs.{Finishes, Quiet}
use Rattle.iso_search.specs.Limits.{ComesFull}
use Rattle.iso_search.proofs.OverLemmas.{comes_beyond}
use Rattle.iso_search.specs.Moved.{FallsFrom, Moved}
use Rattle.iso_store_core.specs.declared.stores.Store.{Ghosts}
use Rattle.iso_model.specs.Search.Engines.{IsAwake}
use Rattle.iso_lib_core.specs.Replies.{IsUnbound}
use Rattle.iso_search.specs.Worlds.{IsWorld}
use Rattle.iso_store_core.specs.Presents.{KeepsWords, meaning, Present}
use Rattle.iso_store_core.specs.Retaining.{Takes}
use Rattle.iso_search_core.specs.Cells.{conversion_cells, reply_cells}
use Rattle.iso_search_core.proofs.CellLemmas.{converted_cells}
use Rattle.iso_search_core.proofs.FittingLemmas.{fits_more, fits_on, fits_there}
use Rattle.iso_model.specs.Search.Databases.{key_of}
use Rattle.iso_search.specs.declared.search.Move.{Move}
use Rattle.iso_search_core.specs.declared.nows.Now.{Now}
use Rattle.iso_model.specs.Search.Settlements.{Offers, Settled}
use Rattle.iso_model.specs.declared.kinds.Output.{Output}
use Rattle.iso_model.specs.declared.pauses.Pause.{Pause}
use Rattle.iso_search.specs.Limits.{ResultFull, ResultMet}
use Rattle.iso_search.specs.declared.search.Search.{Search}
use Rattle.iso_model.specs.declared.kinds.Setting.{Setting}
use Rattle.iso_model.specs.Terms.Sizes.{size}
use Rattle.iso_search.specs.Stays.{Stays}
use Rattle.iso_model.specs.declared.kinds.Storage.{Storage}
use Rattle.iso_store_core.specs.declared.shapes.StoreFault.{StoreFault}
use Rattle.iso_model.specs.Terms.Trees.{Tree}
use Rattle.iso_model.specs.Search.Errors.{key}
use Rattle.iso_model.specs.Search.BuiltIns.{Reply, Raises, Calls, CallsOnce, Refutes, Repeats, Catches, Gathers, Halts, AsksWorld, goal_reply, reply}
use Rattle.iso_model.specs.declared.built_ins.BuiltIn.TheVariants as built_in
use Rattle.iso_model.specs.Search.Outputs.{output_reply}
use Rattle.iso_model.specs.Search.Settings.{setting_settled}
use Rattle.iso_model.specs.Search.Storages.{storage_settled}
use Rattle.iso_model.specs.declared.limit.Limit.TheVariants as limit
use Rattle.iso_model.specs.declared.pauses.Pause.TheVariants as pause
use Rattle.iso_model.specs.Search.Replies.{AsList}
use Rattle.iso_model.specs.Search.Walker.{State, World, Member, Goal, CutTo, Fail, Leave, Raise, Goes, AsIs, Again, Gather, Catching, Gathering, Halted, Outcome, idle, fails, with_goal, pushed, settled, step}
use Rattle.iso_model.specs.Search.Walker as walker
use Rattle.iso_model.proofs.Search.RunLaws.Values.{IsOwnBody, IsOwnReply, reply_own}
use Rattle.iso_model.proofs.Search.RunLaws.Likeness.{Alike, onward_alike, offers_alike, alike_fewer}
use Rattle.iso_model.proofs.Search.RunLaws.TermValues.{value_is}
use Rattle.iso_search_core.specs.declared.lists.Lists as lists
use Rattle.iso_search_core.specs.declared.nows.Now.TheVariants as now
use Rattle.iso_search.specs.declared.search.Move.TheVariants as move
use Rattle.iso_search.specs.Catches.{EntersCatch, RunsInside, throwing, catching, calling_inside, inside_of, catcher_of, recovery_of}
use Rattle.iso_search.specs.Gathers.{EntersFindall, FindsAll, finding, template_of, solved_of, result_of}
use Rattle.iso_search.specs.Settles.{MeetsRow, AsksAt, PartsAt, WasStopped}
use Rattle.iso_model.specs.Search.AtomParts.{parts_settled}
use Rattle.iso_search.specs.Shows.{StoresAt, WasGivenUp, WasSettled, GainsAlternative, ThinSettled, same_settled, fewer_offers}
use Rattle.iso_search.specs.Outputs.{WritesAt, HasWritten}
use Rattle.iso_search_core.specs.Replies.{CanBeRun, Places}
use Rattle.iso_search.specs.Nexts.{IsAtGoal}
use Rattle.iso_search.specs.Replying.{TookStep}
use Rattle.iso_search.proofs.ReplyKinds.{WentOn, Failed}
use Rattle.iso_search.proofs.StoppedLemmas.{base_kept}
use Rattle.iso_search.proofs.WorldLemmas.{world_on}
use Rattle.iso_search.specs.EngineStates.{IsEngine, IsAhead, Remains, Represents, Refused, StandsFor, Stopped, Keeps, WasCalled, WasRefused, Moves, IsBase, calling_body, calling_once, refuting, phase_of, cost_from, IsBehind}
use Rattle.iso_search.proofs.Moves.Engine.{spent_stands}
use Rattle.iso_search.proofs.LimitLemmas.{stays_on}
use Rattle.iso_search.proofs.RunCosts.{falls_behind, steps_same}
use Rattle.iso_search.proofs.RunLemmas.{one_less}
use Rattle.iso_search.proofs.Moves.Offer.{settled_steps}
use Rattle.iso_search.proofs.Moves.Output.{output_steps, wrote}
use Rattle.iso_search.proofs.Moves.Run.{at, comes_to, first_value, runs_to, step_at}
use Rattle.iso_search.proofs.Moves.Value as of_value
use Rattle.iso_search_core.proofs.ArityLemmas.{HasArity, built_in_arguments}
use Rattle.iso_search_core.proofs.ReplyLemmas.{catch_parts, caught_goal, gather_parts}
use Rattle.iso_search.proofs.SameBodies.{around_own, around_steps, around_pushed, same_first, same_inside, same_finding}
use Rattle.iso_search.proofs.Moves.Search.{goes, goes_to, goes_as, refuses, refuses_before, refuses_here, stops, stops_here, stops_bare, comes_over}
use Rattle.iso_search.proofs.SearchSteps.{own_goal}
use Rattle.iso_search_core.proofs.StandingLemmas.{choices_length}

module _ {S L W M K P C N B O : Type 0} (g : Ghosts S W M) (l : lists.Ghosts L S K P C N B O W M) where
  module _ {e mid : Search S L W M K P C N B O} {w : W} {rest : P} {b : BuiltIn} (took : TookStep g l e mid w rest b) (s : State) (r : Represents g l e s) where
    abbrev n : ℕ
    n = e.steps - 1

    abbrev o : State
    o = r.own

    abbrev a : IsAtGoal g l e w rest o
    a = at g l e s w rest took.first r

    abbrev t : Tree
    t = meaning (g.present e.store) w

    -- the state behind the goal
    abbrev pub behind : ℕ → State
    behind built = record o { list = a.at.behind; built = built; steps = n }

    -- no binding changed
    pub behind_ahead : (built : ℕ) → o.built + reply_cells (reply b t) ≤ built → KeepsWords (g.present e.store) (g.present mid.store) → (g.present mid.store).substitution ≡ (g.present e.store).substitution → (g.present mid.store).next ≡ (g.present e.store).next
        → IsAhead g l mid (behind built) rest
    behind_ahead = of_value.taken_ahead g l o s r.same (first_value g l e s w rest took.first r) (step_at g l took s r)

    -- the store is as it was
    pub same_behind : g.present mid.store ≡ g.present e.store → IsAhead g l mid (behind o.built) rest
    same_behind = of_value.taken_same g l o s r.same (first_value g l e s w rest took.first r) (step_at g l took s r)

    -- the goal's word stands for what it did
    pub goal_same : g.present mid.store ≡ g.present e.store → meaning (g.present mid.store) w ≡ t
    goal_same same = ap (λ (q : Present W). meaning q w) same

    -- the goal has as many arguments as its built-in
    pub arity_same : {x : BuiltIn} → g.present mid.store ≡ g.present e.store → b ≡ x → HasArity x (arity (meaning (g.present mid.store) w))
    arity_same {x} same is =
        subst (λ (q : Present W). HasArity x (arity (meaning q w))) (sym same) (subst (λ (y : BuiltIn). HasArity y (arity t)) is (built_in_arguments t b took.is_own))

    -- what stays behind the goal, stays
    pub stays_took : {new : Search S L W M K P C N B O} → Stays g mid new → Stays g e new
    stays_took stays = stays_on g (subst (λ (x : Search S L W M K P C N B O). Stays g e x) (sym took.same) (record { limit = refl; vocabulary = refl; names_kept = took.texts; base = λ p h. took.keeps e.base p h; within = λ h. h })) stays

    -- what a move behind the goal gives, from its parts
    pub moved_behind : {Over : State → Type 0} (result : Result Move StoreFault) (new : Search S L W M K P C N B O) → ((v : State) → Represents g l e v → IfOk result (λ m. Moves g l m v new))
        → ((v : State) → Represents g l e v → OnErr result (Refused g l new v)) → FallsFrom l mid (cost_from l mid rest + 1) result new
        → ((v : State) → Represents g l e v → ResultFull (Over v) result) → ResultMet g result new → Stays g mid new → Moved g l Over e result new
    moved_behind result new moves stopped falls frames met stays = record {
      moves = moves;
      stopped = stopped;
      falls = falls_behind g l took s r result new falls;
      frames = frames;
      met = met;
      stays = stays_took stays;
    }

    -- as many choices may stand as before
    within_same : mid.limit ≤ length mid.choices.items → e.limit ≤ length e.choices.items
    within_same = subst (λ (x : Search S L W M K P C N B O). x.limit ≤ length x.choices.items) took.same

    pub base_took : IsBase g mid.store mid.base
    base_took = subst (λ (x : Search S L W M K P C N B O). IsBase g x.store x.base) (sym took.same) (base_kept g e.store mid.store e.base took.keeps r.engine.base)

    pub world_took : (v : World) → IsWorld g l e v → IsWorld g l mid v
    world_took v is = subst (λ (x : Search S L W M K P C N B O). IsWorld g l x v) (sym took.same) (world_on l took.texts is)

    -- the list behind the goal
    pub list_took : KeepsWords (g.present e.store) (g.present mid.store) → l.list (g.present mid.store) mid.lists (l.whole mid.lists) rest a.at.behind
    list_took words = took.behind a.at.behind words a.at.ahead.chain

    -- no choice may come any more, and the engine is spent
    pub full_now : (new : Search S L W M K P C N B O) (p : Pause) → (p ≡ pause.FramesFull) × (new.now ≡ now.Spent limit.Frames) × Keeps g l new o.world o.stack → Moves g l (move.Pauses p) s new
    full_now new p was = rw was.0 (spent_stands g l limit.Frames new.now new s (ap phase_of was.1) (stops_here g l new o s r.same was.2), ap phase_of was.1)

    -- no choice may come any more, and the search comes to one
    pub over_by : (v : State) → step o ≡ Goes v → length v.stack ≡ suc (length o.stack) → mid.limit ≤ length mid.choices.items → ComesFull e.limit s
    over_by v goes_to longer full =
        let many = choices_length l r.engine.choices in
        comes_over g l e s r v e.limit goes_to longer (let limited = within_same full in omega (arith, many, limited))

    -- ---- it succeeded

    pub goes_on : (next : Now N P) → ((ms : List Member) → l.list (g.present mid.store) mid.lists (l.whole mid.lists) rest ms → IsBehind l (g.present mid.store) mid.lists rest next ms) → IsAwake (phase_of next)
        → (x : Reply) → reply b t ≡ x → WentOn (g.present e.store) (g.present mid.store) x → Moves g l move.Goes s (record mid { now = next })
    goes_on = of_value.value_holds g l o s r.same (first_value g l e s w rest took.first r) (step_at g l took s r)

    -- ---- it failed

    pub fails_now : (x : Reply) → reply b t ≡ x → Failed (g.present e.store) x → Moves g l move.Goes s (record mid { now = now.Failing })
    fails_now = of_value.value_fails g l o s r.same (first_value g l e s w rest took.first r) (step_at g l took s r)

    -- ---- a ball is thrown

    -- the engine about to throw it
    pub unbound_ahead : (ball : Tree) → reply b t ≡ Raises ball → IsUnbound (g.present e.store) (g.present mid.store) → IsAhead g l mid (behind o.built) rest
    unbound_ahead = of_value.value_unbound g l o s r.same (first_value g l e s w rest took.first r) (step_at g l took s r)

    pub raises_now : (new : Search S L W M K P C N B O) (ball : Tree) → reply b t ≡ Raises ball → IsEngine g l new (throwing ball (behind o.built)) → IsAwake (phase_of new.now)
        → Moves g l move.Goes s new
    raises_now = of_value.value_raises g l o s r.same (first_value g l e s w rest took.first r) (step_at g l took s r)

    -- ---- the search is ended

    pub halts_now : (new : Search S L W M K P C N B O) (status : ℕ) → reply b t ≡ Halts status → ((v : World) → IsWorld g l e v → IsEngine g l new (idle v)) → new.now ≡ now.Idle
        → Finishes s (Halted status) (StandsFor g l new)
    halts_now = of_value.value_halts g l o s r.same (first_value g l e s w rest took.first r) (step_at g l took s r)

    -- ---- a goal is run

    pub around : Around o o
    around = around_own o s (Run a.term) a.mark a.at.behind a.at.list r.same

    -- what a reply is made of are values
    pub own_reply : (x : Reply) → reply b t ≡ x → IsOwnReply o.subst x
    own_reply x is =
        let value : IsValue o.subst t = subst (λ (v : Tree). IsValue o.subst v) a.value (value_is o.subst a.term around.agree.twice) in
        subst (λ (y : Reply). IsOwnReply o.subst y) is (reply_own o.subst b t value)

    module _ (c : Body) (place : B) (h : Places l (g.present e.store) (g.present mid.store) e.lists mid.lists c place) where
      -- the state that the walker comes to, but for its list
      abbrev pub called : State
      called = behind (with_goal c o).built

      -- the body that stands has the values that the goal's body has, which are values
      same_values : IsOwnBody o.subst c → map_body o.subst h.own ≡ map_body o.subst c
      same_values own = subst (λ (v : Subst). map_body v h.own ≡ c) a.at.ahead.goes.subst h.values ∙ sym own

      pub called_ahead : (x : Reply) → reply b t ≡ x → reply_cells x ≡ size (body_term c) → IsAhead g l mid called rest
      called_ahead x is counts = behind_ahead (with_goal c o).built (of_value.counted g l o s r.same (first_value g l e s w rest took.first r) (step_at g l took s r) x (with_goal c o).built is (omega (arith, counts))) h.words h.substitution h.next

      pub calls_now : reply b t ≡ Calls c → (new : Search S L W M K P C N B O) (m : Move) → WasCalled g l m new called (calling_body h.own called) → Moves g l m s new
      calls_now is new move.Goes was =
          let height = length o.stack in
          goes_as g l e new s r (record called { list = Goal c height ∷ a.at.behind }) (calling_body h.own called)
          (runs_to g l e s w rest took.first r (record (with_goal c o) { list = Goal c height ∷ a.at.behind }) took.more (own_goal t a.at.behind o b (Calls c) took.is_own is))
          (same_first called h.own c height a.at.behind (same_values (own_reply (Calls c) is)) (around_steps o a.at.behind (with_goal c o).built n around)) was.0 was.1
      calls_now is new (move.Pauses p) was = full_now new p was

      -- ---- for its first solution

      pub once_now : reply b t ≡ CallsOnce c → (new : Search S L W M K P C N B O) (m : Move) → WasCalled g l m new called (calling_once h.own called) → Moves g l m s new
      once_now is new move.Goes was =
          let height = length o.stack in
          goes_as g l e new s r (record called { list = Goal c height ∷ CutTo height ∷ a.at.behind }) (calling_once h.own called)
          (runs_to g l e s w rest took.first r (record (with_goal c o) { list = Goal c height ∷ CutTo height ∷ a.at.behind }) took.more (own_goal t a.at.behind o b (CallsOnce c) took.is_own is))
          (same_first called h.own c height (CutTo height ∷ a.at.behind) (same_values (own_reply (CallsOnce c) is)) (around_steps o a.at.behind (with_goal c o).built n around)) was.0 was.1
      once_now is new (move.Pauses p) was = full_now new p was

      pub calls_stops : reply b t ≡ Calls c → (new : Search S L W M K P C N B O) → Remains g l new called → Refused g l new s
      calls_stops is new remains =
          let height = length o.stack in
          refuses_before g l new o (record called { list = Goal c height ∷ a.at.behind }) s r.same
          (runs_to g l e s w rest took.first r (record (with_goal c o) { list = Goal c height ∷ a.at.behind }) took.more (own_goal t a.at.behind o b (Calls c) took.is_own is)) remains.0 remains.1

      pub once_stops : reply b t ≡ CallsOnce c → (new : Search S L W M K P C N B O) → Remains g l new called → Refused g l new s
      once_stops is new remains =
          let height = length o.stack in
          refuses_before g l new o (record called { list = Goal c height ∷ CutTo height ∷ a.at.behind }) s r.same
          (runs_to g l e s w rest took.first r (record (with_goal c o) { list = Goal c height ∷ CutTo height ∷ a.at.behind }) took.more (own_goal t a.at.behind o b (CallsOnce c) took.is_own is)) remains.0 remains.1

      -- ---- refuted

      -- the state that the walker comes to
      abbrev refuted : State
      refuted = record (pushed a.at.behind AsIs called) { list = Goal c (suc (length o.stack)) ∷ CutTo (length o.stack) ∷ Fail ∷ a.at.behind }

      refuted_step : reply b t ≡ Refutes c → step o ≡ Goes refuted
      refuted_step is =
          runs_to g l e s w rest took.first r (record (pushed a.at.behind AsIs (with_goal c o)) { list = Goal c (suc (length o.stack)) ∷ CutTo (length o.stack) ∷ Fail ∷ a.at.behind }) took.more (own_goal t a.at.behind o b (Refutes c) took.is_own is)

      pub refutes_now : reply b t ≡ Refutes c → (new : Search S L W M K P C N B O) (m : Move) → WasCalled g l m new called (refuting h.own called) → Moves g l m s new
      refutes_now is new move.Goes was =
          let height = length o.stack in
          goes_as g l e new s r refuted (refuting h.own called) (refuted_step is)
          (same_first (pushed a.at.behind AsIs called) h.own c (suc height) (CutTo height ∷ Fail ∷ a.at.behind) (same_values (own_reply (Refutes c) is)) (around_pushed called a.at.behind (around_steps o a.at.behind (with_goal c o).built n around))) was.0 was.1
      refutes_now is new (move.Pauses p) was = full_now new p was

      pub refute_stops : reply b t ≡ Refutes c → (new : Search S L W M K P C N B O) → WasRefused g l new called (pushed called.list AsIs called) → Refused g l new s
      refute_stops is new (inl remains) = refuses_before g l new o refuted s r.same (refuted_step is) remains.0 remains.1
      refute_stops is new (inr remains) = refuses g l new o refuted s r.same (refuted_step is) remains

      pub refute_over : reply b t ≡ Refutes c → mid.limit ≤ length mid.choices.items → ComesFull e.limit s
      refute_over is full = over_by refuted (refuted_step is) refl full

    -- ---- it succeeds again and again

    module _ (is : reply b t ≡ Repeats) (same : g.present mid.store ≡ g.present e.store) where
      abbrev pub repeating : State
      repeating = behind o.built

      pub repeating_ahead : IsAhead g l mid repeating rest
      repeating_ahead = same_behind same

      repeat_step : step o ≡ Goes (pushed repeating.list Again repeating)
      repeat_step = runs_to g l e s w rest took.first r (record (pushed a.at.behind Again o) { list = a.at.behind }) took.more (own_goal t a.at.behind o b Repeats took.is_own is)

      pub repeats_now : (new : Search S L W M K P C N B O) (m : Move) → WasCalled g l m new repeating (pushed repeating.list Again repeating) → Moves g l m s new
      repeats_now new move.Goes was = goes g l e new s r (pushed repeating.list Again repeating) repeat_step was.0 was.1
      repeats_now new (move.Pauses p) was = full_now new p was

      pub repeat_stops : (new : Search S L W M K P C N B O) → Remains g l new repeating → Refused g l new s
      repeat_stops new remains = refuses_here g l new o s r.same remains

      pub repeat_over : mid.limit ≤ length mid.choices.items → ComesFull e.limit s
      repeat_over full = over_by (pushed repeating.list Again repeating) repeat_step refl full

    -- ---- inside a catch

    module _ (inside : Reply) (catcher recovery : Tree) (is : reply b t ≡ Catches inside catcher recovery) (h : IsUnbound (g.present e.store) (g.present mid.store)) where
      -- the state behind the goal
      abbrev pub after : State
      after = behind o.built

      -- the goal's word stands for what it did
      still : meaning (g.present mid.store) w ≡ t
      still = ap₂ (λ (v : Subst) (x : Tree). apply v x) h.substitution (h.words.terms w a.holds)

      parts : (b ≡ built_in.Catch) × (inside ≡ goal_reply Calls (argument 0 t) (key (codes "catch") 3)) × (catcher ≡ argument 1 t) × (recovery ≡ argument 2 t)
      parts = catch_parts b t inside catcher recovery is

      catcher_same : catcher_of (g.present mid.store) w ≡ catcher
      catcher_same = ap (argument 1) still ∙ sym parts.2

      recovery_same : recovery_of (g.present mid.store) w ≡ recovery
      recovery_same = ap (argument 2) still ∙ sym parts.3

      -- nothing is made for an error
      pub none_raised : (ball : Tree) → inside ≡ Raises ball → Takes g e.store mid.store 0
      none_raised ball raises_is = subst (Takes g e.store mid.store) (ap reply_cells is ∙ ap reply_cells raises_is) took.cells

      pub enters_catch : Takes g e.store mid.store 0 → EntersCatch g l mid w after rest
      enters_catch none = record {
        ahead = of_value.ahead_as g l o s r.same (first_value g l e s w rest took.first r) (step_at g l took s r) 0 o.built o.subst none (omega arith) h.words (h.substitution ∙ a.at.ahead.goes.subst) h.next;
        space = (let room = a.at.ahead.goes.room in let all = a.at.ahead.steps in let one = one_less e.steps took.more in let less = steps_same g l took s r in omega (arith, room, all, one, less));
        catches = record {
          holds = h.words.stand w a.holds;
          three = ap arity still ∙ subst (λ (x : BuiltIn). HasArity x (arity t)) parts.0 (built_in_arguments t b took.is_own);
        };
      }

      -- it was refused, with so many cells
      stops_inside : (n : ℕ) (ms : List Member) → step o ≡ Goes (record (pushed a.at.behind (Catching catcher recovery) after) { list = ms; built = o.built + n }) → (k : ℕ) → k ≤ n → (new : Search S L W M K P C N B O)
          → WasRefused g l new after (record (pushed after.list (Catching (catcher_of (g.present mid.store) w) (recovery_of (g.present mid.store) w)) after) { built = o.built + k }) → Refused g l new s
      stops_inside n ms goes_to k few new (inl remains) = refuses_here g l new o s r.same remains
      stops_inside n ms goes_to k few new (inr remains) =
          let v : State = record (pushed a.at.behind (Catching catcher recovery) after) { list = ms; built = o.built + n } in
          let kept = subst (λ (x : Tree). Keeps g l new o.world (pushed a.at.behind (Catching catcher x) o).stack) recovery_same
          (subst (λ (x : Tree). Keeps g l new o.world (pushed a.at.behind (Catching x (recovery_of (g.present mid.store) w)) o).stack) catcher_same remains.0) in
          refuses g l new o v s r.same goes_to (kept, fits_more g (g.present new.store) 0 (record o { built = o.built + k }) v refl (omega (arith, few)) remains.1)

      -- ---- an error

      module _ (ball : Tree) (raises_is : inside ≡ Raises ball) where
        abbrev thrown_inside : State
        thrown_inside = throwing ball (catching catcher recovery after)

        throws_to : step o ≡ Goes thrown_inside
        throws_to =
            runs_to g l e s w rest took.first r (record (pushed a.at.behind (Catching catcher recovery) o) { list = Raise ball ∷ Leave (length o.stack) ∷ a.at.behind }) took.more
            (own_goal t a.at.behind o b (Catches (Raises ball) catcher recovery) took.is_own (is ∙ ap (λ (x : Reply). Catches x catcher recovery) raises_is))

        pub throws_inside_now : (new : Search S L W M K P C N B O) (m : Move) → WasCalled g l m new after (throwing ball (catching (catcher_of (g.present mid.store) w) (recovery_of (g.present mid.store) w) after))
            → Moves g l m s new
        throws_inside_now new move.Goes was =
            let engine = subst (λ (x : Tree). IsEngine g l new (throwing ball (catching catcher x after))) recovery_same
            (subst (λ (x : Tree). IsEngine g l new (throwing ball (catching x (recovery_of (g.present mid.store) w) after))) catcher_same was.0) in
            goes g l e new s r thrown_inside throws_to engine was.1
        throws_inside_now new (move.Pauses p) was = full_now new p was

        pub throw_inside_stops : (new : Search S L W M K P C N B O) → WasRefused g l new after (pushed after.list (Catching (catcher_of (g.present mid.store) w) (recovery_of (g.present mid.store) w)) after)
            → Refused g l new s
        throw_inside_stops new was =
            let none : o.built + 0 ≡ o.built = omega arith in
            let P : ℕ → Type 0 = λ n. step o ≡ Goes (record (pushed a.at.behind (Catching catcher recovery) after) { list = Raise ball ∷ Leave (length o.stack) ∷ a.at.behind; built = n }) in
            let Q : ℕ → Type 0 = λ n. WasRefused g l new after (record (pushed after.list (Catching (catcher_of (g.present mid.store) w) (recovery_of (g.present mid.store) w)) after) { built = n }) in
            stops_inside 0 (Raise ball ∷ Leave (length o.stack) ∷ a.at.behind) (subst P (sym none) throws_to) 0 (omega arith) new (subst Q (sym none) was)

        pub throw_inside_over : mid.limit ≤ length mid.choices.items → ComesFull e.limit s
        throw_inside_over = over_by thrown_inside throws_to refl

      -- ---- a goal

      module _ (c : Body) (calls_is : inside ≡ Calls c) where
        -- the state that the walker comes to
        abbrev called_inside : State
        called_inside = record (pushed a.at.behind (Catching catcher recovery) after) { list = Goal c (suc (length o.stack)) ∷ Leave (length o.stack) ∷ a.at.behind; built = (with_goal c o).built }

        inside_is : reply b t ≡ Catches (Calls c) catcher recovery
        inside_is = is ∙ ap (λ (x : Reply). Catches x catcher recovery) calls_is

        calls_to : step o ≡ Goes called_inside
        calls_to =
            runs_to g l e s w rest took.first r (record (with_goal c (pushed a.at.behind (Catching catcher recovery) o)) { list = Goal c (suc (length o.stack)) ∷ Leave (length o.stack) ∷ a.at.behind }) took.more
            (own_goal t a.at.behind o b (Catches (Calls c) catcher recovery) took.is_own inside_is)

        -- so the goal can be run, and this is its body
        inside_found : CanBeRun (inside_of (g.present mid.store) w) × (converted (inside_of (g.present mid.store) w) ≡ Some c)
        inside_found =
            subst (λ (x : Tree). CanBeRun x × (converted x ≡ Some c)) (ap (argument 0) (sym still)) (caught_goal (argument 0 t) (key (codes "catch") 3) c (sym parts.1 ∙ calls_is))

        pub inside_can : CanBeRun (inside_of (g.present mid.store) w)
        inside_can = inside_found.0

        pub inside_converted : converted (inside_of (g.present mid.store) w) ≡ Some c
        inside_converted = inside_found.1

        pub calls_inside_now : (new : Search S L W M K P C N B O) (m : Move) → RunsInside g l m new c (catcher_of (g.present mid.store) w) (recovery_of (g.present mid.store) w) after → Moves g l m s new
        calls_inside_now new move.Goes was =
            let own = own_reply (Catches (Calls c) catcher recovery) inside_is in
            let body = was.0 in
            let engine = subst (λ (x : Tree). IsEngine g l new (record (calling_inside body catcher x after) { built = (with_goal c o).built })) recovery_same
            (subst (λ (x : Tree). IsEngine g l new (record (calling_inside body x (recovery_of (g.present mid.store) w) after) { built = (with_goal c o).built })) catcher_same (was.2).0) in
            goes_as g l e new s r called_inside (record (calling_inside body catcher recovery after) { built = (with_goal c o).built }) calls_to
            (same_inside after body c catcher recovery (suc (length o.stack)) (with_goal c o).built a.at.behind (Leave (length o.stack) ∷ a.at.behind) (was.1 ∙ sym own.0) own.1 own.2 (around_steps o a.at.behind o.built n around)) engine (was.2).1
        calls_inside_now new (move.Pauses p) was = full_now new p was

        pub call_inside_stops : (new : Search S L W M K P C N B O)
            → WasRefused g l new after (record (pushed after.list (Catching (catcher_of (g.present mid.store) w) (recovery_of (g.present mid.store) w)) after) { built = o.built + conversion_cells (inside_of (g.present mid.store) w) })
            → Refused g l new s
        call_inside_stops =
            stops_inside (size (body_term c)) (Goal c (suc (length o.stack)) ∷ Leave (length o.stack) ∷ a.at.behind) calls_to (conversion_cells (inside_of (g.present mid.store) w))
            (converted_cells (inside_of (g.present mid.store) w) c inside_converted)

        pub call_inside_over : mid.limit ≤ length mid.choices.items → ComesFull e.limit s
        call_inside_over = over_by called_inside calls_to refl

    -- ---- for all of its solutions

    module _ (template result : Tree) (c : Body) (is : reply b t ≡ Gathers template c (AsList result)) (same : g.present mid.store ≡ g.present e.store) where
      -- the state behind the goal
      abbrev pub behind_findall : State
      behind_findall = behind o.built

      goal_parts : (b ≡ built_in.Findall) × (template ≡ argument 0 t) × (result ≡ argument 2 t) × CanBeRun (argument 1 t) × (converted (argument 1 t) ≡ Some c)
      goal_parts = gather_parts b t template result c is

      template_same : template_of (g.present mid.store) w ≡ template
      template_same = ap (argument 0) (goal_same same) ∙ sym goal_parts.1

      result_same : result_of (g.present mid.store) w ≡ result
      result_same = ap (argument 2) (goal_same same) ∙ sym goal_parts.2

      pub solved_can : CanBeRun (solved_of (g.present mid.store) w)
      solved_can = subst CanBeRun (ap (argument 1) (sym (goal_same same))) goal_parts.3

      pub solved_converted : converted (solved_of (g.present mid.store) w) ≡ Some c
      solved_converted = ap (λ (x : Tree). converted (argument 1 x)) (goal_same same) ∙ goal_parts.4

      pub enters_findall : EntersFindall g l mid w behind_findall rest
      enters_findall = record {
        ahead = same_behind same;
        space = (let room = a.at.ahead.goes.room in let all = a.at.ahead.steps in let one = one_less e.steps took.more in let less = steps_same g l took s r in omega (arith, room, all, one, less));
        holds = subst (λ (q : Present W). q.holds w ≡ true) (sym same) a.holds;
        three = arity_same same goal_parts.0;
      }

      -- the state that the walker comes to
      abbrev pub walker_finds : State
      walker_finds = record (pushed a.at.behind (Gathering (AsList result) [] 0) behind_findall) { list = Goal c (suc (length o.stack)) ∷ Gather (length o.stack) template ∷ a.at.behind; built = (with_goal c o).built }

      finds_to : step o ≡ Goes walker_finds
      finds_to =
          runs_to g l e s w rest took.first r (record (with_goal c (pushed a.at.behind (Gathering (AsList result) [] 0) o)) { list = Goal c (suc (length o.stack)) ∷ Gather (length o.stack) template ∷ a.at.behind }) took.more
          (own_goal t a.at.behind o b (Gathers template c (AsList result)) took.is_own is)

      pub finds_now : (new : Search S L W M K P C N B O) (m : Move) → FindsAll g l m new (template_of (g.present mid.store) w) (result_of (g.present mid.store) w) c behind_findall → Moves g l m s new
      finds_now new move.Goes was =
          let own = own_reply (Gathers template c (AsList result)) is in
          let body = was.1 in
          let value : apply o.subst was.0 ≡ apply o.subst template = was.2 ∙ (template_same ∙ sym own.0) in
          let engine = subst (λ (x : Tree). IsEngine g l new (record (finding body was.0 x behind_findall) { built = (with_goal c o).built })) result_same (was.4).0 in
          goes_as g l e new s r walker_finds (record (finding body was.0 result behind_findall) { built = (with_goal c o).built }) finds_to
          (same_finding behind_findall body c was.0 template (AsList result) (suc (length o.stack)) (length o.stack) (with_goal c o).built a.at.behind (was.3 ∙ sym own.1) value own.2 (around_steps o a.at.behind o.built n around)) engine (was.4).1
      finds_now new (move.Pauses p) was = full_now new p was

      pub find_stops : (new : Search S L W M K P C N B O)
          → WasRefused g l new behind_findall (record (pushed behind_findall.list (Gathering (AsList (result_of (g.present mid.store) w)) [] 0) behind_findall) { built = o.built + conversion_cells (solved_of (g.present mid.store) w) })
          → Refused g l new s
      find_stops new (inl remains) = refuses_here g l new o s r.same remains
      find_stops new (inr remains) =
          let few = converted_cells (solved_of (g.present mid.store) w) c solved_converted in
          refuses g l new o walker_finds s r.same finds_to (
            subst (λ (x : Tree). Keeps g l new o.world (pushed a.at.behind (Gathering (AsList x) [] 0) o).stack) result_same remains.0,
            fits_more g (g.present new.store) 0 (record o { built = o.built + conversion_cells (solved_of (g.present mid.store) w) }) walker_finds refl (omega (arith, few)) remains.1,
          )

      pub find_over : mid.limit ≤ length mid.choices.items → ComesFull e.limit s
      find_over full = over_by walker_finds finds_to refl full

    -- ---- it asks what is settled in the world as it is

    module _ (x : Tree → World → Settled) (asks_is : reply b t ≡ AsksWorld (λ k v. x t v)) (same : g.present mid.store ≡ g.present e.store) where
      abbrev pub asker : State
      asker = behind o.built

      asked_meets : MeetsRow g l mid w asker rest
      asked_meets = record {
        ahead = same_behind same;
        space = (let room = a.at.ahead.goes.room in let all = a.at.ahead.steps in let one = one_less e.steps took.more in let less = steps_same g l took s r in omega (arith, room, all, one, less));
        holds = subst (λ (q : Present W). q.holds w ≡ true) (sym same) a.holds;
      }

      -- the state that the walker comes to
      abbrev pub walker_asks : State
      walker_asks = settled (x (meaning (g.present mid.store) w) asker.world) asker.list asker

      asks_to : step o ≡ Goes walker_asks
      asks_to =
          runs_to g l e s w rest took.first r (settled (x t o.world) a.at.behind o) took.more (own_goal t a.at.behind o b (AsksWorld (λ k v. x t v)) took.is_own asks_is)
          ∙ (ap Goes (settled_steps (x t o.world) a.at.behind n o) ∙ ap (λ (y : Tree). Goes (settled (x y o.world) a.at.behind asker)) (sym (goal_same same)))

      pub asked_now : (new : Search S L W M K P C N B O) (m : Move) → WasCalled g l m new asker walker_asks → Moves g l m s new
      asked_now new move.Goes was = goes g l e new s r walker_asks asks_to was.0 was.1
      asked_now new (move.Pauses p) was = full_now new p was

      pub asked_stops : (new : Search S L W M K P C N B O) → WasStopped g l new asker walker_asks → Refused g l new s
      asked_stops new (inl remains) = refuses_here g l new o s r.same remains
      asked_stops new (inr kept) = record {
        stopped = stops g l new o walker_asks s walker_asks.stack r.same asks_to refl kept.0 kept.1;
        fits = fits_on g (g.present new.store) o walker_asks s asks_to r.same kept.2;
      }

      pub asked_over : (mid.limit ≤ length mid.choices.items) × (length walker_asks.stack ≡ suc (length asker.stack)) → ComesFull e.limit s
      asked_over full = over_by walker_asks asks_to full.1 full.0

    -- ---- what it comes to rests on the operators and the flags, or it takes atoms apart

    pub setting_asks : (row : Setting) → b ≡ built_in.Setting row → reply b t ≡ AsksWorld (λ k v. setting_settled row t v)
    setting_asks row of_row = ap (λ (x : BuiltIn). reply x t) of_row

    pub parts_ask : (row : AtomPart) → b ≡ built_in.AtomPart row → reply b t ≡ AsksWorld (λ k v. parts_settled row t)
    parts_ask row of_row = ap (λ (x : BuiltIn). reply x t) of_row

    pub asks_at : (row : Setting) (of_row : b ≡ built_in.Setting row) (same : g.present mid.store ≡ g.present e.store) → AsksAt g l mid row w (behind o.built) rest
    asks_at row of_row same = record { meets = asked_meets (setting_settled row) (setting_asks row of_row) same; arity_is = arity_same same of_row }

    pub parts_at : (row : AtomPart) (of_row : b ≡ built_in.AtomPart row) (same : g.present mid.store ≡ g.present e.store) → PartsAt g l mid row w (behind o.built) rest
    parts_at row of_row same = record { meets = asked_meets (λ y v. parts_settled row y) (parts_ask row of_row) same; arity_is = arity_same same of_row }

    -- ---- what it comes to rests on the database

    module _ (row : Storage) (of_row : b ≡ built_in.Storage row) (same : g.present mid.store ≡ g.present e.store) where
      abbrev pub storing : State
      storing = behind o.built

      stores_is : reply b t ≡ AsksWorld (λ k v. storage_settled row t k v)
      stores_is = ap (λ (x : BuiltIn). reply x t) of_row

      pub stores_at : StoresAt g l mid row w storing rest
      stores_at = record {
        ahead = same_behind same;
        space = (let room = a.at.ahead.goes.room in let all = a.at.ahead.steps in let one = one_less e.steps took.more in let less = steps_same g l took s r in omega (arith, room, all, one, less));
        holds = subst (λ (q : Present W). q.holds w ≡ true) (sym same) a.holds;
        arity_is = arity_same same of_row;
      }

      -- what is settled
      abbrev pub walker_stores : Settled
      walker_stores = storage_settled row (meaning (g.present mid.store) w) storing.next storing.world

      settled_same : storage_settled row t o.next o.world ≡ walker_stores
      settled_same = ap (λ (x : Tree). storage_settled row x o.next o.world) (sym (goal_same same))

      stores_to : step o ≡ Goes (settled walker_stores storing.list storing)
      stores_to =
          runs_to g l e s w rest took.first r (settled (storage_settled row t o.next o.world) a.at.behind o) took.more (own_goal t a.at.behind o b (AsksWorld (λ k v. storage_settled row t k v)) took.is_own stores_is)
          ∙ (ap Goes (settled_steps (storage_settled row t o.next o.world) a.at.behind n o) ∙ ap (λ (x : Settled). Goes (settled x a.at.behind storing)) settled_same)

      -- the search comes to a state that is alike one behind fewer rows
      stores_thin : (x y : Settled) → ThinSettled x y → y ≡ walker_stores → (u : State) × Quiet s u × Alike (settled x storing.list storing) u
      stores_thin x y same_settled is =
          let on = onward_alike o (settled walker_stores storing.list storing) s stores_to r.same in
          (on.0, on.1, subst (λ (z : Settled). Alike (settled z storing.list storing) on.0) (sym is) on.2)
      stores_thin x y (fewer_offers {left = left} {ps = ps} {os = os} skips) is =
          let on = offers_alike o s a.term a.mark a.at.behind n took.is_own.key b (λ k v. storage_settled row t k v) left os ps r.same a.at.list (r.engine.steps ∙ one_less e.steps took.more)
          (ap key_of a.value ∙ took.is_own.named) took.is_own.found (ap (reply b) a.value ∙ stores_is) (settled_same ∙ sym is) skips in
          (on.0, on.1, subst (λ (v : State). Alike v on.0) (settled_steps (Offers left ps) a.at.behind n o) on.2)

      pub stores_now : (new : Search S L W M K P C N B O) (m : Move) → WasSettled g l m new storing walker_stores → Moves g l m s new
      stores_now new move.Goes was =
          let on = stores_thin was.own walker_stores was.thin refl in
          goes_to g l new s (settled was.own storing.list storing) on.0 on.1 on.2 was.tried.0 was.tried.1
      stores_now new (move.Pauses p) was = full_now new p was.tried

      pub store_stops : (new : Search S L W M K P C N B O) → WasGivenUp g l new storing walker_stores → Refused g l new s
      store_stops new was = record { stopped = by_choices was.keeps; fits = fits_there g (g.present new.store) (settled was.own storing.list storing) s on.0 on.1 on.2 was.fits } where
        on : (u : State) × Quiet s u × Alike (settled was.own storing.list storing) u
        on = stores_thin was.own walker_stores was.thin refl

        by_choices : Keeps g l new o.world o.stack ⊎ Keeps g l new o.world [] → Stopped g l new s
        by_choices (inl kept) = stops_here g l new o s r.same kept
        by_choices (inr kept) = stops_bare g l new o s r.same kept

      pub store_over : (mid.limit ≤ length mid.choices.items) × GainsAlternative storing walker_stores → ComesFull e.limit s
      store_over full =
          let on = stores_thin full.1.own walker_stores full.1.thin refl in
          let many = choices_length l r.engine.choices in
          let longer = full.1.longer in
          let fewer = alike_fewer (settled full.1.own storing.list storing) on.0 on.2 in
          let within = within_same full.0 in (
            record { at = on.0; quiet = on.1; holds = omega (arith, many, longer, fewer, within) },
            comes_beyond g l e r.own s e.limit r.engine.choices r.same (omega (arith, many, within)),
          )

    -- ---- it writes

    module _ (row : Output) (of_row : b ≡ built_in.Output row) (same : g.present mid.store ≡ g.present e.store) where
      abbrev pub writing : State
      writing = behind o.built

      pub writes_at : WritesAt g l mid row w writing rest
      writes_at = record {
        ahead = same_behind same;
        holds = subst (λ (q : Present W). q.holds w ≡ true) (sym same) a.holds;
        arity_is = arity_same same of_row;
      }

      -- what the walker comes to
      abbrev pub walker_writes : Outcome
      walker_writes = walker.replied (output_reply row (meaning (g.present mid.store) w)) writing.list writing

      writes_to : step o ≡ walker_writes
      writes_to =
          comes_to g l e s w rest took.first r (walker.replied (output_reply row t) a.at.behind o) took.more (own_goal t a.at.behind o b (output_reply row t) took.is_own (ap (λ (x : BuiltIn). reply x t) of_row))
          ∙ (output_steps row t a.at.behind n o ∙ ap (λ (x : Tree). walker.replied (output_reply row x) a.at.behind writing) (sym (goal_same same)))

      pub writes_now : (new : Search S L W M K P C N B O) (m : Move) → HasWritten g l m new walker_writes → Moves g l m s new
      writes_now new m was = wrote g l e new s r m walker_writes writes_to was

      pub write_stops : (new : Search S L W M K P C N B O) → Remains g l new writing → Refused g l new s
      write_stops new remains = refuses_here g l new o s r.same remains
