-- A goal of this value comes first: what it comes to, whatever stands for it.
use Rattle.std.proofs.Common.{
  ◌≡◌,
  ◌≢◌,
  ◌≤◌,
  ◌+◌,
  ◌-◌,
  ℕ,
  suc,
  List,
  [],
  ◌∷◌,
  Option,
  None,
  refl,
  ap,
  ap₂,
  sym,
  ◌∙◌,
  subst,
  arith,
  inl,
  inr,
  ◌⊎◌,
}
use Rattle.iso_ops.specs.declared.settings.Unknown.TheVariants as on_unknown
use Rattle.iso_atoms.specs.Texts.{KeepsTexts}
use Rattle.iso_model.specs.Terms.Trees.{Tree}
use Rattle.iso_model.specs.Terms.Copies.{copy_from}
use Rattle.iso_model.specs.Terms.Sizes.{size}
use Rattle.iso_model.specs.Terms.Substitutions.{apply, compose, Subst}
use Rattle.iso_model.specs.Terms.Unifiers.{NeverEqual, Unifier}
use Rattle.iso_model.specs.Terms.Variables.{variable_count}
use Rattle.iso_model.specs.Search.Bodies.{Run}
use Rattle.iso_model.specs.Search.Databases as databases
use Rattle.iso_model.specs.Search.Databases.{clauses_at, Key, key_of}
use Rattle.iso_model.specs.Search.Errors.{existence_error}
use Rattle.iso_model.specs.Search.BuiltIns.{Reply, Fails, Succeeds, Equates, EquatesCopy, Raises, Halts, reply}
use Rattle.iso_model.specs.declared.built_ins.BuiltIn.{BuiltIn}
use Rattle.iso_model.specs.declared.built_ins.BuiltIn.TheVariants as built_in
use Rattle.iso_model.specs.declared.pauses.Pause.TheVariants as pause
use Rattle.iso_model.specs.Search.Engines.{IsAwake}
use Rattle.iso_model.specs.Search.Runs.{Finishes, Quiet}
use Rattle.iso_model.specs.Search.RunLaws.Thinness.{Skips}
use Rattle.iso_model.specs.Search.Walker.{
  State,
  World,
  Member,
  Goal,
  Fail,
  Raise,
  Ending,
  Outcome,
  Goes,
  Ends,
  Budget,
  Halted,
  charged,
  idle,
  fails,
  replied,
  run_goal,
  run_value,
  tried,
  step,
}
use Rattle.iso_model.proofs.Search.RunLaws.ThinSteps.{tried_steps}
use Rattle.iso_model.proofs.Search.RunLaws.Likeness.{Alike, call_alike}
use Rattle.iso_model.proofs.Search.CallLemmas.{run_equation, run_equation_missed, run_copy, run_copy_missed}
use Rattle.iso_store_core.specs.Presents.{KeepsMarks, KeepsWords, Present, meaning}
use Rattle.iso_store_core.specs.Retaining.{Takes}
use Rattle.iso_store_core.specs.declared.stores.Store.{Ghosts}
use Rattle.iso_store_core.proofs.RetainLemmas.{takes_same}
use Rattle.iso_lib_core.specs.Replies.{IsUnbound, UnifiesCopy}
use Rattle.iso_program.proofs.WordLemmas.{words_same}
use Rattle.iso_search_core.specs.Cells.{reply_cells}
use Rattle.iso_search_core.specs.GoalKinds.{IsUser, IsBuiltIn}
use Rattle.iso_search_core.specs.Standing as standing
use Rattle.iso_search_core.specs.Standing.{HaveRoom, numbers_a_step}
use Rattle.iso_search_core.specs.declared.lists.Lists as lists
use Rattle.iso_search_core.specs.declared.nows.Now.{Now}
use Rattle.iso_search_core.specs.declared.nows.Now.TheVariants as now
use Rattle.iso_search_core.proofs.FittingLemmas.{fits_taken}
use Rattle.iso_search_core.proofs.StandingLemmas.{keeps_none}
use Rattle.iso_search.specs.Called.{ClausesFor, FailsAt, IsUnknown}
use Rattle.iso_search.specs.Catches.{throwing}
use Rattle.iso_search.specs.EngineStates.{
  IsAhead,
  IsAtMember,
  IsBehind,
  IsEngine,
  Keeps,
  Moves,
  Refused,
  StandsFor,
  phase_of,
}
use Rattle.iso_search.specs.Nexts.{IsAtGoal}
use Rattle.iso_search.specs.Worlds.{IsWorld}
use Rattle.iso_search.specs.declared.search.Move.TheVariants as move
use Rattle.iso_search.specs.declared.search.Search.{Search}
use Rattle.iso_search.proofs.AheadLemmas.{engine_place, keeps_ahead}
use Rattle.iso_search.proofs.BackLemmas.{room_less}
use Rattle.iso_search.proofs.BoundLemmas.{list_on}
use Rattle.iso_search.proofs.CountedLemmas.{replied_counts}
use Rattle.iso_search.proofs.ReplyKinds.{
  WentOn,
  as_before,
  unified,
  unified_copy,
  Failed,
  at_once,
  never_equal,
  never_copy,
}
use Rattle.iso_search.proofs.RunLemmas.{ahead_more, ahead_step, one_less}
use Rattle.iso_search.proofs.SearchSteps.{own_goal, goal_comes, budget_step, unknown_goal}
use Rattle.iso_search.proofs.StoppedLemmas.{base_kept, keeps_more}
use Rattle.iso_search.proofs.WorldLemmas.{world_on, choices_grown}
use Rattle.iso_search.proofs.Moves.Search.{ends, goes_from, goes_to, refuses_before, refuses_here, stands_itself}
use Rattle.iso_search.proofs.Moves.Word.{ahead_worded, engine_worded}

module _ {S L W M K P C N B O : Type 0} (g : Ghosts S W M) (l : lists.Ghosts L S K P C N B O W M) where
  -- The engine, in this state, has a goal of this value first, and the list from the place on behind it.
  pub record IsAtValue (e : Search S L W M K P C N B O) (call : Tree) (rest : P) (s : State) : Type 0 where
    pub term : Tree
    pub mark : ℕ
    pub at : IsAtMember g l e s (Goal (Run term) mark) rest
    pub value : apply s.subst term ≡ call

  -- so where a word stands for the goal
  abbrev pub value_of : {e : Search S L W M K P C N B O} {w : W} {rest : P} {s : State} → IsAtGoal g l e w rest s
      → IsAtValue e (meaning (g.present e.store) w) rest s
  value_of a = record { term = a.term; mark = a.mark; at = a.at; value = a.value }

  -- A goal took a step and failed, whatever is bound now, whatever lists came, and with cells that are counted.
  pub failed_engine : (e : Search S L W M K P C N B O) (store : S) (more : L) (s : State) (rest : P)
      (n number made built : ℕ) → e.steps ≡ suc n → KeepsMarks (g.stands e.store) (g.stands store)
      → KeepsTexts (g.names e.store) (g.names store) → standing.Keeps l e.lists more → Takes g e.store store made
      → s.built + made ≤ built → IsAhead g l e s rest
      → IsEngine g l (record e { store = store; lists = more; steps = n; now = now.Failing })
      (record s { list = Fail ∷ []; next = number; built = built; steps = n })
  failed_engine e store more s rest n number made built many keeps texts adds takes counted is = record {
    world = world_on l texts is.world;
    steps = refl;
    base = base_kept g e.store store e.base keeps is.base;
    choices = choices_grown l texts adds (λ d p among stood. keeps d.mark p stood) is.choices;
    room = room_less n s.stack (subst (λ (k : ℕ). HaveRoom k s.stack) many is.room);
    fits = fits_taken g s (record s { list = Fail ∷ []; next = number; built = built; steps = n }) takes (omega arith)
        refl counted is.fits;
    next = ([], refl);
  }

  -- ---- a goal

  module _ (e : Search S L W M K P C N B O) (own s : State) (call : Tree) (rest : P) (same : Alike own s)
      (a : IsAtValue e call rest own) where
    abbrev behind : List Member
    behind = a.at.behind

    -- with the step taken
    abbrev less : State
    less = record own { steps = e.steps - 1 }

    -- no step is left
    pub value_spends : (new : Search S L W M K P C N B O) → e.steps ≡ 0
        → ((v : World) → IsWorld g l e v → IsEngine g l new (idle v)) → new.now ≡ now.Idle
        → Moves g l (move.Pauses pause.Budget) s new
    value_spends new none idles rests =
        let spent = budget_step own a.term a.mark behind a.at.list (a.at.ahead.steps ∙ none) in
        (ends g l new own s Budget same spent rests (idles own.world a.at.ahead.world), ap phase_of rests)

    -- what stays of the engine, as store and lists come
    pub value_keeps : (store : S) (more : L) → KeepsMarks (g.stands e.store) (g.stands store)
        → KeepsTexts (g.names e.store) (g.names store) → standing.Keeps l e.lists more
        → Keeps g l (record e { store = store; lists = more }) own.world own.stack
    value_keeps store more keeps texts grows =
        let kept = keeps_ahead g l e (record own { list = behind }) rest a.at.ahead in
        keeps_more g l e store more own.world own.stack kept keeps texts grows

    module _ (more : e.steps ≢ 0) where
      -- what the goal comes to
      pub value_comes : (x : Outcome) → run_value call behind own ≡ x → step own ≡ charged (e.steps - 1) x
      value_comes x h =
          goal_comes own a.term a.mark behind (e.steps - 1) x a.at.list (a.at.ahead.steps ∙ one_less e.steps more)
          (ap (λ (t : Tree). run_value t behind own) a.value ∙ h)

      -- what it goes to
      pub value_goes : (v : State) → run_value call behind own ≡ Goes v
          → step own ≡ Goes (record v { steps = e.steps - 1 })
      value_goes v h = value_comes (Goes v) h

      -- a ball is thrown
      pub value_throws : (new : Search S L W M K P C N B O) (ball : Tree)
          → run_value call behind own ≡ Goes (record own { list = Raise ball ∷ behind })
          → IsEngine g l new (throwing ball (record own { list = behind; steps = e.steps - 1 }))
          → IsAwake (phase_of new.now) → Moves g l move.Goes s new
      value_throws new ball h is awake =
          goes_from g l new own s (record own { list = Raise ball ∷ behind; steps = e.steps - 1 }) same
          (value_goes (record own { list = Raise ball ∷ behind }) h) (stands_itself g l new _ is) awake

      -- the search is ended
      pub value_ends : (new : Search S L W M K P C N B O) (ending : Ending)
          → run_value call behind own ≡ Ends ending own.world
          → ((v : World) → IsWorld g l e v → IsEngine g l new (idle v)) → new.now ≡ now.Idle
          → Finishes s ending (StandsFor g l new)
      value_ends new ending h idles rests =
          let ended = value_comes (Ends ending own.world) h in
          ends g l new own s ending same ended rests (idles own.world a.at.ahead.world)

      -- it was refused, with no more cells than its reply counts
      pub value_refused_reply : (new : Search S L W M K P C N B O) (b : BuiltIn) → IsBuiltIn call b
          → Takes g e.store new.store (reply_cells (reply b call)) → Keeps g l new own.world own.stack
          → Refused g l new s
      value_refused_reply new b is takes keeps = by_counts (replied_counts (reply b call) behind own) where
        by_counts : (reply_cells (reply b call) ≡ 0)
            ⊎ ((v : State) × (replied (reply b call) behind own ≡ Goes v) × (v.query ≡ own.query)
            × (own.built + reply_cells (reply b call) ≤ v.built)) → Refused g l new s
        by_counts (inl none) =
            refuses_here g l new own s same
            (keeps, fits_taken g own own takes (omega arith) refl (omega (arith, none)) a.at.ahead.fits)
        by_counts (inr goes_to) =
            let v : State = record (goes_to.0) { steps = e.steps - 1 } in
            refuses_before g l new own v s same
            (value_goes goes_to.0 (own_goal call behind own b (reply b call) is refl ∙ goes_to.1)) keeps
            (fits_taken g own v takes (omega arith) goes_to.2 goes_to.3 a.at.ahead.fits)

      -- ---- a goal of a procedure without clauses, or of none

      -- nothing changed but the step, and it failed
      abbrev failed : Search S L W M K P C N B O
      failed = record e { steps = e.steps - 1; now = now.Failing }

      failed_is : IsEngine g l failed (fails less)
      failed_is =
          failed_engine e e.store e.lists (record own { list = behind }) rest (e.steps - 1) own.next 0 own.built
          (one_less e.steps more) (λ m p h. h) (λ place text h. h) (keeps_none l e.lists) (takes_same 0 refl)
          (omega arith) a.at.ahead

      failed_at_once : run_value call behind own ≡ Goes (fails own) → Moves g l move.Goes s failed
      failed_at_once h =
          goes_from g l failed own s (fails less) same (value_goes (fails own) h)
          (stands_itself g l failed (fails less) failed_is) tt

      -- fail/0
      pub value_fail : IsBuiltIn call built_in.Fail
          → Moves g l move.Goes s (record e { steps = e.steps - 1; now = now.Failing })
      value_fail is = failed_at_once (own_goal call behind own built_in.Fail Fails is refl)

      -- the ball of an unknown procedure is thrown
      pub value_unknown : (new : Search S L W M K P C N B O) (ball : Tree)
          → (k : Key) × IsUser call k × (clauses_at own.world.database.procedures k ≡ None)
          × (own.world.flags.unknown ≡ on_unknown.Error) × (ball ≡ existence_error k)
          → IsEngine g l new (throwing ball (record own { list = behind; steps = e.steps - 1 }))
          → IsAwake (phase_of new.now) → Moves g l move.Goes s new
      value_unknown new ball is engine awake =
          let thrown = ap (λ (t : Tree). Goes (record own { list = Raise t ∷ behind })) (sym is.4) in
          let unknown = unknown_goal call behind own is.0 on_unknown.Error is.1 is.2 is.3 in
          value_throws new ball (unknown ∙ thrown) engine awake

      -- where these clauses are left for the goal the search comes to what trying them comes to
      pub value_tries : (key : Key) (cs : List databases.Clause) → IsUser call key → ClausesFor own.world key call cs
          → (u : State) × Quiet s u × Alike (tried call cs behind less) u
      value_tries key cs user left =
          let n = e.steps - 1 in
          let Misses : Tree → Type 0 = λ x. Skips x cs left.whole in
          let skips : Skips (apply own.subst a.term) cs left.whole = subst Misses (sym a.value) left.skips in
          let named = ap key_of a.value ∙ user.named in
          let counted = a.at.ahead.steps ∙ one_less e.steps more in
          let on = call_alike own s a.term a.mark behind n key left.whole cs same a.at.list counted named user.none
          left.found skips in
          let there = subst (λ (x : Tree). Alike (record (tried x cs behind own) { steps = n }) on.0) a.value on.2 in
          (on.0, on.1, subst (λ (v : State). Alike v on.0) (tried_steps call cs behind own n) there)

      -- it fails as it is
      pub value_misses : FailsAt own.world call
          → Moves g l move.Goes s (record e { steps = e.steps - 1; now = now.Failing })
      value_misses is = by_name is where
        by_key : (k : Key) → IsUser call k → ClausesFor own.world k call [] ⊎ IsUnknown own.world k on_unknown.Fail
            → Moves g l move.Goes s failed
        by_key k user (inl none) =
            let u = value_tries k [] user none in
            goes_to g l failed s (fails less) u.0 u.1 u.2 (stands_itself g l failed (fails less) failed_is) tt
        by_key k user (inr unknown) =
            failed_at_once (unknown_goal call behind own k on_unknown.Fail user unknown.0 unknown.1)

        by_name : FailsAt own.world call → Moves g l move.Goes s failed
        by_name (inl unnamed) = failed_at_once (ap (λ (x : Option Key). run_goal x call behind own) unnamed)
        by_name (inr is) = by_key is.0 is.1 is.2

  -- ---- a goal of a built-in

  -- The goal of this value that comes first is one of this built-in, and took its step: store and lists are what the
  -- reply made of them, and the list behind it still stands where words have their terms.
  pub record TookStepAt (e mid : Search S L W M K P C N B O) (call : Tree) (rest : P) (behind : List Member)
      (b : BuiltIn) : Type 0 where
    pub more : e.steps ≢ 0
    pub is_own : IsBuiltIn call b
    pub same : mid ≡ record e { store = mid.store; lists = mid.lists; steps = e.steps - 1; words = mid.words }
    pub keeps : KeepsMarks (g.stands e.store) (g.stands mid.store)
    pub texts : KeepsTexts (g.names e.store) (g.names mid.store)
    pub grows : standing.Keeps l e.lists mid.lists
    pub cost : l.cost mid.lists rest ≡ l.cost e.lists rest
    pub pending : l.pending mid.lists rest ≡ l.pending e.lists rest
    pub cells : Takes g e.store mid.store (reply_cells (reply b call))
    pub chain : KeepsWords (g.present e.store) (g.present mid.store)
        → l.list (g.present mid.store) mid.lists (l.whole mid.lists) rest behind

  -- so it did where the reply was made over the engine's own store and lists, by the laws of lists
  pub took_step : ((x : L) → l.within x (l.whole x)) → ((x : L) (k : K) → l.within x k → l.below k (l.whole x))
      → ((p : Present W) (x : L) (j k : K) (i : P) (ms : List Member) → l.below j k → l.list p x j i ms
      → l.list p x k i ms)
      → ((p q : Present W) (x : L) (k : K) (i : P) (ms : List Member) → KeepsWords p q → l.list p x k i ms
      → l.list q x k i ms)
      → (e mid : Search S L W M K P C N B O) (own : State) (call : Tree) (rest : P) (b : BuiltIn)
      (a : IsAtValue e call rest own) → e.steps ≢ 0 → IsBuiltIn call b
      → mid ≡ record e { store = mid.store; lists = mid.lists; steps = e.steps - 1; words = mid.words }
      → KeepsMarks (g.stands e.store) (g.stands mid.store) → KeepsTexts (g.names e.store) (g.names mid.store)
      → standing.Keeps l e.lists mid.lists → Takes g e.store mid.store (reply_cells (reply b call))
      → TookStepAt e mid call rest a.at.behind b
  took_step all top more words e mid own call rest b a some is_own same keeps texts grows cells =
      let p = g.present e.store in
      let q = g.present mid.store in
      let behind = a.at.behind in
      let chain = a.at.ahead.chain in
      record {
        more = some;
        is_own = is_own;
        same = same;
        keeps = keeps;
        texts = texts;
        grows = grows;
        cost = grows.costs p (l.whole e.lists) rest behind tt (all e.lists) chain;
        pending = grows.pendings p (l.whole e.lists) rest behind tt (all e.lists) chain;
        cells = cells;
        chain = λ stay. list_on l all top more words p q e.lists mid.lists rest behind stay grows chain;
      }

  module _ {e mid : Search S L W M K P C N B O} {call : Tree} {rest : P} {b : BuiltIn} (own s : State)
      (same : Alike own s) (a : IsAtValue e call rest own) (took : TookStepAt e mid call rest a.at.behind b) where
    abbrev n : ℕ
    n = e.steps - 1

    abbrev ms : List Member
    ms = a.at.behind

    abbrev p : Present W
    p = g.present e.store

    abbrev q : Present W
    q = g.present mid.store

    -- the cells that the reply counts
    abbrev counts : ℕ
    counts = reply_cells (reply b call)

    -- the state behind the goal
    abbrev pub taken : ℕ → State
    taken built = record own { list = ms; built = built; steps = n }

    -- with these bindings, and this next number
    abbrev bound : Subst → ℕ → ℕ → State
    bound v number built = record own { list = ms; subst = v; next = number; built = built; steps = n }

    -- what the reply counts is built
    pub counted : (x : Reply) (built : ℕ) → reply b call ≡ x → own.built + reply_cells x ≤ built
        → own.built + counts ≤ built
    counted x built is most = (let cells = ap reply_cells is in omega (arith, cells, most))

    -- what it goes to
    goes_by : (v : State) (x : Reply) → reply b call ≡ x → replied x ms own ≡ Goes v
        → step own ≡ Goes (record v { steps = n })
    goes_by v x is h = value_goes e own s call rest same a took.more v (own_goal call ms own b x took.is_own is ∙ h)

    -- the engine has the list behind the goal before it, with these bindings, and so many variables more
    ahead_on : (made built count : ℕ) (v : Subst) → Takes g e.store mid.store made → own.built + made ≤ built
        → KeepsWords p q → q.substitution ≡ v → q.next ≡ p.next + count → count ≤ numbers_a_step
        → IsAhead g l mid (bound v (own.next + count) built) rest
    ahead_on made built count v takes within words substitution number few =
        let many = one_less e.steps took.more in
        subst (λ (x : Search S L W M K P C N B O). IsAhead g l x (bound v (own.next + count) built) rest)
        (sym took.same)
        (ahead_worded g l (record e { store = mid.store; lists = mid.lists; steps = n }) mid.words
        (ahead_more g l e mid.store mid.lists (record own { list = ms }) rest n made built count v a.at.ahead many
        took.keeps took.texts took.grows takes within took.pending (took.chain words) words substitution number few))

    pub ahead_as : (made built : ℕ) (v : Subst) → Takes g e.store mid.store made → own.built + made ≤ built
        → KeepsWords p q → q.substitution ≡ v → q.next ≡ p.next → IsAhead g l mid (bound v own.next built) rest
    ahead_as made built v takes within words substitution number =
        let many = one_less e.steps took.more in
        subst (λ (x : Search S L W M K P C N B O). IsAhead g l x (bound v own.next built) rest) (sym took.same)
        (ahead_worded g l (record e { store = mid.store; lists = mid.lists; steps = n }) mid.words
        (ahead_step g l e mid.store mid.lists (record own { list = ms }) rest n made built v a.at.ahead many
        took.keeps took.texts took.grows takes within took.pending (took.chain words) words substitution number))

    -- no binding changed
    pub taken_ahead : (built : ℕ) → own.built + counts ≤ built → KeepsWords p q → q.substitution ≡ p.substitution
        → q.next ≡ p.next → IsAhead g l mid (taken built) rest
    taken_ahead built within words substitution next =
        ahead_as counts built own.subst took.cells within words (substitution ∙ a.at.ahead.goes.subst) next

    -- the words have their terms where the store is as it was
    words_still : q ≡ p → KeepsWords p q
    words_still still = subst (λ (x : Present W). KeepsWords p x) (sym still) (words_same p)

    binds_still : q ≡ p → q.substitution ≡ own.subst
    binds_still still = ap (λ (x : Present W). x.substitution) still ∙ a.at.ahead.goes.subst

    next_still : q ≡ p → q.next ≡ p.next
    next_still still = ap (λ (x : Present W). x.next) still

    pub taken_same : q ≡ p → IsAhead g l mid (taken own.built) rest
    taken_same still =
        ahead_as 0 own.built own.subst (takes_same 0 still) (omega arith) (words_still still) (binds_still still)
        (next_still still)

    -- a copy, as the search makes it
    same_copy : (y : Tree) → apply p.substitution (copy_from y p.next) ≡ apply own.subst (copy_from y own.next)
    same_copy y = ap₂ (λ (v : Subst) (m : ℕ). apply v (copy_from y m)) a.at.ahead.goes.subst a.at.ahead.goes.next

    -- ---- it succeeded

    module _ (next : Now N P)
        (comes : (xs : List Member) → l.list q mid.lists (l.whole mid.lists) rest xs
        → IsBehind l q mid.lists rest next xs)
        (awake : IsAwake (phase_of next)) where
      arrives : (v : State) → IsAhead g l mid v rest → step own ≡ Goes v
          → Moves g l move.Goes s (record mid { now = next })
      arrives v ahead h =
          let new = record mid { now = next } in
          let engine = engine_place g l mid v rest next ahead (comes v.list ahead.chain) in
          goes_from g l new own s v same h (stands_itself g l new v engine) awake

      went : (built : ℕ) (v : Subst) → own.built + counts ≤ built → KeepsWords p q → q.substitution ≡ v
          → q.next ≡ p.next → step own ≡ Goes (bound v own.next built)
          → Moves g l move.Goes s (record mid { now = next })
      went built v within words substitution number h =
          arrives (bound v own.next built) (ahead_as counts built v took.cells within words substitution number) h

      went_copy : (y : Tree) (v : Subst) → own.built + counts ≤ own.built + (1 + size y) → {x : Tree}
          (u : UnifiesCopy p q x y) → q.substitution ≡ v
          → step own ≡ Goes (bound v (own.next + variable_count y) (own.built + (1 + size y)))
          → Moves g l move.Goes s (record mid { now = next })
      went_copy y v within u substitution h =
          let built = own.built + (1 + size y) in
          let count = variable_count y in
          arrives (bound v (own.next + count) built)
          (ahead_on counts built count v took.cells within u.words substitution u.next u.few) h

      pub value_holds : (x : Reply) → reply b call ≡ x → WentOn p q x
          → Moves g l move.Goes s (record mid { now = next })
      value_holds Succeeds is (as_before still) =
          went own.built own.subst (counted Succeeds own.built is (omega arith)) (words_still still) (binds_still still)
          (next_still still) (goes_by (record own { list = ms }) Succeeds is refl)
      value_holds (Equates made x y) is (unified u unifier binds) =
          let v = compose own.subst u in
          let built = own.built + made in
          let is_bound = binds.substitution ∙ ap (λ (v : Subst). compose v u) a.at.ahead.goes.subst in
          went built v (counted (Equates made x y) built is (omega arith)) binds.words is_bound binds.numbers.next
          (goes_by (record own { list = ms; subst = v; built = built }) (Equates made x y) is
          (run_equation made x y ms own u unifier))
      value_holds (EquatesCopy x y) is (unified_copy u) =
          let v = compose own.subst u.unifier in
          let built = own.built + (1 + size y) in
          let copy = same_copy y in
          let unifier : Unifier x (apply own.subst (copy_from y own.next)) u.unifier
          = subst (λ (z : Tree). Unifier x z u.unifier) copy u.is in
          let is_bound = u.substitution ∙ ap (λ (v : Subst). compose v u.unifier) a.at.ahead.goes.subst in
          went_copy y v (counted (EquatesCopy x y) built is (omega arith)) u is_bound
          (goes_by (record own { list = ms; subst = v; next = own.next + variable_count y; built = built })
          (EquatesCopy x y) is (run_copy x y ms own u.unifier unifier))
      value_holds x is h = elim h [ ]

    -- ---- it failed

    -- in such a state; the next number doesn't count then
    abbrev missed : ℕ → ℕ → State
    missed number built = record own { list = Fail ∷ []; next = number; built = built; steps = n }

    missed_at : (number built : ℕ) → own.built + counts ≤ built → step own ≡ Goes (missed number built)
        → Moves g l move.Goes s (record mid { now = now.Failing })
    missed_at number built within h =
        let many = one_less e.steps took.more in
        let new = record mid { now = now.Failing } in
        let engine : IsEngine g l new (missed number built)
        = subst
        (λ (x : Search S L W M K P C N B O). IsEngine g l (record x { now = now.Failing }) (missed number built))
        (sym took.same)
        (engine_worded g l (record e { store = mid.store; lists = mid.lists; steps = n; now = now.Failing }) mid.words
        (failed_engine e mid.store mid.lists (record own { list = ms }) rest n number counts built many
        took.keeps took.texts took.grows took.cells within a.at.ahead)) in
        goes_from g l new own s (missed number built) same h (stands_itself g l new (missed number built) engine) tt

    pub value_fails : (x : Reply) → reply b call ≡ x → Failed p x
        → Moves g l move.Goes s (record mid { now = now.Failing })
    value_fails Fails is at_once =
        missed_at own.next own.built (counted Fails own.built is (omega arith)) (goes_by (fails own) Fails is refl)
    value_fails (Equates made x y) is (never_equal never) =
        let built = own.built + made in
        missed_at own.next built (counted (Equates made x y) built is (omega arith))
        (goes_by (record own { list = Fail ∷ []; built = built }) (Equates made x y) is
        (run_equation_missed made x y ms own never))
    value_fails (EquatesCopy x y) is (never_copy never) =
        let built = own.built + (1 + size y) in
        let number = own.next + variable_count y in
        let never_equal : NeverEqual x (apply own.subst (copy_from y own.next))
        = subst (λ (z : Tree). NeverEqual x z) (same_copy y) never in
        missed_at number built (counted (EquatesCopy x y) built is (omega arith))
        (goes_by (record own { list = Fail ∷ []; next = number; built = built }) (EquatesCopy x y) is
        (run_copy_missed x y ms own never_equal))
    value_fails x is h = elim h [ ]

    -- ---- a ball is thrown

    -- the engine about to throw it
    pub value_unbound : (ball : Tree) → reply b call ≡ Raises ball → IsUnbound p q
        → IsAhead g l mid (taken own.built) rest
    value_unbound ball is h =
        taken_ahead own.built (counted (Raises ball) own.built is (omega arith)) h.words h.substitution h.next

    pub value_raises : (new : Search S L W M K P C N B O) (ball : Tree) → reply b call ≡ Raises ball
        → IsEngine g l new (throwing ball (taken own.built)) → IsAwake (phase_of new.now) → Moves g l move.Goes s new
    value_raises new ball is engine awake =
        value_throws e own s call rest same a took.more new ball (own_goal call ms own b (Raises ball) took.is_own is)
        engine awake

    -- ---- the search is ended

    pub value_halts : (new : Search S L W M K P C N B O) (status : ℕ) → reply b call ≡ Halts status
        → ((v : World) → IsWorld g l e v → IsEngine g l new (idle v)) → new.now ≡ now.Idle
        → Finishes s (Halted status) (StandsFor g l new)
    value_halts new status is idles rests =
        value_ends e own s call rest same a took.more new (Halted status)
        (own_goal call ms own b (Halts status) took.is_own is) idles rests
