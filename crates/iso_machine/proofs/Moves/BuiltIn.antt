-- The step of a goal of a built-in whose arguments were put, and of one that fails as it is.
use Rattle.std.proofs.Common.{◌≡◌, ◌≢◌, ◌≤◌, ◌<◌, ◌+◌, ◌-◌, ◌⊎◌, inl, inr, ℕ, suc, List, [], ◌∷◌, length, map, Option, Result, Ok, Err, refl, sym, ap, ap₂, ◌∙◌, subst, arith, true}
use Rattle.std.specs.List.{All}
use Rattle.std.proofs.lemmas.List.{length-map}
use Rattle.iso_atoms.specs.Texts.{text_at}
use Rattle.iso_model.specs.Terms.Trees.{Tree, arities_fit, row}
use Rattle.iso_model.specs.Terms.Arguments.{arguments, arity}
use Rattle.iso_model.specs.Terms.TermOf.{term_of}
use Rattle.iso_model.specs.Search.BuiltIns.{answered, reply}
use Rattle.iso_model.specs.Search.Engines.{IsAwake}
use Rattle.iso_model.specs.Search.Library.{library_answer, library_arity}
use Rattle.iso_model.specs.Search.Walker.{State, World, Member}
use Rattle.iso_model.specs.declared.built_ins.BuiltIn.TheVariants as built_in
use Rattle.iso_model.specs.declared.kinds.Library.{Library}
use Rattle.iso_model.specs.declared.pauses.Ball.{Ball}
use Rattle.iso_db.specs.declared.keyed.KeyedView.{KeyedView}
use Rattle.iso_store_core.specs.ArgumentWords.{AreArguments}
use Rattle.iso_store_core.specs.Presents.{Holds, Present, meaning}
use Rattle.iso_store_core.specs.Retaining.{Retains, Takes}
use Rattle.iso_store_core.specs.declared.shapes.StoreFault.{StoreFault}
use Rattle.iso_store_core.specs.declared.shapes.StoreFault.TheVariants as store_fault
use Rattle.iso_store_core.specs.declared.stores.Store.{Ghosts}
use Rattle.iso_store_core.proofs.ArgumentLemmas.{words-are}
use Rattle.iso_lib_core.specs.Cells.{made_for}
use Rattle.iso_lib_core.specs.Replies.{IsReply}
use Rattle.iso_lib_core.specs.declared.outcomes.Reply.{Reply}
use Rattle.iso_lib_core.specs.declared.outcomes.Reply.TheVariants as outcome
use Rattle.iso_lib_core.specs.declared.outcomes.Fault.{Fault}
use Rattle.iso_lib_core.specs.declared.outcomes.Fault.TheVariants as fault
use Rattle.iso_search_core.specs.Bodies.{whole_cost}
use Rattle.iso_search_core.specs.Cells.{reply_cells}
use Rattle.iso_search_core.specs.Costs.{now_cost}
use Rattle.iso_search_core.specs.GoalKinds.{IsBuiltIn}
use Rattle.iso_search_core.specs.Standing as standing
use Rattle.iso_search_core.specs.declared.nows.Now.{Now}
use Rattle.iso_search_core.specs.declared.nows.Now.TheVariants as now
use Rattle.iso_search_core.proofs.ArityLemmas.{built_in_arguments}
use Rattle.iso_search_core.proofs.BodyCosts.{whole_paid}
use Rattle.iso_search_core.proofs.CellLemmas.{answer_counts}
use Rattle.iso_search_core.proofs.StandingLemmas.{keeps_none}
use Rattle.iso_frames.specs.declared.frames.Rest.{Rest}
use Rattle.iso_frames.specs.declared.frames.Next.{Next}
use Rattle.iso_frames.specs.Costs.{first_cost}
use Rattle.iso_environments.specs.Goals.{goal_of}
use Rattle.iso_search.specs.Called.{FailsAt, IsCalled}
use Rattle.iso_search.specs.EngineStates.{IsBehind, Keeps, Moves, Refused, Represents, cost, kept_cost, leaves_of, phase_of, weight}
use Rattle.iso_search.specs.Faults.{Throws}
use Rattle.iso_search.specs.Moved.{Moved}
use Rattle.iso_search.specs.Nexts.{IsGoalFirst}
use Rattle.iso_search.specs.Stays.{Stays}
use Rattle.iso_search.specs.Worlds.{IsWorld}
use Rattle.iso_search.specs.declared.calls.Called.{Called}
use Rattle.iso_search.specs.declared.calls.Called.TheVariants as called_as
use Rattle.iso_search.specs.declared.calls.Next.TheVariants as calls
use Rattle.iso_search.specs.declared.search.Move.{Move}
use Rattle.iso_search.specs.declared.search.Move.TheVariants as move
use Rattle.iso_search.proofs.LimitLemmas.{stays_next, stays_on, stays_same}
use Rattle.iso_search.proofs.MovedLemmas.{moved_not, moved_on}
use Rattle.iso_search.proofs.ReplyKinds.{failed_as, raised_as, went_as, went_words}
use Rattle.iso_search.proofs.RunCosts.{fails_at_once}
use Rattle.iso_search.proofs.RunLemmas.{one_less}
use Rattle.iso_search.proofs.Moves.Run.{fails_own, fails_unknown}
use Rattle.iso_search.proofs.Moves.Value.{IsAtValue, TookStepAt, took_step, value_fails, value_holds, value_keeps, value_misses, value_raises, value_refused_reply, value_unbound}
use Rattle.iso_machine.specs.BuiltIns.{HasRun}
use Rattle.iso_machine.specs.Came.{CameTo}
use Rattle.iso_machine.specs.Engines.{Engine, framed}
use Rattle.iso_machine.specs.GoalCalls.{AtCall, IsCallPut, goal_put}
use Rattle.iso_machine.specs.Lists.{IsList, as_much, cost_at, extent_of, list_more, list_words}
use Rattle.iso_machine.proofs.GoalTerms.{goal_arity}
use Rattle.iso_machine.proofs.Moves.Arithmetic.{thrown_goes}
use Rattle.iso_machine.proofs.Moves.Went.{came_moved, came_refused}

-- ---- the arguments of a goal by its name

goal_row : (f : List ℕ) (ts : List Tree) → row ts ≡ arguments (goal_of f ts)
goal_row f [] = refl
goal_row f (t ∷ ts) = refl

-- words are the arguments of the goal that they were put for
pub put_arguments : {W : Type 0} (p : Present W) (ws : List W) (f : List ℕ) → All (Holds p) ws
    → AreArguments p ws (goal_of f (map (meaning p) ws))
put_arguments p ws f hold =
    words-are p ws (goal_of f (map (meaning p) ws)) hold (goal_row f (map (meaning p) ws))

-- they are as many as the built-in has
pub put_count : {W : Type 0} (p : Present W) (ws : List W) (f : List ℕ) (r : Library)
    → IsBuiltIn (goal_of f (map (meaning p) ws)) (built_in.Library r) → length ws ≡ library_arity r
put_count p ws f r is =
    let many = goal_arity f (map (meaning p) ws) in
    let words = length-map ws (meaning p) in
    let counts : arity (goal_of f (map (meaning p) ws)) ≡ library_arity r =
    built_in_arguments (goal_of f (map (meaning p) ws)) (built_in.Library r) is in
    omega (arith, many, words, counts)

module _ {S W M : Type 0} (g : Ghosts S W M) (atom_word : ℕ → W) where
  -- ---- the goal whose arguments were put takes its step

  module _ {old e : Engine S W M} {name : ℕ} {behind : Option Rest} {room : ℕ}
      (put : IsCallPut g atom_word old e name behind room) (more : e.steps ≢ 0) where
    -- what is left falls
    pub step_falls : (new : Engine S W M) → new.steps ≡ e.steps - 1
        → cost (framed atom_word) new ≤ cost (framed atom_word) old
        → weight (framed atom_word) new < weight (framed atom_word) old
    step_falls new steps less =
        let whole : suc (e.steps - 1) ≡ old.steps = sym (one_less e.steps more) ∙ put.steps in
        subst (λ (n : ℕ). whole_cost new.steps (cost (framed atom_word) new)
        < whole_cost n (cost (framed atom_word) old)) whole
        (subst (λ (n : ℕ). whole_cost n (cost (framed atom_word) new)
        < whole_cost (suc (e.steps - 1)) (cost (framed atom_word) old)) (sym steps)
        (whole_paid (e.steps - 1) (cost (framed atom_word) old) (cost (framed atom_word) new) (omega (arith, less))))

    module _ (s : State) (r : Represents g (framed atom_word) old s) where
      abbrev pub at : AtCall g atom_word e (goal_put g atom_word e name) behind room s
      at = put.at s r

      -- the goal comes first, by its value
      abbrev pub at_value : IsAtValue g (framed atom_word) e (goal_put g atom_word e name) behind at.own
      at_value = record { term = at.term; mark = at.mark; at = at.at; value = at.value }

    -- ---- it fails as it is

    abbrev failed : Engine S W M
    failed = record e { steps = e.steps - 1; now = now.Failing }

    failed_came : ((s : State) → Represents g (framed atom_word) old s
        → Moves g (framed atom_word) move.Goes s failed) → CameTo g atom_word old (Ok calls.Went) failed
    failed_came moves =
        let less = put.less in
        came_moved g atom_word {Over = λ t. ⊥}
        (moved_on g (framed atom_word) moves (step_falls failed refl (omega (arith, less)))
        (stays_on g put.stays (record {
          limit = refl;
          vocabulary = refl;
          names_kept = λ place text h. h;
          base = λ p h. h;
          within = λ h. h;
        })))

    -- one for which no clause is left
    pub misses_came : ((w : World) → IsWorld g (framed atom_word) e w → FailsAt w (goal_put g atom_word e name))
        → CameTo g atom_word old (Ok calls.Went) failed
    misses_came misses =
        failed_came (λ s r. value_misses g (framed atom_word) e (at s r).own s (goal_put g atom_word e name) behind
        (at s r).same (at_value s r) more (misses (at s r).own.world (at s r).at.ahead.world))

  -- ---- a goal that a word stands for fails as it is

  module _ (e : Engine S W M) (goal : W) (behind : Option Rest) (first : IsGoalFirst g (framed atom_word) e goal behind)
      (more : e.steps ≢ 0) where
    word_failed : ((s : State) → Represents g (framed atom_word) e s
        → Moves g (framed atom_word) move.Goes s (record e { steps = e.steps - 1; now = now.Failing }))
        → CameTo g atom_word e (Ok calls.Went) (record e { steps = e.steps - 1; now = now.Failing })
    word_failed moves =
        came_moved g atom_word {Over = λ t. ⊥}
        (moved_on g (framed atom_word) moves (fails_at_once g (framed atom_word) e goal behind first more) (record {
          limit = refl;
          vocabulary = refl;
          names_kept = λ place text h. h;
          base = λ p h. h;
          within = λ h. h;
        }))

    -- one of fail/0
    pub word_fails : IsBuiltIn (meaning (g.present e.store) goal) built_in.Fail
        → CameTo g atom_word e (Ok calls.Went) (record e { steps = e.steps - 1; now = now.Failing })
    word_fails is = word_failed (λ s r. fails_own g (framed atom_word) e s goal behind first r more is)

    -- one for which no clause is left
    pub word_misses : ((w : World) → IsWorld g (framed atom_word) e w → FailsAt w (meaning (g.present e.store) goal))
        → CameTo g atom_word e (Ok calls.Went) (record e { steps = e.steps - 1; now = now.Failing })
    word_misses misses =
        word_failed (λ s r. fails_unknown g (framed atom_word) e s goal behind first r more
        (misses r.own.world r.engine.world))

    -- one that calls what fails at once
    pub word_fails_now : (called : Called) (later : KeyedView) (s : State) → Represents g (framed atom_word) e s
        → ((w : World) → IsWorld g (framed atom_word) e w
        → IsCalled (leaves_of g (framed atom_word) e) later w (meaning (g.present e.store) goal) called)
        → (called ≡ called_as.Fails) ⊎ (called ≡ called_as.BuiltIn built_in.Fail)
        → CameTo g atom_word e (Ok calls.Went) (record e { steps = e.steps - 1; now = now.Failing })
    word_fails_now called later s r calling (inl is) =
        word_misses (λ w world.
        subst (λ (x : Called). IsCalled (leaves_of g (framed atom_word) e) later w (meaning (g.present e.store) goal) x)
        is (calling w world))
    word_fails_now called later s r calling (inr is) =
        word_fails
        (subst (λ (x : Called).
        IsCalled (leaves_of g (framed atom_word) e) later r.own.world (meaning (g.present e.store) goal) x) is
        (calling r.own.world r.engine.world))

  -- ---- a goal of a built-in was answered

  -- one of the library, by these words for its arguments
  pub has_run : {old e : Engine S W M} {name : ℕ} {behind : Option Rest} {room : ℕ}
      → IsCallPut g atom_word old e name behind room → e.steps ≢ 0 → (r : Library)
      → IsBuiltIn (goal_put g atom_word e name) (built_in.Library r) → (answer : Result Reply Fault) → (store : S)
      → (words : List W) → words ≡ e.lists.arguments.items
      → ((t : Tree) → AreArguments (g.present e.store) words t
      → IsReply (g.present e.store) (g.present store) (library_answer r t) answer)
      → ((t : Tree) → AreArguments (g.present e.store) words t
      → Takes g e.store store (made_for (library_answer r t)))
      → Retains g e.store store → (answer ≡ Err fault.Full → g.full store)
      → HasRun g atom_word old e (record e { store = store; steps = e.steps - 1 }) name behind room answer
  has_run {e = e} {name = name} put more r is answer store words same replies cells retains full =
      let p = g.present e.store in
      let goal = goal_put g atom_word e name in
      let are : AreArguments p words goal = subst (λ (ws : List W). AreArguments p ws goal) (sym same)
      (put_arguments p e.lists.arguments.items (text_at (g.names e.store) name) put.hold) in
      record {
        put = put;
        more = more;
        built_in = built_in.Library r;
        is_own = is;
        table = library_answer r goal;
        says = refl;
        same = refl;
        retains = retains;
        replies = replies goal are;
        cells = cells goal are;
        full = full;
      }

  module _ {old e mid : Engine S W M} {name : ℕ} {behind : Option Rest} {room : ℕ} {answer : Result Reply Fault}
      (h : HasRun g atom_word old e mid name behind room answer) where
    abbrev call : Tree
    call = goal_put g atom_word e name

    lists_same : mid.lists ≡ e.lists
    lists_same = ap (λ (x : Engine S W M). x.lists) h.same

    lists_keep : standing.Keeps (framed atom_word) e.lists mid.lists
    lists_keep =
        subst (standing.Keeps (framed atom_word) e.lists) (sym lists_same) (keeps_none (framed atom_word) e.lists)

    -- what stays behind the goal, stays
    stays_behind : {new : Engine S W M} → Stays g mid new → Stays g old new
    stays_behind stays =
        stays_on g h.put.stays
        (stays_on g
        (subst (λ (x : Engine S W M). Stays g e x) (sym h.same) (record {
          limit = refl;
          vocabulary = refl;
          names_kept = h.retains.names;
          base = λ p b. h.retains.marks e.base p b;
          within = λ w. w;
        })) stays)

    cells_taken : Takes g e.store mid.store (reply_cells (reply h.built_in call))
    cells_taken =
        subst (Takes g e.store mid.store) (sym (ap reply_cells h.says ∙ answer_counts h.table)) h.cells

    -- less is to be done where the engine goes on like this
    falls_on : (n : Now (Next W) (Option Rest))
        → now_cost (λ (x : Next W). first_cost mid.lists.frames.items x) n ≤ cost_at mid.lists behind + 1
        → weight (framed atom_word) (record mid { now = n }) < weight (framed atom_word) old
    falls_on n within =
        let less = h.put.less in
        let kept = ap (λ (x : Engine S W M). kept_cost (framed atom_word) x) h.same in
        let place = ap (λ (x : Engine S W M). cost_at x.lists behind) h.same in
        step_falls h.put h.more (record mid { now = n }) (ap (λ (x : Engine S W M). x.steps) h.same)
        (omega (arith, less, kept, place, within))

    -- what the table's answer says, by what the goal came to
    replies : (x : Result Reply Fault) → answer ≡ x → IsReply (g.present e.store) (g.present mid.store) h.table x
    replies x is = subst (IsReply (g.present e.store) (g.present mid.store) h.table) is h.replies

    module _ (s : State) (r : Represents g (framed atom_word) old s) where
      abbrev pub here : AtCall g atom_word e call behind room s
      here = h.put.at s r

      abbrev pub value : IsAtValue g (framed atom_word) e call behind here.own
      value = at_value h.put h.more s r

      pub took : TookStepAt g (framed atom_word) e mid call behind here.at.behind h.built_in
      took =
          took_step g (framed atom_word) (λ x. as_much (extent_of x)) (λ x k within. within)
          (λ p x j k i ms less list. list_more atom_word p x j k i ms less list)
          (λ p q x k i ms keeps list. list_words atom_word p q x k i ms keeps list) e mid here.own call behind
          h.built_in value h.more h.is_own
          (h.same ∙ ap₂ (λ ls ws. record e { store = mid.store; lists = ls; steps = e.steps - 1; words = ws })
          (sym lists_same) (sym (ap (λ (x : Engine S W M). x.words) h.same))) h.retains.marks h.retains.names lists_keep
          cells_taken

      pub done_list : answer ≡ Ok outcome.Done
          → IsList atom_word (g.present mid.store) mid.lists (extent_of mid.lists) behind here.at.behind
      done_list is = took.chain (went_words (went_as h.table (replies (Ok outcome.Done) is)))

    -- it succeeded
    pub done_came : answer ≡ Ok outcome.Done → (n : Now (Next W) (Option Rest))
        → ((ms : List Member) → IsList atom_word (g.present mid.store) mid.lists (extent_of mid.lists) behind ms
        → IsBehind (framed atom_word) (g.present mid.store) mid.lists behind n ms)
        → now_cost (λ (x : Next W). first_cost mid.lists.frames.items x) n ≤ cost_at mid.lists behind
        → IsAwake (phase_of n) → CameTo g atom_word old (Ok calls.Went) (record mid { now = n })
    done_came is n comes less awake =
        came_moved g atom_word {Over = λ t. ⊥}
        (moved_on g (framed atom_word)
        (λ s r. value_holds g (framed atom_word) (here s r).own s (here s r).same (value s r) (took s r) n comes awake
        (answered h.table) h.says (went_as h.table (replies (Ok outcome.Done) is)))
        (falls_on n (omega (arith, less))) (stays_behind (stays_next g n (stays_same g mid))))

    -- it failed
    pub fails_came : answer ≡ Ok outcome.Fail
        → CameTo g atom_word old (Ok calls.Went) (record mid { now = now.Failing })
    fails_came is =
        came_moved g atom_word {Over = λ t. ⊥}
        (moved_on g (framed atom_word)
        (λ s r. value_fails g (framed atom_word) (here s r).own s (here s r).same (value s r) (took s r)
        (answered h.table) h.says (failed_as h.table (replies (Ok outcome.Fail) is)))
        (falls_on now.Failing (omega arith)) (stays_behind (stays_next g now.Failing (stays_same g mid))))

    -- ---- a ball is thrown, or it was refused

    -- the ball is one that a store can hold
    pub ball_fits : (ball : Ball) → answer ≡ Err (fault.Raise ball) → arities_fit (term_of ball.term.value) ≡ true
    ball_fits ball is = (raised_as h.table ball (replies (Err (fault.Raise ball)) is)).1

    raise_moves : (ball : Ball) → answer ≡ Err (fault.Raise ball) → (result : Result Move StoreFault)
        → (new : Engine S W M) → Throws g (framed atom_word) mid (fault.Raise ball) behind result new
        → (s : State) → Represents g (framed atom_word) old s → Moves g (framed atom_word) move.Goes s new
    raise_moves ball is result new throws s r =
        let raised = raised_as h.table ball (replies (Err (fault.Raise ball)) is) in
        let error = term_of ball.term.value in
        let says = h.says ∙ raised.0 in
        let on = value_unbound g (framed atom_word) (here s r).own s (here s r).same (value s r) (took s r) error says
        raised.2 in
        value_raises g (framed atom_word) (here s r).own s (here s r).same (value s r) (took s r) new error says
        (throws.3 _ on) (rw throws.1 tt)

    thrown_falls : (new : Engine S W M) → new.now ≡ now.Raising behind
        → new ≡ record mid { raised = new.raised; now = new.now }
        → weight (framed atom_word) new < weight (framed atom_word) old
    thrown_falls new doing same =
        subst (λ (x : Engine S W M). weight (framed atom_word) x < weight (framed atom_word) old)
        (sym (same ∙ ap (λ (n : Now (Next W) (Option Rest)). record mid { raised = new.raised; now = n }) doing))
        (falls_on (now.Raising behind) (omega arith))

    refused : (s : State) → Represents g (framed atom_word) old s → Refused g (framed atom_word) mid s
    refused s r =
        value_refused_reply g (framed atom_word) e (here s r).own s call behind (here s r).same (value s r) h.more mid
        h.built_in h.is_own cells_taken
        (subst (λ (x : Engine S W M). Keeps g (framed atom_word) x (here s r).own.world (here s r).own.stack)
        (sym (h.same ∙ ap (λ ls. record e { store = mid.store; lists = ls; steps = e.steps - 1 }) (sym lists_same)))
        (value_keeps g (framed atom_word) e (here s r).own s call behind (here s r).same (value s r) mid.store mid.lists
        h.retains.marks h.retains.names lists_keep))

    fault_moved : (f : Fault) → answer ≡ Err f → (result : Result Move StoreFault) → (new : Engine S W M)
        → Throws g (framed atom_word) mid f behind result new → Stays g mid new
        → Moved g (framed atom_word) (λ t. ⊥) old result new
    fault_moved (fault.Raise ball) is result new throws stays =
        rw throws.0
        (moved_on g (framed atom_word) (raise_moves ball is result new throws) (thrown_falls new throws.1 throws.2)
        (stays_behind stays))
    fault_moved fault.Full is result new throws stays =
        rw (throws.0, throws.1)
        (moved_not g (framed atom_word) (Err store_fault.Full) refl refused (h.full is)
        (stays_behind (stays_same g mid)))
    fault_moved fault.NoMemory is result new throws stays =
        rw (throws.0, throws.1)
        (moved_not g (framed atom_word) (Err store_fault.NoMemory) refl refused tt
        (stays_behind (stays_same g mid)))

    -- a ball was thrown
    pub thrown_came : (f : Fault) → answer ≡ Err f → (m : Move) → (new : Engine S W M)
        → Throws g (framed atom_word) mid f behind (Ok m) new → Stays g mid new
        → CameTo g atom_word old (Ok calls.Went) new
    thrown_came f is m new throws stays =
        came_moved g atom_word
        (subst (λ (x : Move). Moved g (framed atom_word) (λ t. ⊥) old (Ok x) new)
        (thrown_goes g atom_word mid new f behind m throws) (fault_moved f is (Ok m) new throws stays))

    -- another fault
    pub fault_came : (f : Fault) → answer ≡ Err f → (x : StoreFault) → (new : Engine S W M)
        → Throws g (framed atom_word) mid f behind (Err x) new → Stays g mid new
        → CameTo g atom_word old (Err x) new
    fault_came f is x new throws stays = came_refused g atom_word x (fault_moved f is (Err x) new throws stays)
