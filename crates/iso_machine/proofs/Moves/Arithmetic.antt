-- The move at arithmetic in the code of a clause.
use Rattle.std.proofs.Common.{◌≡◌, ◌≢◌, ℕ, zero, suc, get_or, ◌<◌, ◌≤◌, ◌+◌, ◌-◌, List, ◌∷◌, length, Option, Some, Result, Ok, Err, refl, sym, ap, ◌∙◌, subst, arith, true}
use Rattle.std.specs.Prelude.{Vec, ℤ}
use Rattle.std.specs.Global.{Global}
use Rattle.std.specs.declared.rc.Rc.{Rc}
use Rattle.std.specs.List.{slice_get}
use Rattle.std.proofs.lemmas.Option.{get_or_from_slice_get, slice_get_read}
use Rattle.iso_atoms.specs.Texts.{KeepsTexts}
use Rattle.iso_model.specs.Terms.Trees.{Tree, arities_fit}
use Rattle.iso_model.specs.Terms.TermOf.{term_of}
use Rattle.iso_model.specs.Terms.Substitutions.{Subst, apply}
use Rattle.iso_model.specs.Search.Bodies.{Run}
use Rattle.iso_model.specs.Search.BuiltIns.{answered}
use Rattle.iso_model.specs.Search.Engines.{IsAwake}
use Rattle.iso_model.specs.Search.Library.{library_answer}
use Rattle.iso_model.specs.Search.Replies.{Answer}
use Rattle.iso_model.specs.Search.RunLaws.Sameness.{open_list}
use Rattle.iso_model.proofs.Search.RunLaws.Opening.{opened}
use Rattle.iso_model.proofs.Search.RunLaws.Likeness.{Alike, opened_alike}
use Rattle.iso_model.specs.Search.Walker.{State, World, Member, Goal, idle}
use Rattle.iso_model.specs.declared.kinds.Library.{Library}
use Rattle.iso_model.specs.declared.built_ins.BuiltIn.TheVariants as built_in
use Rattle.iso_model.specs.declared.pauses.Ball.{Ball}
use Rattle.iso_model.specs.declared.pauses.Pause.TheVariants as pause
use Rattle.iso_store_core.specs.Presents.{Present}
use Rattle.iso_store_core.specs.Retaining.{RetainsAll, Takes}
use Rattle.iso_store_core.specs.declared.shapes.StoreFault.{StoreFault}
use Rattle.iso_store_core.specs.declared.shapes.StoreFault.TheVariants as store_fault
use Rattle.iso_store_core.specs.declared.stores.Store.{Ghosts}
use Rattle.iso_lib_core.specs.Replies.{IsReply}
use Rattle.iso_lib_core.specs.declared.outcomes.Reply.{Reply}
use Rattle.iso_lib_core.specs.declared.outcomes.Reply.TheVariants as outcome
use Rattle.iso_lib_core.specs.declared.outcomes.Fault.{Fault}
use Rattle.iso_lib_core.specs.declared.outcomes.Fault.TheVariants as fault
use Rattle.iso_prep.specs.declared.bodies.Node.{Node}
use Rattle.iso_lib_core.specs.Cells.{made_for}
use Rattle.iso_search_core.specs.GoalKinds.{IsBuiltIn}
use Rattle.iso_search_core.specs.Cells.{reply_cells}
use Rattle.iso_search_core.specs.Costs.{now_cost}
use Rattle.iso_search_core.specs.declared.nows.Now.{Now}
use Rattle.iso_search_core.specs.declared.nows.Now.TheVariants as now
use Rattle.iso_search_core.proofs.CellLemmas.{answer_counts}
use Rattle.iso_search_core.proofs.StandingLemmas.{keeps_none}
use Rattle.iso_instructions.specs.declared.instructions.Code.{Code}
use Rattle.iso_instructions.specs.declared.instructions.Instruction.{Instruction}
use Rattle.iso_instructions.specs.declared.instructions.Instruction.TheVariants.{Proceed, Jump}
use Rattle.iso_frames.specs.Running.{Stops}
use Rattle.iso_frames.specs.declared.frames.Rest.{Rest}
use Rattle.iso_frames.specs.declared.frames.Frame.{Frame}
use Rattle.iso_frames.specs.declared.frames.Next.{Next}
use Rattle.iso_frames.specs.declared.frames.Next.TheVariants as next
use Rattle.iso_frames.specs.Frames.{Chain}
use Rattle.iso_frames.specs.Costs.{cost_of, first_cost}
use Rattle.iso_environments.specs.Answering.{IsArithmeticThere, IsBelow, HasAnswered, below}
use Rattle.iso_environments.specs.Stacks.{stack}
use Rattle.iso_environments.proofs.AnswerLemmas.{IsFirst, is_below, is_first}
use Rattle.iso_search.specs.EngineStates.{IsAhead, IsBehind, IsEngine, Keeps, Moves, Refused, Represents, phase_of, weight}
use Rattle.iso_search.specs.Faults.{Throws}
use Rattle.iso_search.specs.Moved.{Moved}
use Rattle.iso_search.specs.Stays.{Stays}
use Rattle.iso_search.specs.Worlds.{IsWorld}
use Rattle.iso_search.specs.declared.calls.Next.TheVariants as calls
use Rattle.iso_search.specs.declared.search.Move.{Move}
use Rattle.iso_search.specs.declared.search.Move.TheVariants as move
use Rattle.iso_search.proofs.AheadLemmas.{ahead_grown}
use Rattle.iso_search.proofs.LimitLemmas.{stays_on, stays_same}
use Rattle.iso_search.proofs.MovedLemmas.{moved_not, moved_on, moved_pauses}
use Rattle.iso_search.proofs.ReplyKinds.{went_as, went_words, failed_as, raised_as}
use Rattle.iso_search.proofs.RunCosts.{value_falls, value_throws_falls}
use Rattle.iso_search.proofs.StoppedLemmas.{keeps_all, keeps_more}
use Rattle.iso_search.proofs.WorldLemmas.{same_texts}
use Rattle.iso_search.proofs.Moves.Value.{IsAtValue, TookStepAt, took_step, value_fails, value_holds, value_raises, value_refused_reply, value_spends, value_unbound}
use Rattle.iso_machine.specs.declared.framed.Framed.{Framed}
use Rattle.iso_frames.specs.declared.frames.Work.{Work}
use Rattle.iso_frames.specs.declared.frames.Work.TheVariants.{Clause, Member as OneMember}
use Rattle.iso_machine.specs.Arithmetic.{HasComputed, StopsThere}
use Rattle.iso_machine.specs.Firsts.{IsFirstOf}
use Rattle.iso_machine.specs.Came.{CameTo}
use Rattle.iso_machine.specs.Lists.{IsList, KeepsFrames, as_much, cost_at, extent_of, list_more, list_words, stack_of}
use Rattle.iso_machine.specs.Engines.{Engine, framed}
use Rattle.iso_machine.proofs.FrameLemmas.{adds_keeps, adds_same, stacked_same}
use Rattle.iso_machine.specs.Wholes.{whole_chain, whole_list}
use Rattle.iso_machine.proofs.Moves.Instruction.{code_ahead}
use Rattle.iso_machine.proofs.Moves.Went.{came_moved, came_refused}

some_same : {x y : Instruction} → Some x ≡ Some y → x ≡ y
some_same h = cc

-- an instruction that was read does something
pub stops_read : (code value : Code) (a : ℕ) (i : Instruction) → value ≡ code → a < length code.body.items → i ≡ get_or value.body.items a i
    → (i ≡ Proceed → ⊥) → ((l : ℕ) → i ≡ Jump l → ⊥) → Stops code a
stops_read code value a i same inside read none on =
    let there : slice_get code.body.items a ≡ Some i =
    slice_get_read code.body.items (length code.body.items) a i refl inside (subst (λ (x : Code). i ≡ get_or x.body.items a i) same read) in
    record {
      inside = inside;
      proceed = λ is. none (some_same (sym there ∙ is));
      jump = λ l is. on l (some_same (sym there ∙ is));
    }

-- what does something comes first of its frame
pub stops_first : (W : Type 0) (f : Frame) (r : Rest) (w : Work) → StopsThere w r.address → IsFirstOf {W = W} f r w (Some (next.Code r))
stops_first W f r (Clause code level) stops = λ b ls remains.
    record { address = r.address; is = refl; remains = remains; stops = stops; below = omega arith; cells = refl }
stops_first W f r (OneMember todo) stops = absurd stops

-- ---- the list behind the goal

-- less is to be done below, so that the arithmetic isn't at the lowest address
pub some_above : {frames : List Frame} (r : Rest) → IsBelow frames r → 0 < r.address
some_above {frames = frames} r h = by_address r.address refl where
  by_address : (n : ℕ) → r.address ≡ n → 0 < r.address
  by_address zero is =
      let low : r.address - 1 ≡ r.address = omega (arith, is) in
      let same = ap (λ (a : ℕ). cost_of frames (Some (record { frame = r.frame; address = a }))) low in
      let less = h.cost in
      absurd (omega (arith, same, less))
  by_address (suc n) is = omega (arith, is)

module _ {S W M : Type 0} (atom_word : ℕ → W) {p : Present W} (l : Framed S W M) (r : Rest)
    (there : IsArithmeticThere l.frames.items r) {all : List Member}
    (list : Chain atom_word p (stack_of l) (Some r) all)
  where
    abbrev f : Frame
    f = there.frame

    abbrev code : Rc Code Global
    code = there.code

    abbrev i : Instruction
    i = (there.arithmetic).0

    frame_is : f ≡ get_or l.frames.items r.frame f
    frame_is = sym (get_or_from_slice_get l.frames.items r.frame f f there.clause.at)

    item_is : i ≡ get_or code.value.body.items r.address i
    item_is = sym (get_or_from_slice_get code.value.body.items r.address i i (there.arithmetic).1)

    -- less is to be done below, and no more cells are still to be taken
    pub goes_below : IsBelow l.frames.items r
    goes_below =
        is_below atom_word list there f code there.level code.value code.value i frame_is there.clause.work refl refl
        item_is

    -- a goal comes first
    first : IsFirst atom_word p l.nodes.items l.frames.items l.words.items r f code there.level i all
    first =
        (is_first atom_word list there f code there.level code.value code.value i frame_is there.clause.work refl refl
        item_is).first

    pub goal_comes : (t : Tree) × (mark : ℕ) × (behind : List Member) × (open_list all ≡ Goal (Run t) mark ∷ behind)
    goal_comes = (_, first.mark, first.behind, first.is)

    -- behind it the list goes on one address below
    pub behind_chain : (t : Tree) (mark : ℕ) (behind : List Member) → open_list all ≡ Goal (Run t) mark ∷ behind
        → Chain atom_word p (stack_of l) (Some (below r)) behind
    behind_chain t mark behind is =
        let both = sym is ∙ first.is in
        let lists : behind ≡ first.behind = cc in
        subst (λ (ms : List Member). Chain atom_word p (stack_of l) (Some (below r)) ms) (sym lists) first.list

module _ {S W M : Type 0} (g : Ghosts S W M) (atom_word : ℕ → W) (mid new : Engine S W M) where
  -- where a ball is thrown the engine goes on
  pub thrown_goes : (f : Fault) (place : Option Rest) (m : Move) → Throws g (framed atom_word) mid f place (Ok m) new
      → m ≡ move.Goes
  thrown_goes (fault.Raise ball) place m throws =
      let goes = throws.0 in
      cc
  thrown_goes fault.Full place m throws = absurd (let none = throws.0 in cc)
  thrown_goes fault.NoMemory place m throws = absurd (let none = throws.0 in cc)

  -- behind a fault as many steps are left
  pub fault_choices : (f : Fault) (place : Option Rest) (result : Result Move StoreFault)
      → Throws g (framed atom_word) mid f place result new → new.choices ≡ mid.choices
  fault_choices (fault.Raise ball) place result throws = ap (λ (x : Engine S W M). x.choices) throws.2
  fault_choices fault.Full place result throws = ap (λ (x : Engine S W M). x.choices) throws.1
  fault_choices fault.NoMemory place result throws = ap (λ (x : Engine S W M). x.choices) throws.1

  pub fault_lists : (f : Fault) (place : Option Rest) (result : Result Move StoreFault)
      → Throws g (framed atom_word) mid f place result new → new.lists ≡ mid.lists
  fault_lists (fault.Raise ball) place result throws = ap (λ (x : Engine S W M). x.lists) throws.2
  fault_lists fault.Full place result throws = ap (λ (x : Engine S W M). x.lists) throws.1
  fault_lists fault.NoMemory place result throws = ap (λ (x : Engine S W M). x.lists) throws.1

  pub fault_steps : (f : Fault) (place : Option Rest) (result : Result Move StoreFault)
      → Throws g (framed atom_word) mid f place result new → new.steps ≡ mid.steps
  fault_steps (fault.Raise ball) place result throws = ap (λ (x : Engine S W M). x.steps) throws.2
  fault_steps fault.Full place result throws = ap (λ (x : Engine S W M). x.steps) throws.1
  fault_steps fault.NoMemory place result throws = ap (λ (x : Engine S W M). x.steps) throws.1

module _ {S W M : Type 0} (g : Ghosts S W M) (atom_word : ℕ → W) where
  -- ---- the goal that comes first

  -- by its value
  abbrev pub at_goal : (e : Engine S W M) (r : Rest) (there : IsArithmeticThere e.lists.frames.items r) (s : State)
      → IsAhead g (framed atom_word) e s (Some r) → (t : Tree) (mark : ℕ) (behind : List Member)
      → open_list s.list ≡ Goal (Run t) mark ∷ behind
      → IsAtValue g (framed atom_word) e (apply (g.present e.store).substitution t) (Some (below r)) (opened s)
  at_goal e r there s ahead t mark behind is = record {
    term = t;
    mark = mark;
    at = record {
      behind = behind;
      list = is;
      ahead = ahead_grown g (framed atom_word) e s (Some r) (Some (below r)) e.lists behind ahead
          (keeps_none (framed atom_word) e.lists)
          (whole_list atom_word e.lists
          (behind_chain atom_word e.lists r there (whole_chain atom_word e.lists ahead.chain) t mark behind is))
          (goes_below atom_word e.lists r there (whole_chain atom_word e.lists ahead.chain)).pending;
    };
    value = ap (λ (u : Subst). apply u t) (sym ahead.goes.subst);
  }

  -- no step is left
  pub none_moved : (e new : Engine S W M) (r : Rest) → e.now ≡ now.Running (next.Code r)
      → IsArithmeticThere e.lists.frames.items r → e.steps ≡ 0
      → ((v : World) → IsWorld g (framed atom_word) e v → IsEngine g (framed atom_word) new (idle v))
      → new.now ≡ now.Idle → Stays g e new
      → Moved g (framed atom_word) (λ t. ⊥) e (Ok (move.Pauses pause.Budget)) new
  none_moved e new r doing there none idles rests stays =
      moved_pauses g (framed atom_word)
      (λ s h. (let ahead = code_ahead g atom_word e h.own r doing h.engine in
      let goal = goal_comes atom_word e.lists r there (whole_chain atom_word e.lists ahead.chain) in
      value_spends g (framed atom_word) e (opened h.own) s (apply (g.present e.store).substitution goal.0)
      (Some (below r)) (opened_alike h.own s h.same) (at_goal e r there h.own ahead goal.0 goal.1 goal.2 goal.3) new none idles rests))
      tt (λ s h. tt) tt stays

  -- ---- the goal took its step

  -- it was answered, over these frames and words
  pub computed : (e : Engine S W M) (r : Rest) (answer : Result Reply Fault) (store : S) (values : Vec ℤ Global)
      (frames : List Frame) (words : List W) → e.now ≡ now.Running (next.Code r)
      → IsArithmeticThere e.lists.frames.items r → e.steps ≢ 0 → frames ≡ e.lists.frames.items
      → words ≡ e.lists.words.items → RetainsAll g e.store store
      → ((nodes : List (Node W)) (all : List Member)
      → Chain atom_word (g.present e.store) (stack nodes frames words) (Some r) all
      → HasAnswered atom_word (g.present e.store) (g.present store) (stack nodes frames words) r all answer)
      → ((nodes : List (Node W)) (all : List Member) (term : Tree) (mark : ℕ) (behind : List Member) (row : Library)
      → Chain atom_word (g.present e.store) (stack nodes frames words) (Some r) all
      → open_list all ≡ Goal (Run term) mark ∷ behind
      → IsBuiltIn (apply (g.present e.store).substitution term) (built_in.Library row)
      → Takes g e.store store (made_for (library_answer row (apply (g.present e.store).substitution term))))
      → (answer ≡ Err fault.Full → g.full store)
      → HasComputed g atom_word e
      (record e { store = store; lists = record e.lists { values = values }; steps = e.steps - 1 }) r answer
  computed e r answer store values frames words doing there more frames_are words_are retains answers cells full =
      record {
        doing = doing;
        there = there;
        more = more;
        same = refl;
        lists = refl;
        retains = retains;
        answers = (rw (frames_are, words_are) at answers) e.lists.nodes.items;
        cells = (rw (frames_are, words_are) at cells) e.lists.nodes.items;
        full = full;
      }

  module _ {e mid : Engine S W M} {r : Rest} {answer : Result Reply Fault} (c : HasComputed g atom_word e mid r answer)
    where
      nodes_same : mid.lists.nodes ≡ e.lists.nodes
      nodes_same = ap (λ (l : Framed S W M). l.nodes) c.lists

      frames_same : mid.lists.frames ≡ e.lists.frames
      frames_same = ap (λ (l : Framed S W M). l.frames) c.lists

      words_same : mid.lists.words ≡ e.lists.words
      words_same = ap (λ (l : Framed S W M). l.words) c.lists

      lists_keep : KeepsFrames atom_word (λ j. Unit {0}) e.lists mid.lists
      lists_keep =
          adds_keeps atom_word e.lists mid.lists (adds_same nodes_same) (adds_same frames_same) (stacked_same words_same)

      texts_keep : KeepsTexts (g.names e.store) (g.names mid.store)
      texts_keep = same_texts c.retains.names

      -- what stays behind the goal, stays
      stays_behind : {new : Engine S W M} → Stays g mid new → Stays g e new
      stays_behind stays =
          stays_on g
          (subst (λ (x : Engine S W M). Stays g e x) (sym c.same) (record {
            limit = refl;
            vocabulary = refl;
            names_kept = texts_keep;
            base = λ p h. c.retains.marks e.base p h;
            within = λ h. h;
          })) stays

      module _ (s : State) (h : Represents g (framed atom_word) e s) where
        abbrev pub ahead : IsAhead g (framed atom_word) e h.own (Some r)
        ahead = code_ahead g atom_word e h.own r c.doing h.engine

        abbrev pub chain : Chain atom_word (g.present e.store) (stack_of e.lists) (Some r) h.own.list
        chain = whole_chain atom_word e.lists ahead.chain

        abbrev pub has_answered : HasAnswered atom_word (g.present e.store) (g.present mid.store) (stack_of e.lists) r
            h.own.list answer
        has_answered = c.answers h.own.list chain

        abbrev pub call : Tree
        call = apply (g.present e.store).substitution has_answered.term

        -- what the table answers
        abbrev pub table : Answer
        table = library_answer has_answered.row call

        -- the engine's own state, without a conjunction in front
        abbrev pub own_open : State
        own_open = opened h.own

        pub same_open : Alike own_open s
        same_open = opened_alike h.own s h.same

        abbrev pub at_value : IsAtValue g (framed atom_word) e call (Some (below r)) own_open
        at_value =
            at_goal e r c.there h.own ahead has_answered.term has_answered.mark has_answered.behind has_answered.is

        cells_taken : Takes g e.store mid.store (reply_cells (answered table))
        cells_taken =
            subst (Takes g e.store mid.store) (sym (answer_counts table))
            (c.cells h.own.list has_answered.term has_answered.mark has_answered.behind has_answered.row chain
            has_answered.is has_answered.of_row)

        pub took : TookStepAt g (framed atom_word) e mid call (Some (below r)) has_answered.behind
            (built_in.Library has_answered.row)
        took =
            took_step g (framed atom_word) (λ x. as_much (extent_of x)) (λ x k within. within)
            (λ p x j k i ms less list. list_more atom_word p x j k i ms less list)
            (λ p q x k i ms keeps list. list_words atom_word p q x k i ms keeps list) e mid own_open call (Some (below r))
            (built_in.Library has_answered.row) at_value c.more has_answered.of_row
            (c.same ∙ ap (λ ws. record e
            { store = mid.store; lists = mid.lists; steps = e.steps - 1; words = ws })
            (sym (ap (λ (x : Engine S W M). x.words) c.same))) c.retains.marks texts_keep lists_keep cells_taken

        -- less is to be done behind it
        cheaper : cost_at e.lists (Some (below r)) < first_cost {W = W} e.lists.frames.items (next.Code r)
        cheaper = (goes_below atom_word e.lists r c.there chain).cost

        -- so it falls where the engine goes on like this
        falls_on : (n : Now (Next W) (Option Rest))
            → now_cost (λ (x : Next W). first_cost mid.lists.frames.items x) n ≤ cost_at mid.lists (Some (below r)) + 1
            → weight (framed atom_word) (record mid { now = n }) < weight (framed atom_word) e
        falls_on n within =
            value_falls g (framed atom_word) own_open (next.Code r) c.doing cheaper at_value took n within

        -- what the table's answer says, by what the goal came to
        replies : (x : Result Reply Fault) → answer ≡ x → IsReply (g.present e.store) (g.present mid.store) table x
        replies x is = subst (IsReply (g.present e.store) (g.present mid.store) table) is has_answered.replies

        -- ---- it succeeded

        pub done_list : answer ≡ Ok outcome.Done
            → IsList atom_word (g.present mid.store) mid.lists (extent_of mid.lists) (Some (below r))
            has_answered.behind
        done_list is = took.chain (went_words (went_as table (replies (Ok outcome.Done) is)))

  module _ {e mid : Engine S W M} {r : Rest} {answer : Result Reply Fault} (c : HasComputed g atom_word e mid r answer)
      (z : State) (stands : Represents g (framed atom_word) e z) where
    pub done_moved : answer ≡ Ok outcome.Done → (n : Now (Next W) (Option Rest))
        → ((ms : List Member)
        → IsList atom_word (g.present mid.store) mid.lists (extent_of mid.lists) (Some (below r)) ms
        → IsBehind (framed atom_word) (g.present mid.store) mid.lists (Some (below r)) n ms)
        → now_cost (λ (x : Next W). first_cost mid.lists.frames.items x) n ≤ cost_at mid.lists (Some (below r))
        → IsAwake (phase_of n) → Stays g mid (record mid { now = n })
        → Moved g (framed atom_word) (λ t. ⊥) e (Ok move.Goes) (record mid { now = n })
    done_moved is n comes less awake stays =
        moved_on g (framed atom_word)
        (λ s h. value_holds g (framed atom_word) (own_open c s h) s (same_open c s h) (at_value c s h) (took c s h) n comes awake
        (answered (table c s h)) refl
        (went_as (table c s h) (replies c s h (Ok outcome.Done) is)))
        (falls_on c z stands n (omega (arith, less))) (stays_behind c stays)

    -- ---- it failed

    pub fail_moved : answer ≡ Ok outcome.Fail → Stays g mid (record mid { now = now.Failing })
        → Moved g (framed atom_word) (λ t. ⊥) e (Ok move.Goes) (record mid { now = now.Failing })
    fail_moved is stays =
        moved_on g (framed atom_word)
        (λ s h. value_fails g (framed atom_word) (own_open c s h) s (same_open c s h) (at_value c s h) (took c s h) (answered (table c s h))
        refl
        (failed_as (table c s h) (replies c s h (Ok outcome.Fail) is)))
        (falls_on c z stands now.Failing (omega arith)) (stays_behind c stays)

    -- ---- a ball is thrown, or it was refused

    -- the ball is one that a store can hold
    pub ball_fits : (ball : Ball) → answer ≡ Err (fault.Raise ball) → arities_fit (term_of ball.term.value) ≡ true
    ball_fits ball is = (raised_as (table c z stands) ball (replies c z stands (Err (fault.Raise ball)) is)).1

    raise_moves : (ball : Ball) → answer ≡ Err (fault.Raise ball) → (result : Result Move StoreFault)
        → (new : Engine S W M)
        → Throws g (framed atom_word) mid (fault.Raise ball) (Some (below r)) result new
        → (s : State) → Represents g (framed atom_word) e s → Moves g (framed atom_word) move.Goes s new
    raise_moves ball is result new throws s h =
        let raised = raised_as (table c s h) ball (replies c s h (Err (fault.Raise ball)) is) in
        let error = term_of ball.term.value in
        let on = value_unbound g (framed atom_word) (own_open c s h) s (same_open c s h) (at_value c s h) (took c s h) error raised.0
        raised.2 in
        value_raises g (framed atom_word) (own_open c s h) s (same_open c s h) (at_value c s h) (took c s h) new error raised.0
        (throws.3 _ on) (rw throws.1 tt)

    -- the list that the ball is thrown past is ahead
    pub raised_ahead : (ball : Ball) → answer ≡ Err (fault.Raise ball) → (s : State)
        → Represents g (framed atom_word) e s
        → (t : State) × IsAhead g (framed atom_word) mid t (Some (below r))
    raised_ahead ball is s h =
        let raised = raised_as (table c s h) ball (replies c s h (Err (fault.Raise ball)) is) in
        let error = term_of ball.term.value in (
          _,
          value_unbound g (framed atom_word) (own_open c s h) s (same_open c s h) (at_value c s h) (took c s h) error raised.0
              raised.2,
        )

    refused_keeps : (s : State) → (h : Represents g (framed atom_word) e s)
        → Keeps g (framed atom_word) mid h.own.world h.own.stack
    refused_keeps s h =
        subst (λ (x : Engine S W M). Keeps g (framed atom_word) x h.own.world h.own.stack) (sym c.same)
        (keeps_more g (framed atom_word) e mid.store mid.lists h.own.world h.own.stack
        (keeps_all g (framed atom_word) e h.own h.engine) c.retains.marks (texts_keep c) (lists_keep c))

    refused : (s : State) → Represents g (framed atom_word) e s → Refused g (framed atom_word) mid s
    refused s h =
        value_refused_reply g (framed atom_word) e (own_open c s h) s (call c s h) (Some (below r)) (same_open c s h)
        (at_value c s h) c.more
        mid (built_in.Library (has_answered c s h).row) (has_answered c s h).of_row (cells_taken c s h)
        (refused_keeps s h)

    pub fault_moved : (f : Fault) → answer ≡ Err f → (result : Result Move StoreFault) → (new : Engine S W M)
        → Throws g (framed atom_word) mid f (Some (below r)) result new → Stays g mid new
        → Moved g (framed atom_word) (λ t. ⊥) e result new
    fault_moved (fault.Raise ball) is result new throws stays =
        rw throws.0
        (moved_on g (framed atom_word) (raise_moves ball is result new throws)
        (value_throws_falls g (framed atom_word) (own_open c z stands) (next.Code r) c.doing (cheaper c z stands)
        (at_value c z stands) (took c z stands) new throws.1 throws.2) (stays_behind c stays))
    fault_moved fault.Full is result new throws stays =
        rw (throws.0, throws.1)
        (moved_not g (framed atom_word) (Err store_fault.Full) refl refused (c.full is)
        (stays_behind c (stays_same g mid)))
    fault_moved fault.NoMemory is result new throws stays =
        rw (throws.0, throws.1)
        (moved_not g (framed atom_word) (Err store_fault.NoMemory) refl refused tt
        (stays_behind c (stays_same g mid)))

    -- a ball was thrown
    pub thrown_came : (f : Fault) → answer ≡ Err f → (m : Move) → (new : Engine S W M)
        → Throws g (framed atom_word) mid f (Some (below r)) (Ok m) new → Stays g mid new
        → CameTo g atom_word e (Ok calls.Went) new
    thrown_came f is m new throws stays =
        came_moved g atom_word
        (subst (λ (x : Move). Moved g (framed atom_word) (λ t. ⊥) e (Ok x) new)
        (thrown_goes g atom_word mid new f (Some (below r)) m throws)
        (fault_moved f is (Ok m) new throws stays))

    -- another fault
    pub fault_came : (f : Fault) → answer ≡ Err f → (x : StoreFault) → (new : Engine S W M)
        → Throws g (framed atom_word) mid f (Some (below r)) (Err x) new → Stays g mid new
        → CameTo g atom_word e (Err x) new
    fault_came f is x new throws stays = came_refused g atom_word x (fault_moved f is (Err x) new throws stays)
