-- A goal whose arguments were put is called: the step is taken, and frames and words are given up.
use Rattle.std.proofs.Common.{◌≡◌, ◌≢◌, ◌≤◌, ◌<◌, ◌+◌, ◌-◌, ℕ, suc, List, ◌∷◌, length, Option, refl, ap, ap₂, sym, ◌∙◌, subst, arith}
use Rattle.std.specs.List.{All}
use Rattle.iso_atoms.specs.Texts.{text_at}
use Rattle.iso_model.specs.Terms.Trees.{Tree, Name}
use Rattle.iso_model.specs.Search.Bodies.{Run}
use Rattle.iso_model.specs.Search.Engines.{IsAwake}
use Rattle.iso_model.specs.Search.Runs.{here}
use Rattle.iso_model.specs.Search.RunLaws.Spans.{ComesBeyond}
use Rattle.iso_model.specs.Search.Walker.{State, tried}
use Rattle.iso_model.specs.declared.limit.Limit.TheVariants as limit
use Rattle.iso_model.specs.declared.pauses.Pause.TheVariants as pause
use Rattle.iso_db.specs.declared.db.Db.{Db}
use Rattle.iso_db.specs.declared.keyed.KeyedView.{KeyedView}
use Rattle.iso_store_core.specs.Presents.{Grows, Holds, KeepsMarks}
use Rattle.iso_store_core.specs.declared.stores.Store.{Ghosts}
use Rattle.iso_program.specs.Leaving.{AreLeft}
use Rattle.iso_writing.specs.Writing.{Adds}
use Rattle.iso_search_core.specs.Bodies.{body_cost, left_cost, most, whole_cost}
use Rattle.iso_search_core.specs.Own.{own_of}
use Rattle.iso_search_core.specs.declared.nows.Now.TheVariants as now
use Rattle.iso_search_core.proofs.FittingLemmas.{fits_fewer}
use Rattle.iso_search_core.proofs.WordLemmas.{words_hold}
use Rattle.iso_frames.specs.declared.frames.Rest.{Rest}
use Rattle.iso_environments.specs.Goals.{goal_of}
use Rattle.iso_search.specs.Called.{CallsAt}
use Rattle.iso_search.specs.EngineStates.{IsAhead, Moves, Represents, Refused, StandsAs, WasRefused, cost, kept_cost, leaves_of, phase_of, weight}
use Rattle.iso_search.specs.declared.search.Move.TheVariants as move
use Rattle.iso_search.specs.Stays.{Stays}
use Rattle.iso_search.proofs.AheadLemmas.{remains_ahead}
use Rattle.iso_search.proofs.LimitLemmas.{stays_on}
use Rattle.iso_search.proofs.Moves.Search.{refuses_here}
use Rattle.iso_search.proofs.RunLemmas.{one_less}
use Rattle.iso_search.proofs.WeightLemmas.{falls_called}
use Rattle.iso_search.proofs.WorldLemmas.{same_texts}
use Rattle.iso_search.proofs.Moves.Next.{value_called, value_refused}
use Rattle.iso_search.proofs.Moves.Value.{IsAtValue}
use Rattle.iso_machine.specs.declared.framed.Framed.{Framed}
use Rattle.iso_machine.specs.Engines.{Engine, EngineClause, IsBeyond, framed}
use Rattle.iso_machine.specs.Unpushed.{CallsFor}
use Rattle.iso_machine.proofs.CameLemmas.{came_error}
use Rattle.iso_machine.specs.GoalCalls.{AtCall, CallsPut, IsToCall, goal_put}
use Rattle.iso_machine.specs.Lists.{IsPut, cost_at, extent_of, list_words, pending_at}
use Rattle.iso_machine.proofs.AddedLemmas.{IsGrown, ahead_added, ahead_taken, store_grown}
use Rattle.iso_machine.proofs.BeyondLemmas.{comes_beyond, goal_runs}
use Rattle.iso_machine.proofs.GoalTerms.{words_mean}

module _ {S W M : Type 0} (g : Ghosts S W M) (atom_word : ℕ → W) where
  -- ---- the step is taken

  -- the store where atoms are known
  pub known_grown : (e : Engine S W M) (store : S) → g.names store ≡ g.names e.store
      → KeepsMarks (g.stands e.store) (g.stands store) → Grows (g.present e.store) (g.present store) 0 0
      → IsGrown g (framed atom_word) e store e.lists 0
  known_grown e store names marks cells =
      store_grown g (framed atom_word) e store 0 (record { names = names; marks = marks }) (λ counts. cells)

  module _ {e : Engine S W M} {store : S} (behind : Option Rest) (more : e.steps ≢ 0)
      (grown : IsGrown g (framed atom_word) e store e.lists 0) (adds : Adds (g.present e.store) (g.present store)) where
    -- the list behind the goal, with the step taken
    pub ready_ahead : (s : State) → IsAhead g (framed atom_word) e s behind
        → IsAhead g (framed atom_word) (record e { store = store; steps = e.steps - 1 })
        (record s { steps = e.steps - 1 }) behind
    ready_ahead s ahead =
        ahead_taken g (framed atom_word) (record e { store = store }) s behind
        (ahead_added g (framed atom_word) grown s behind behind (pending_at e.lists behind) s.list ahead adds
        (fits_fewer g (g.present e.store) s {few = 0 + pending_at e.lists behind} (omega arith) ahead.fits)
        (omega arith)
        (list_words atom_word (g.present e.store) (g.present store) e.lists (extent_of e.lists) behind s.list adds.words
        ahead.chain))
        more

    -- frames and words were given up
    module _ {left : Engine S W M}
        (is : left ≡ record e { store = store; steps = e.steps - 1; lists = left.lists })
        (arguments : left.lists ≡ record e.lists { frames = (left.lists).frames; words = (left.lists).words }) where
      pub ready_stays : Stays g (record e { store = store; steps = e.steps - 1 }) left → Stays g e left
      ready_stays stays =
          stays_on g
          (record {
            limit = refl;
            vocabulary = refl;
            names_kept = same_texts grown.names;
            base = λ p stood. grown.marks e.base p stood;
            within = λ within. within;
          })
          stays

      pub ready_names : g.names left.store ≡ g.names e.store
      ready_names = ap (λ (x : Engine S W M). g.names x.store) is ∙ grown.names

      -- the arguments are still those of the goal
      pub ready_put : (name : ℕ) → Holds (g.present store) (atom_word name)
          → (g.present store).term (atom_word name) ≡ Name (text_at (g.names store) name)
          → All (Holds (g.present e.store)) e.lists.arguments.items
          → IsPut atom_word (g.present left.store) left.lists name (goal_put g atom_word e name)
      ready_put name known named hold =
          let put : IsPut atom_word (g.present store) e.lists name (goal_put g atom_word e name) = record {
            hold = words_hold e.lists.arguments.items adds.words hold;
            known = known;
            name = text_at (g.names store) name;
            named = named;
            is = sym (ap₂ (λ (ns : List (List ℕ)) (ts : List Tree). goal_of (text_at ns name) ts) grown.names
                (words_mean e.lists.arguments.items adds.words adds.substitution hold));
          } in
          subst (λ (x : Engine S W M).
          IsPut atom_word (g.present x.store) left.lists name (goal_put g atom_word e name)) (sym is)
          (subst (λ (l : Framed S W M). IsPut atom_word (g.present store) l name (goal_put g atom_word e name))
          (sym arguments)
          (record { hold = put.hold; known = put.known; name = put.name; named = put.named; is = put.is }))

  -- ---- the goal is called

  module _ {old e : Engine S W M} {clause : ℕ} {later : KeyedView} {name : ℕ} {behind : Option Rest}
      (h : IsToCall g atom_word old e clause later name behind) where
    -- the list behind it
    pub go_behind : (s : State) → Represents g (framed atom_word) old s
        → (t : State) × IsAhead g (framed atom_word) e t behind
    go_behind s r = (let a = h.put.at s r in (record a.own { list = a.at.behind }, a.at.ahead))

    -- as it is called, with the step taken
    module _ {mid : Engine S W M}
        (gives : (t : State) → IsAhead g (framed atom_word) e t behind
        → IsAhead g (framed atom_word) mid (record t { steps = e.steps - 1 }) behind)
        (s : State) (r : Represents g (framed atom_word) old s) where
      abbrev at : AtCall g atom_word e (goal_put g atom_word e name) behind 0 s
      at = h.put.at s r

      abbrev taken : State
      taken = record at.own { steps = e.steps - 1 }

      abbrev user : CallsAt (leaves_of g (framed atom_word) e) (at.own).world (goal_put g atom_word e name) clause later
      user = h.calls (at.own).world (at.at).ahead.world

      abbrev tries : State
      tries = tried (goal_put g atom_word e name) (user.first ∷ user.others) (at.at).behind taken

      abbrev value : IsAtValue g (framed atom_word) e (goal_put g atom_word e name) behind at.own
      value = record { term = at.term; mark = at.mark; at = at.at; value = at.value }

      ahead : IsAhead g (framed atom_word) mid (record taken { list = (at.at).behind }) behind
      ahead = gives (record at.own { list = (at.at).behind }) (at.at).ahead

      -- the clause is about to be tried
      pub go_calls : IsPut atom_word (g.present mid.store) mid.lists name (goal_put g atom_word e name)
          → mid.steps ≡ e.steps - 1 → g.names mid.store ≡ g.names e.store → mid.db ≡ e.db
          → CallsPut g atom_word mid clause later name behind taken (goal_put g atom_word e name) user.first user.others
          (at.at).behind
      go_calls put steps names clauses =
          let many = one_less e.steps h.more in
          let all = (at.at).ahead.steps in
          let room = (at.at).ahead.goes.room in
          record {
            ahead = ahead;
            space = omega (arith, room, all, many, steps);
            put = put;
            clauses =
                subst (λ (ns : List (List ℕ)). AreLeft (own_of (framed atom_word)) ns mid.db clause later
                (user.first ∷ user.others)) (sym names)
                (subst (λ (d : Db (EngineClause S W M)). AreLeft (own_of (framed atom_word)) (g.names e.store) d clause
                later (user.first ∷ user.others)) (sym clauses) user.left);
            enter = user.clauses.enter;
          }

      -- ---- what the call comes to

      pub go_went : (new : Engine S W M) → StandsAs g (framed atom_word) new tries → IsAwake (phase_of new.now)
          → Moves g (framed atom_word) move.Goes s new
      go_went new is awake =
          value_called g (framed atom_word) e at.own s (goal_put g atom_word e name) behind at.same value h.more clause
          later user new move.Goes (is, awake)

      pub go_refused : (new : Engine S W M) → WasRefused g (framed atom_word) new taken tries
          → Refused g (framed atom_word) new s
      go_refused new was =
          value_refused g (framed atom_word) e at.own s (goal_put g atom_word e name) behind at.same value h.more clause
          later user new was

      -- no frame and no choice may come
      pub go_full : (new : Engine S W M) → new ≡ mid → IsBeyond g atom_word mid behind
          → Moves g (framed atom_word) (move.Pauses pause.FramesFull) s (record new { now = now.Spent limit.Frames })
          × ComesBeyond new.limit s
      go_full new same beyond =
          let spent : Engine S W M = record mid { now = now.Spent limit.Frames } in
          let left = refuses_here g (framed atom_word) spent at.own s at.same
          (remains_ahead g (framed atom_word) mid (record taken { list = (at.at).behind }) behind ahead) in
          let longer = ap length (at.at).list in
          let comes = comes_beyond g atom_word mid behind (record taken { list = (at.at).behind }) at.own s s beyond
          ahead here at.same (goal_runs at.own (Run at.term) at.mark (at.at).behind (at.at).list) (omega (arith, longer))
          (omega arith) in
          subst (λ (x : Engine S W M).
          Moves g (framed atom_word) (move.Pauses pause.FramesFull) s (record x { now = now.Spent limit.Frames })
          × ComesBeyond x.limit s) (sym same) ((left.stopped, refl), comes)

    -- what is left falls
    pub go_falls : (mid new : Engine S W M) → mid.steps ≡ e.steps - 1
        → kept_cost (framed atom_word) mid ≡ kept_cost (framed atom_word) e
        → cost_at mid.lists behind ≡ cost_at e.lists behind → new.steps ≡ mid.steps
        → cost (framed atom_word) new ≤ kept_cost (framed atom_word) mid + left_cost most (cost_at mid.lists behind)
        + body_cost most (cost_at mid.lists behind)
        → weight (framed atom_word) new < weight (framed atom_word) old
    go_falls mid new taken costs place steps within =
        let less = h.put.less in
        let fewer : cost (framed atom_word) new
        ≤ kept_cost (framed atom_word) e + left_cost most (cost_at e.lists behind)
        + body_cost most (cost_at e.lists behind) =
        subst (λ (n : ℕ). cost (framed atom_word) new ≤ kept_cost (framed atom_word) e + left_cost most n
        + body_cost most n) place
        (subst (λ (n : ℕ). cost (framed atom_word) new ≤ n + left_cost most (cost_at mid.lists behind)
        + body_cost most (cost_at mid.lists behind)) costs within) in
        let falls = falls_called (e.steps - 1) (kept_cost (framed atom_word) e) (cost_at e.lists behind)
        (cost (framed atom_word) old) (cost (framed atom_word) new) (omega (arith, less)) fewer in
        let whole : suc (e.steps - 1) ≡ old.steps = sym (one_less e.steps h.more) ∙ h.put.steps in
        subst (λ (n : ℕ). whole_cost new.steps (cost (framed atom_word) new)
        < whole_cost n (cost (framed atom_word) old)) whole
        (subst (λ (n : ℕ). whole_cost n (cost (framed atom_word) new)
        < whole_cost (suc (e.steps - 1)) (cost (framed atom_word) old)) (sym (steps ∙ taken)) falls)

    -- what trying the clauses comes to, the call comes to
    pub go_for : (mid : Engine S W M)
        → ((t : State) → IsAhead g (framed atom_word) e t behind
        → IsAhead g (framed atom_word) mid (record t { steps = e.steps - 1 }) behind)
        → IsPut atom_word (g.present mid.store) mid.lists name (goal_put g atom_word e name)
        → mid.steps ≡ e.steps - 1 → g.names mid.store ≡ g.names e.store → mid.db ≡ e.db
        → kept_cost (framed atom_word) mid ≡ kept_cost (framed atom_word) e
        → cost_at mid.lists behind ≡ cost_at e.lists behind → Stays g e mid
        → CallsFor g atom_word old mid clause later name behind
    go_for mid gives put steps names clauses costs place stays = record {
      went = λ new by asked. record {
        next = λ s r. go_went gives s r new
            (by.tried _ _ _ _ _ (go_calls gives s r put steps names clauses)) by.awake;
        stopped = λ s r. tt;
        falls = go_falls mid new steps costs place by.steps by.costs;
        full = λ none. absurd (cc);
        stays = stays_on g h.put.stays (stays_on g stays by.stays);
      };
      stopped = λ new reason by.
          came_error g atom_word reason
          (λ s r. go_refused gives s r new (by.kept _ _ _ _ _ (go_calls gives s r put steps names clauses))) by.heap
          (stays_on g h.put.stays (stays_on g stays by.stays));
    }
