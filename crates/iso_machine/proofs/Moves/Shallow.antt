-- A call whose later clauses are a choice that is not pushed yet: with it the engine is as if it had been pushed.
use Rattle.std.proofs.Common.{◌≡◌, ◌≤◌, ◌<◌, ◌+◌, ℕ, List, [], ◌∷◌, ◌++◌, ◌-◌, length, take, map, Option, Some, None, OnErr, Result, Ok, Err, inr, refl, ap, sym, ◌∙◌, subst, arith, Global}
use Rattle.std.specs.declared.rc.Rc.{Rc}
use Rattle.std.specs.List.{slice_get}
use Rattle.std.proofs.lemmas.List.{length-append}
use Rattle.iso_atoms.specs.Texts.{KeepsTexts}
use Rattle.iso_model.specs.Terms.Trees.{Tree}
use Rattle.iso_model.specs.Search.Databases as databases
use Rattle.iso_model.specs.Search.Engines.{IsAwake}
use Rattle.iso_model.specs.Search.Walker.{State, Member, cut_back, tried_clause, with_others}
use Rattle.iso_db.specs.declared.keyed.KeyedView.{KeyedView}
use Rattle.iso_db.specs.Keyed.{remaining_keyed}
use Rattle.iso_db.specs.Databases as held
use Rattle.iso_db.specs.Presents.{GivesKeyed}
use Rattle.iso_program.specs.Leaving.{AreLeft, NextLeft, most_left}
use Rattle.iso_program.specs.Programs.{AreClauses}
use Rattle.iso_store_core.specs.Presents.{Present, KeepsMarks, meaning}
use Rattle.iso_store_core.specs.declared.shapes.StoreFault.{StoreFault}
use Rattle.iso_store_core.specs.declared.shapes.StoreFault.TheVariants as fault
use Rattle.iso_store_core.specs.declared.stores.Store.{Ghosts}
use Rattle.iso_plain_core.specs.Entering as entering
use Rattle.iso_compile.specs.Control.{height}
use Rattle.iso_compile.specs.declared.control.Mark.TheVariants as mark
use Rattle.iso_instructions.specs.declared.instructions.Code.{Code}
use Rattle.iso_instructions.specs.declared.instructions.Instruction.TheVariants as instruction
use Rattle.iso_search_core.specs.Bodies.{body_cost, left_cost, most}
use Rattle.iso_search_core.specs.Costs.{choices_cost, now_cost}
use Rattle.iso_search_core.specs.Own.{own_of}
use Rattle.iso_search_core.specs.Fitting.{FitsState}
use Rattle.iso_search_core.specs.Standing.{BringsBack, GainsChoice, GoesOn}
use Rattle.iso_search_core.specs.declared.choices.Choice.{Choice}
use Rattle.iso_search_core.specs.declared.choices.Attempt.{Attempt}
use Rattle.iso_search_core.specs.declared.choices.Left.TheVariants as left
use Rattle.iso_search_core.specs.declared.nows.Now.{Now}
use Rattle.iso_search_core.specs.declared.nows.Now.TheVariants as now
use Rattle.iso_search_core.proofs.BodyCosts.{view_cost}
use Rattle.iso_search_core.proofs.CostLemmas.{choices_last}
use Rattle.iso_search_core.proofs.StandingLemmas.{choices_length, newest, front_is, keeps_none, last_is, length_last, lower}
use Rattle.iso_frames.specs.Costs.{first_cost}
use Rattle.iso_search.specs.declared.calls.Next.TheVariants as calls
use Rattle.iso_frames.specs.Frames.{Levels}
use Rattle.iso_frames.specs.declared.frames.Rest.{Rest}
use Rattle.iso_frames.specs.declared.frames.Next.{Next}
use Rattle.iso_frames.specs.declared.frames.Next.TheVariants as next
use Rattle.iso_frames.specs.declared.frames.Level.{Level}
use Rattle.iso_frames.specs.declared.frames.Frame.{Frame}
use Rattle.iso_environments.specs.Goals.{goal_of}
use Rattle.iso_environments.specs.Leveled.{IsAtClause}
use Rattle.iso_search.specs.EngineStates.{IsAhead, IsBehind, Remains, Represents, StandsAs, kept_cost, phase_of}
use Rattle.iso_search.specs.Stays.{Stays}
use Rattle.iso_search.proofs.AheadLemmas.{ahead_cut}
use Rattle.iso_search.proofs.BackLemmas.{GoesBack, goes_back}
use Rattle.iso_search.proofs.ChoiceLemmas.{fewer_choices, fewer_next, has, next_of, retries_last, retries_next}
use Rattle.iso_search.proofs.NewestLemmas.{with_left}
use Rattle.iso_search.proofs.Moves.Call.{calls_later}
use Rattle.iso_search.proofs.StoppedLemmas.{base_kept}
use Rattle.iso_search.proofs.WeightLemmas.{gained_cost}
use Rattle.iso_search.proofs.WorldLemmas.{world_on, choices_grown}
use Rattle.iso_machine.specs.declared.framed.Extent.{Extent}
use Rattle.iso_machine.specs.declared.framed.Framed.{Framed}
use Rattle.iso_machine.specs.declared.framed.KeptCall.{KeptCall}
use Rattle.iso_machine.specs.declared.shallow.Unpushed.{Unpushed}
use Rattle.iso_machine.specs.declared.calling.Gone.{Gone}
use Rattle.iso_machine.specs.declared.calling.Gone.TheVariants as gone
use Rattle.iso_machine.specs.Engines.{Engine, EngineClause, framed}
use Rattle.iso_machine.specs.GoalCalls.{CallsPut}
use Rattle.iso_machine.specs.Instructions.{CutsAs, IsInstructionThere}
use Rattle.iso_machine.specs.Came.{CameLast, CameTo, went_on}
use Rattle.iso_machine.specs.LastCalls.{with_frame}
use Rattle.iso_machine.specs.Lists.{IsFor, IsList, as_much, cost_at, extent_of, pending_at}
use Rattle.iso_machine.specs.Unpushed.{CallsFor, Choices, Entering, HasPushed, HasTried, IfPushed, IsBack, IsOpen, KeepsLater, WasStopped, choice_of, with_choices}
use Rattle.iso_machine.proofs.CameLemmas.{came_on}
use Rattle.iso_machine.proofs.Moves.Cut.{below, cut_ahead, cut_at, cut_moved}
use Rattle.iso_machine.proofs.Moves.Went.{came_moved}
use Rattle.iso_machine.proofs.Moves.Kept.{calls_put, kept_behind, kept_calls, kept_costs, put_on}

-- one choice more
pub choices_with : {W M : Type 0} (v : Choices W M) (c : Choice W M Extent (Option Rest) KeptCall)
    → length v.items + 1 < 9223372036854775808 → Choices W M
choices_with v c few =
    let long = length-append v.items (c ∷ []) in
    record {
      ptr = v.ptr;
      len = length v.items + 1;
      cap = length v.items + 1;
      alloc = v.alloc;
      items = v.items ++ c ∷ [];
      ok = (omega (arith, long), omega arith);
      small = few;
    }

pub choices_items : {W M : Type 0} (v : Choices W M) (c : Choice W M Extent (Option Rest) KeptCall)
    (few : length v.items + 1 < 9223372036854775808) → (choices_with v c few).items ≡ v.items ++ c ∷ []
unfolding choices_with
choices_items v c few = refl

module _ {S W M : Type 0} (g : Ghosts S W M) (atom_word : ℕ → W) where
  -- a mark of the store was taken
  pub marked_ahead : (e : Engine S W M) (store : S) → g.present store ≡ g.present e.store
      → KeepsMarks (g.stands e.store) (g.stands store) → KeepsTexts (g.names e.store) (g.names store)
      → (s : State) (place : Option Rest) → IsAhead g (framed atom_word) e s place
      → IsAhead g (framed atom_word) (record e { store = store }) s place
  marked_ahead e store same marks texts s place h = record {
    world = world_on (framed atom_word) texts h.world;
    steps = h.steps;
    base = base_kept g e.store store e.base marks h.base;
    choices = choices_grown (framed atom_word) texts (keeps_none (framed atom_word) e.lists)
        (λ d p among stood. marks d.mark p stood) h.choices;
    room = h.room;
    fits = subst (λ (p : Present W). FitsState g p (pending_at e.lists place) s) (sym same) h.fits;
    goes = subst (λ (p : Present W). GoesOn p e.query.items s) (sym same) h.goes;
    chain = subst (λ (p : Present W). (framed {S = S} {M = M} atom_word).list p e.lists (extent_of e.lists) place s.list)
        (sym same) h.chain;
  }

  -- ---- the choice is made

  module _ (e : Engine S W M) (lists : Framed S W M) (nodes : lists.nodes ≡ e.lists.nodes)
      (frames : lists.frames ≡ e.lists.frames) (arguments : lists.arguments ≡ e.lists.arguments)
      (words : entering.Adds e.lists.words.items lists.words.items) (store : S)
      (present : g.present store ≡ g.present e.store) (marks : KeepsMarks (g.stands e.store) (g.stands store))
      (texts : KeepsTexts (g.names e.store) (g.names store)) where
    module _ (u : Unpushed M) (rests : KeyedView) (rest : Option Rest) (kept_is : u.kept ≡ extent_of lists)
        (stands : g.stands store u.mark (g.present e.store))
        (newer : (m : M) (p : Present W) → g.stands e.store m p → g.older m u.mark)
        (choices : Choices W M) (pushed : HasPushed e u rests rest choices) where
      gains : GainsChoice (g.stands e.store) (g.stands store) g.older (g.present e.store) (extent_of lists) rest
          (left.Clauses (record { clause = u.clause; later = rests; call = u.call })) e.choices.items choices.items
      gains = record {
        mark = u.mark;
        stands = stands;
        newer = newer;
        are = pushed ∙ ap (λ (k : Extent). e.choices.items ++ record {
          mark = u.mark;
          kept = k;
          rest = rest;
          left = left.Clauses (record { clause = u.clause; later = rests; call = u.call });
        } ∷ []) kept_is;
      }

      pub later_calls : (clause : ℕ) (later : KeyedView) (name : ℕ) (s : State) (goal : Tree) (c : databases.Clause)
          (cs : List databases.Clause) (behind : List Member)
          → (t : CallsPut g atom_word e clause later name rest s goal c cs behind)
          → IsFor atom_word (g.present e.store) lists (extent_of lists) u.call
          (goal_of (t.put).name (map (meaning (g.present e.store)) e.lists.arguments.items))
          → AreLeft (own_of (framed atom_word)) (g.names e.store) e.db u.clause rests cs
          → CallsPut g atom_word (record e { store = store; lists = lists; choices = choices }) clause later name rest
          (with_others goal cs behind s) goal c cs behind
      later_calls clause later name s goal c cs behind t is_for next =
          let mid : Engine S W M = record e { lists = lists } in
          calls_put g atom_word (record mid { store = store; choices = choices }) clause later u.call name rest
          (with_others goal cs behind s) goal c cs behind
          (calls_later g (framed atom_word) mid (record { clause = clause; later = later; call = u.call }) rest s goal c
          cs behind store choices u.clause rests (as_much (extent_of lists)) (λ h within. within)
          (kept_calls g atom_word e lists nodes frames words clause later name rest s goal c cs behind u.call t is_for)
          next present marks texts gains)
          (put_on atom_word (g.present e.store) (g.present store) e.lists lists name goal present arguments t.put)

      pub later_costs : remaining_keyed rests ≤ most_left
          → kept_cost (framed atom_word) (record e { store = store; lists = lists; choices = choices })
          ≤ kept_cost (framed atom_word) e + left_cost most (cost_at e.lists rest)
      later_costs few =
          let gained = gained_cost (cost_at lists) gains in
          let costs = kept_costs g atom_word e lists nodes frames words in
          let place = ap (λ (n : ℕ). left_cost most n) (kept_behind g atom_word e lists nodes frames words rest) in
          let later = view_cost (remaining_keyed rests) (cost_at lists rest) few in
          omega (arith, gained, later, costs, place)

  -- ---- the clause cuts at once

  module _ (e : Engine S W M) (store : S) (choices : Choices W M) (c : Choice W M Extent (Option Rest) KeptCall)
      (last : e.choices.items ≡ choices.items ++ c ∷ []) (present : g.present store ≡ g.present e.store)
      (marks : (m : M) (p : Present W) → g.older m c.mark → g.stands e.store m p → g.stands store m p)
      (texts : KeepsTexts (g.names e.store) (g.names store)) where
    pub cuts_last : (s : State) (place : Option Rest) → IsAhead g (framed atom_word) e s place
        → IsAhead g (framed atom_word) (record e { store = store; choices = choices })
        (cut_back (length choices.items) s.list s) place
    cuts_last s place h =
        ahead_cut g (framed atom_word) e s place (length choices.items) store choices c h
        (ap (λ (xs : List _). slice_get xs (length choices.items)) last ∙ last_is choices.items c)
        (sym (ap (λ (xs : List _). take (length choices.items) xs) last ∙ front_is choices.items c)) present marks texts

    abbrev pub cut_engine : Now (Next W) (Option Rest) → Engine S W M
    cut_engine n = record e { store = store; choices = choices; now = n }

    -- what stays as it was
    pub cut_stays : (n : Now (Next W) (Option Rest)) (s : State) → Represents g (framed atom_word) e s
        → Stays g e (cut_engine n)
    cut_stays n s stands =
        let a = framed {S = S} {M = M} atom_word in
        let place = ap (λ (xs : List _). slice_get xs (length choices.items)) last ∙ last_is choices.items c in
        let newer = (lower a (length choices.items) c place stands.engine.choices).newer_base in
        record {
          limit = refl;
          vocabulary = refl;
          names_kept = texts;
          base = λ p stood. marks e.base p newer stood;
          within = λ within. (let many = ap length last in let one = length_last choices.items c in
              omega (arith, within, many, one));
        }

    module _ (r : Rest) (doing : e.now ≡ now.Running (next.Code r))
        (there : IsInstructionThere e.lists.frames.items r (instruction.Cut mark.Clause))
        (as_marked : (f : Frame) (code : Rc Code Global) (level : Option Level) (kept : ℕ → ℕ)
        → IsAtClause e.lists.frames.items r f code level → Levels e.lists.frames.items r.frame level kept
        → CutsAs (length choices.items) (height f.height kept mark.Clause)) where
      abbrev mid : Engine S W M
      mid = record e { store = store; choices = choices }

      as_there : (kept : ℕ → ℕ) → Levels e.lists.frames.items r.frame there.level kept
          → CutsAs (length choices.items) (height (there.frame).height kept mark.Clause)
      as_there kept levels = as_marked there.frame there.code there.level kept there.clause levels

      -- the list behind the cut
      pub cut_list : (s : State) → Represents g (framed atom_word) e s
          → (ms : List Member) × IsList atom_word (g.present store) e.lists (extent_of e.lists)
          (below g atom_word e r doing mark.Clause there) ms
      cut_list s h = (
        (cut_at g atom_word e r doing mark.Clause there s h).behind,
        (cut_ahead g atom_word e r doing mark.Clause there mid (length choices.items) cuts_last as_there s h).chain,
      )

      pub cut_some : (s : State) → Represents g (framed atom_word) e s → 0 < r.address
      cut_some s h = (cut_at g atom_word e r doing mark.Clause there s h).some

      -- it goes on there, without the choice
      pub cut_came : (n : Now (Next W) (Option Rest))
          → ((ms : List Member) → IsList atom_word (g.present store) e.lists (extent_of e.lists)
          (below g atom_word e r doing mark.Clause there) ms
          → IsBehind (framed atom_word) (g.present store) e.lists (below g atom_word e r doing mark.Clause there) n ms)
          → now_cost (λ (x : Next W). first_cost e.lists.frames.items x) n
          ≤ cost_at e.lists (below g atom_word e r doing mark.Clause there)
          → IsAwake (phase_of n) → (first : Engine S W M) (s : State) → Represents g (framed atom_word) e s
          → CameTo g atom_word first (Ok calls.Went) e → CameTo g atom_word first (Ok calls.Went) (cut_engine n)
      cut_came n comes less awake first s stands came asked =
          let a = framed {S = S} {M = M} atom_word in
          let more = ap (λ (xs : List _). choices_cost (cost_at e.lists) xs) last in
          let split = choices_last (cost_at e.lists) choices.items c in
          let fewer : kept_cost a mid ≤ kept_cost a e = omega (arith, more, split) in
          came_on g atom_word (Ok calls.Went) came
          (came_moved g atom_word
          (cut_moved g atom_word e r doing mark.Clause there mid (length choices.items) cuts_last as_there refl fewer n
          comes less awake (cut_stays n s stands) s stands) asked)

  -- ---- the clause was tried

  module _ (old kept new : Engine S W M) (clause : ℕ) (later rests : KeyedView) (name : ℕ) (rest : Option Rest)
      (u : Unpushed M) (keeps : KeepsLater g atom_word old kept later rests name rest u) (count : ℕ)
      (many : count ≡ length old.choices.items) (result : Result Gone StoreFault)
      (over : (choices : Choices W M)
      → Entering g atom_word (with_choices kept choices) (with_choices new choices) clause name rest count result)
      (stays : Stays g old new) (room : length old.choices.items < old.limit) where
    with_stays : (choices : Choices W M) → HasPushed old u rests rest choices → Stays g old (with_choices new choices)
    with_stays choices pushed = record {
      limit = stays.limit;
      vocabulary = stays.vocabulary;
      names_kept = stays.names_kept;
      base = stays.base;
      within = λ within. (let all = ap length pushed in
          let one = length_last old.choices.items (choice_of u rests rest) in
          let limit = stays.limit in
          omega (arith, all, one, room, limit));
    }

    pub has_tried : (same : cost_at kept.lists rest ≡ cost_at old.lists rest) → IsAwake (phase_of new.now)
        → new.steps ≡ old.steps → result ≡ Ok gone.Went → (s : State) (goal : Tree) (c : databases.Clause)
        (cs : List databases.Clause) (behind : List Member)
        → CallsPut g atom_word old clause later name rest s goal c cs behind
        → (choices : Choices W M) → HasPushed old u rests rest choices
        → HasTried g atom_word old (with_choices new choices) clause later name rest
    has_tried same awake steps went s goal c cs behind calls choices pushed = record {
      tried = λ t call k ks gs again.
          (let height : count ≡ length t.stack = many ∙ choices_length (framed atom_word) again.ahead.choices in
          subst (λ (n : ℕ). StandsAs g (framed atom_word) (with_choices new choices)
          (tried_clause call k n gs (with_others call ks gs t))) height
          ((over choices).tried (with_others call ks gs t) call k ks gs later
          (keeps.calls choices pushed clause t call k ks gs again) went));
      awake = awake;
      steps = steps;
      costs =
          (let whole = (over choices).costs (with_others goal cs behind s) goal c cs behind later
          (keeps.calls choices pushed clause s goal c cs behind calls) went in
          let first = keeps.costs choices pushed in
          let body = ap (λ (n : ℕ). body_cost most n) same in
          omega (arith, whole, first, body));
      stays = with_stays choices pushed;
    }

    pub was_stopped : (reason : StoreFault) → result ≡ Err reason → (reason ≡ fault.Full → g.full new.store)
        → (choices : Choices W M) → HasPushed old u rests rest choices
        → WasStopped g atom_word old (with_choices new choices) clause later name rest reason
    was_stopped reason is heap choices pushed = record {
      kept = λ t call k ks gs again.
          (let height : count ≡ length t.stack = many ∙ choices_length (framed atom_word) again.ahead.choices in
          let on = (over choices).kept (with_others call ks gs t) call k ks gs later
          (keeps.calls choices pushed clause t call k ks gs again) in
          inr (subst (λ (n : ℕ). Remains g (framed atom_word) (with_choices new choices)
          (tried_clause call k n gs (with_others call ks gs t))) height
          (subst (λ (r : Result Gone StoreFault). OnErr r (Remains g (framed atom_word) (with_choices new choices)
          (tried_clause call k count gs (with_others call ks gs t)))) is on)));
      heap = heap;
      stays = with_stays choices pushed;
    }

  -- ---- the next clause comes

  -- with the choice that isn't pushed
  module _ (e : Engine S W M) (u : Unpushed M) (later : KeyedView) (rest : Option Rest) (choices : Choices W M)
      (pushed : HasPushed e u later rest choices) where
    abbrev whole : Engine S W M
    whole = with_choices e choices

    abbrev choice : Choice W M Extent (Option Rest) KeptCall
    choice = choice_of u later rest

    abbrev attempt : Attempt KeptCall
    attempt = record { clause = u.clause; later = later; call = u.call }

    many_pushed : length choices.items ≡ length e.choices.items + 1
    many_pushed = ap length pushed ∙ length_last e.choices.items choice

    some_pushed : 0 < length choices.items
    some_pushed = (let many = many_pushed in omega (arith, many))

    newest_pushed : slice_get choices.items (length choices.items - 1) ≡ Some choice
    newest_pushed =
        let many = many_pushed in
        let place : length choices.items - 1 ≡ length e.choices.items = omega (arith, many) in
        ap (λ (n : ℕ). slice_get choices.items n) place
        ∙ (ap (λ (xs : List _). slice_get xs (length e.choices.items)) pushed ∙ last_is e.choices.items choice)

    front_pushed : take (length choices.items - 1) choices.items ≡ e.choices.items
    front_pushed =
        let many = many_pushed in
        let place : length choices.items - 1 ≡ length e.choices.items = omega (arith, many) in
        ap (λ (n : ℕ). take n choices.items) place
        ∙ (ap (λ (xs : List _). take (length e.choices.items) xs) pushed ∙ front_is e.choices.items choice)

    -- its mark stands
    pub mark_stands : (s : State) → Represents g (framed atom_word) whole s → (p : Present W) × g.stands e.store u.mark p
    mark_stands s r =
        let n = newest (framed {S = S} {M = M} atom_word) choice newest_pushed r.engine.choices in
        (n.here.present, n.here.mark)

    pub extent_within : (s : State) → Represents g (framed atom_word) whole s
        → (framed {S = S} {M = M} atom_word).within e.lists u.kept
    extent_within s r = (newest (framed {S = S} {M = M} atom_word) choice newest_pushed r.engine.choices).within

    pub gives_left : (s : State) → Represents g (framed atom_word) whole s
        → (ks : List (held.Clause (EngineClause S W M))) × GivesKeyed e.db later ks
    gives_left s r =
        let n = newest (framed {S = S} {M = M} atom_word) choice newest_pushed r.engine.choices in
        (n.here.has.are.behind, n.here.has.are.gives)

    -- the engine goes back to it
    module _ (doing : e.now ≡ now.Failing) (store : S) (lists : Framed S W M)
        (present : (p : Present W) → g.stands e.store u.mark p → g.present store ≡ p)
        (stands : (p : Present W) → g.stands e.store u.mark p → g.stands store u.mark p)
        (marks : (m : M) (p : Present W) → g.older m u.mark → g.stands e.store m p → g.stands store m p)
        (texts : KeepsTexts (g.names e.store) (g.names store))
        (brings : BringsBack (framed {S = S} {M = M} atom_word) u.kept e.lists lists)
        (extent : extent_of lists ≡ u.kept) where
      abbrev back : Engine S W M
      back = record whole { store = store; lists = lists }

      went : (s : State) (r : Represents g (framed atom_word) whole s)
          → GoesBack g (framed atom_word) whole store lists choice r.own
      went s r =
          goes_back g (framed atom_word) whole store lists choice r.own r.engine newest_pushed some_pushed present stands
          marks texts brings extent (as_much u.kept)

      -- so many choices are below it
      below_it : (s : State) (r : Represents g (framed atom_word) whole s)
          → length e.choices.items ≡ length (went s r).below
      below_it s r =
          let many = many_pushed in
          let all = choices_length (framed atom_word) r.engine.choices in
          let stack = ap length (went s r).is in
          omega (arith, many, all, stack)

      back_stays : (s : State) (r : Represents g (framed atom_word) whole s) (new : Engine S W M)
          → new.limit ≡ e.limit → new.vocabulary ≡ e.vocabulary → new.base ≡ e.base
          → KeepsTexts (g.names store) (g.names new.store)
          → ((m : M) (p : Present W) → g.older m u.mark → g.stands store m p → g.stands new.store m p)
          → length new.choices.items ≤ length choices.items → Stays g whole new
      back_stays s r new limit vocabulary base names older fewer =
          let n = newest (framed {S = S} {M = M} atom_word) choice newest_pushed r.engine.choices in
          record {
            limit = limit;
            vocabulary = vocabulary;
            names_kept = λ place text there. names place text (texts place text there);
            base = λ p stood.
                subst (λ (m : M). g.stands new.store m p) (sym base)
                (older e.base p n.here.newer (marks e.base p n.here.newer stood));
            within = λ within. omega (arith, within, fewer, limit);
          }

      abbrev Gives : Option ℕ → KeyedView → Type 0
      Gives next rests = (names : List (List ℕ)) (ks : List (held.Clause (EngineClause S W M)))
          (cs : List databases.Clause) → GivesKeyed e.db later ks
          → AreClauses (own_of (framed {S = S} {M = M} atom_word)) names ks cs → remaining_keyed later ≤ most_left
          → NextLeft (AreLeft (own_of (framed {S = S} {M = M} atom_word)) names e.db) next rests cs

      -- a clause is left behind the next one
      pub back_next : (next : ℕ) (rests : KeyedView) → Gives (Some next) rests
          → remaining_keyed rests < remaining_keyed later → (others : Choices W M)
          → HasPushed e (record u { clause = next }) rests rest others → (s : State)
          → Represents g (framed atom_word) whole s
          → IsBack g atom_word whole (with_choices back others) attempt rest (length e.choices.items)
      back_next next rests gives fewer others again s r =
          let l = framed {S = S} {M = M} atom_word in
          let made : others.items ≡ take (length choices.items - 1) choices.items
          ++ with_left choice (left.Clauses (next_of attempt next rests)) ∷ [] =
          again ∙ ap (λ (xs : List _). xs ++ with_left choice (left.Clauses (next_of attempt next rests)) ∷ [])
          (sym front_pushed) in
          record {
            failing = doing;
            again = λ t q.
                (let w = went t q in
                let has = has g l back choice attempt q.own w.alternative w.below w.went refl in
                record {
                  alternative = w.alternative;
                  below = w.below;
                  stack = w.is;
                  retries =
                      retries_next g l back choice attempt q.own w.alternative w.below w.went refl next rests others
                      (λ k within. within)
                      (gives (g.names store) has.are.behind has.are.others has.are.gives has.are.are has.are.few) made;
                  height = below_it t q;
                });
            steps = refl;
            less =
                (let w = went s r in
                let one = fewer_next (cost_at lists) e.choices.items choice attempt refl next rests fewer in
                let new = ap (λ (xs : List _). choices_cost (cost_at lists) xs) again in
                let old = ap (λ (xs : List _). choices_cost (cost_at lists) xs) pushed in
                let costs = w.costs in
                omega (arith, one, new, old, costs));
            stays =
                (let many = ap length again in
                let one = length_last e.choices.items (choice_of (record u { clause = next }) rests rest) in
                let all = many_pushed in
                back_stays s r (with_choices back others) refl refl refl (λ place text there. there)
                (λ m p older stood. stood) (omega (arith, many, one, all)));
          }

      -- none is, and the mark was forgotten
      pub back_last : (rests : KeyedView) → Gives None rests → (forgotten : S)
          → g.present forgotten ≡ g.present store
          → ((m : M) (p : Present W) → g.older m u.mark → g.stands store m p → g.stands forgotten m p)
          → KeepsTexts (g.names store) (g.names forgotten) → (s : State) → Represents g (framed atom_word) whole s
          → IsBack g atom_word whole (record e { store = forgotten; lists = lists }) attempt rest
          (length e.choices.items)
      back_last rests gives forgotten same older names s r =
          let l = framed {S = S} {M = M} atom_word in
          record {
            failing = doing;
            again = λ t q.
                (let w = went t q in
                let has = has g l back choice attempt q.own w.alternative w.below w.went refl in
                record {
                  alternative = w.alternative;
                  below = w.below;
                  stack = w.is;
                  retries =
                      retries_last g l back choice attempt q.own w.alternative w.below w.went refl forgotten e.choices
                      (gives (g.names store) has.are.behind has.are.others has.are.gives has.are.are has.are.few) same
                      older names (sym front_pushed);
                  height = below_it t q;
                });
            steps = refl;
            less =
                (let w = went s r in
                let one = fewer_choices (cost_at lists) e.choices.items choice attempt refl in
                let old = ap (λ (xs : List _). choices_cost (cost_at lists) xs) pushed in
                let costs = w.costs in
                omega (arith, one, old, costs));
            stays =
                (let all = many_pushed in
                back_stays s r (record e { store = forgotten; lists = lists }) refl refl refl names older
                (omega (arith, all)));
          }

  -- ---- room was made for the choice

  module _ (e : Engine S W M) (choices : Choices W M) (items : choices.items ≡ e.choices.items) where
    pub reserved_calls : (clause : ℕ) (later : KeyedView) (name : ℕ) (rest : Option Rest) (s : State) (goal : Tree)
        (c : databases.Clause) (cs : List databases.Clause) (behind : List Member)
        → CallsPut g atom_word e clause later name rest s goal c cs behind
        → CallsPut g atom_word (with_choices e choices) clause later name rest s goal c cs behind
    reserved_calls clause later name rest s goal c cs behind t =
        let a = t.ahead in
        record {
          ahead = record {
            world = a.world;
            steps = a.steps;
            base = a.base;
            choices = rw items a.choices;
            room = a.room;
            fits = a.fits;
            goes = a.goes;
            chain = a.chain;
          };
          space = t.space;
          put = t.put;
          clauses = t.clauses;
          enter = t.enter;
        }

    reserved_stays : (new : Engine S W M) → Stays g (with_choices e choices) new → Stays g e new
    reserved_stays new stays = record {
      limit = stays.limit;
      vocabulary = stays.vocabulary;
      names_kept = stays.names_kept;
      base = stays.base;
      within = λ within. stays.within (let many = ap length items in omega (arith, within, many));
    }

    pub reserved_for : (first : Engine S W M) (clause : ℕ) (later : KeyedView) (name : ℕ) (rest : Option Rest)
        → CallsFor g atom_word first e clause later name rest
        → CallsFor g atom_word first (with_choices e choices) clause later name rest
    reserved_for first clause later name rest goes = record {
      went = λ new h. goes.went new
          (record {
            tried = λ s goal c cs behind t.
                h.tried s goal c cs behind (reserved_calls clause later name rest s goal c cs behind t);
            awake = h.awake;
            steps = h.steps;
            costs =
                (let same = ap (λ (xs : List _). choices_cost (cost_at e.lists) xs) items in
                let costs = h.costs in
                omega (arith, costs, same));
            stays = reserved_stays new h.stays;
          });
      stopped = λ new reason h. goes.stopped new reason
          (record {
            kept = λ s goal c cs behind t.
                h.kept s goal c cs behind (reserved_calls clause later name rest s goal c cs behind t);
            heap = h.heap;
            stays = reserved_stays new h.stays;
          });
    }

  -- ---- the choice is not pushed yet, and moves go on

  module _ (start e : Engine S W M) (before u : Unpushed M) (began later : KeyedView) (rest : Option Rest)
      (opened : IsOpen g atom_word start e before u began later rest) where
    -- what comes behind it comes behind the beginning
    pub open_end : {T : Type 0} (choices : Choices W M) → HasPushed e u later rest choices
        → (done : Result T StoreFault) → (new : Engine S W M)
        → CameTo g atom_word (with_choices e choices) (went_on done) new → (first : Engine S W M)
        → IfPushed start before began rest (CameTo g atom_word first (Ok calls.Went))
        → CameTo g atom_word first (went_on done) new
    open_end choices pushed (Ok t) new came first begin asked =
        came_on g atom_word (Ok calls.Went) (opened.behind first begin choices pushed) (came asked)
    open_end choices pushed (Err reason) new came first begin asked =
        came_on g atom_word (Err reason) (opened.behind first begin choices pushed) (came asked)

    pub open_last : (choices : Choices W M) → HasPushed e u later rest choices → (done : Result Gone StoreFault)
        → (new : Engine S W M) (clause : ℕ) (place : Option Rest)
        → CameLast g atom_word (with_choices e choices) done new clause place → (first : Engine S W M)
        → IfPushed start before began rest (CameTo g atom_word first (Ok calls.Went))
        → CameLast g atom_word first done new clause place
    open_last choices pushed (Ok gone.Went) new clause place came first begin =
        open_end {T = ℕ} choices pushed (Ok 0) new came first begin
    open_last choices pushed (Ok gone.Full) new clause place came first begin =
        λ asked. came_on g atom_word (Ok calls.Full) (opened.behind first begin choices pushed) (came asked)
    open_last choices pushed (Ok gone.Last) new clause place came first begin = record {
      frames = came.frames;
      rest = came.rest;
      unframed = came.unframed;
      says = open_end {T = ℕ} choices pushed (Ok 0) (with_frame new came.frames came.rest) came.says first begin;
    }
    open_last choices pushed (Err reason) new clause place came first begin =
        open_end {T = ℕ} choices pushed (Err reason) new came first begin

    module _ (first : Engine S W M) (s : State) (r : Represents g (framed atom_word) first s)
        (begin : IfPushed start before began rest (CameTo g atom_word first (Ok calls.Went))) where
      -- it represents a state
      pub open_stands : (choices : Choices W M) → HasPushed e u later rest choices
          → (t : State) × Represents g (framed atom_word) (with_choices e choices) t
      open_stands choices pushed =
          let on = (opened.behind first begin choices pushed None).next s r in
          (on.0, on.2)

      -- a move for which it is no matter which choices stand
      pub open_step : (new : Engine S W M) → new.choices ≡ e.choices → new.steps ≤ e.steps
          → ((choices : Choices W M) (t : State) → HasPushed e u later rest choices
          → Represents g (framed atom_word) (with_choices e choices) t → CameTo g atom_word (with_choices e choices) (Ok calls.Went) (with_choices new choices))
          → IsOpen g atom_word start new before u began later rest
      open_step new same fewer moves = record {
        same = same ∙ opened.same;
        steps = (let few = opened.steps in omega (arith, few, fewer));
        behind = λ from begun choices pushed.
            (let pushed_old : HasPushed e u later rest choices =
            pushed ∙ ap (λ (v : Choices W M). v.items ++ choice_of u later rest ∷ []) same in
            let t = open_stands choices pushed_old in
            open_end {T = ℕ} choices pushed_old (Ok 0) (with_choices new choices) (moves choices t.0 pushed_old t.1) from begun);
      }

      -- a move that changes the choice which isn't pushed
      pub open_on : (choices : Choices W M) → HasPushed e u later rest choices → (new : Engine S W M) (v : Unpushed M)
          (rests : KeyedView) → new.choices ≡ e.choices → new.steps ≤ e.steps
          → ((others : Choices W M) → HasPushed new v rests rest others
          → CameTo g atom_word (with_choices e choices) (Ok calls.Went) (with_choices new others))
          → IsOpen g atom_word start new before v began rests rest
      open_on choices pushed new v rests same fewer moves = record {
        same = same ∙ opened.same;
        steps = (let few = opened.steps in omega (arith, few, fewer));
        behind = λ from begun others again.
            open_end {T = ℕ} choices pushed (Ok 0) (with_choices new others) (moves others again) from begun;
      }
