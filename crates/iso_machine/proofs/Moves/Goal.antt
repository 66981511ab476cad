-- Goals that come first, by words and by words for their arguments: what is put, shown, and called.
use Rattle.std.proofs.Common.{◌≡◌, ◌≢◌, ◌≤◌, ◌<◌, ◌+◌, ℕ, List, ◌∷◌, length, map, Option, Some, true, refl, ap, ap₂, sym, ◌∙◌, subst, arith, Vec, Global}
use Rattle.iso_atoms.specs.Texts.{text_at}
use Rattle.iso_model.specs.Terms.Trees.{Tree}
use Rattle.iso_model.specs.Terms.Sorts.{is_term}
use Rattle.iso_model.specs.Terms.Substitutions.{Subst, apply}
use Rattle.iso_model.specs.Search.Bodies.{Run}
use Rattle.iso_model.specs.Search.RunLaws.Sameness.{Same}
use Rattle.iso_model.specs.Search.Walker.{State, World, Member, Goal}
use Rattle.iso_model.proofs.Search.RunLaws.Opening.{opened}
use Rattle.iso_model.proofs.Search.RunLaws.Likeness.{alike_on, opened_alike}
use Rattle.iso_db.specs.declared.keyed.KeyedView.{KeyedView}
use Rattle.iso_store_core.specs.ArgumentWords.{AreArguments}
use Rattle.iso_store_core.specs.Presents.{Grows, KeepsNumbers, Makes, meaning}
use Rattle.iso_store_core.specs.Retaining.{CountsCells, RetainsAll}
use Rattle.iso_store_core.specs.declared.stores.Store.{Ghosts}
use Rattle.iso_writing.specs.Writing.{Adds}
use Rattle.iso_search_core.specs.Costs.{now_cost, now_pending}
use Rattle.iso_search_core.specs.Replies.{HasName}
use Rattle.iso_search_core.specs.declared.nows.Now.{Now}
use Rattle.iso_search_core.specs.declared.nows.Now.TheVariants as now
use Rattle.iso_search_core.proofs.FittingLemmas.{fits_fewer}
use Rattle.iso_frames.specs.declared.frames.Rest.{Rest}
use Rattle.iso_frames.specs.declared.frames.Next.{Next}
use Rattle.iso_frames.specs.declared.frames.Next.TheVariants as next
use Rattle.iso_frames.specs.Frames.{Chain, Calls}
use Rattle.iso_frames.specs.Costs.{compound_cells, first_cost, first_pending}
use Rattle.iso_environments.specs.Goals.{goal_of}
use Rattle.iso_environments.proofs.GoalLemmas.{goal_means}
use Rattle.iso_environments.specs.Stacked.{Stacked}
use Rattle.iso_environments.specs.Putting.{HasPut, IsBehind, IsCallThere, arguments_cells}
use Rattle.iso_environments.specs.declared.putting.Put.{Put}
use Rattle.iso_search.specs.Called.{CallsAt}
use Rattle.iso_search.specs.EngineStates.{IsEngine, Represents, Refused, kept_cost, leaves_of}
use Rattle.iso_search.specs.Nexts.{IsAtGoal, IsGoalFirst}
use Rattle.iso_search.specs.Worlds.{IsWorld}
use Rattle.iso_search.proofs.AheadLemmas.{ahead_grown, engine_next, goes_with, keeps_ahead}
use Rattle.iso_search.proofs.EndLemmas.{next_is}
use Rattle.iso_search.proofs.LimitLemmas.{stays_next, stays_on}
use Rattle.iso_search.proofs.Moves.Search.{refuses_here}
use Rattle.iso_search.proofs.SameBodies.{around_own, same_first}
use Rattle.iso_search.proofs.StoppedLemmas.{keeps_all, keeps_lists, remains_all}
use Rattle.iso_machine.specs.declared.framed.Framed.{Framed}
use Rattle.iso_machine.specs.Engines.{Engine, framed}
use Rattle.iso_machine.specs.GoalCalls.{IsCallPut, IsShown, IsToCall, goal_put}
use Rattle.iso_machine.specs.Lists.{KeepsFrames, extent_of, list_words, pending_at, stack_of}
use Rattle.iso_machine.proofs.AddedLemmas.{IsGrown, ahead_added, fits_grown, remains_grown, stays_grown, weight_less}
use Rattle.iso_machine.proofs.FrameLemmas.{adds_keeps, adds_same, stacked_same}
use Rattle.iso_machine.specs.Wholes.{whole_chain, whole_list}
use Rattle.iso_machine.proofs.GoalTerms.{goal_few, goal_named, put_few}
use Rattle.iso_machine.proofs.Moves.Instruction.{code_ahead}

module _ {S W M : Type 0} (g : Ghosts S W M) (atom_word : ℕ → W) where
  -- lists whose nodes, frames and words are the same
  pub same_keeps : (old new : Framed S W M) → new.nodes ≡ old.nodes → new.frames ≡ old.frames → new.words ≡ old.words
      → KeepsFrames atom_word (λ j. Unit {0}) old new
  same_keeps old new nodes frames words =
      adds_keeps atom_word old new (adds_same nodes) (adds_same frames) (stacked_same words)

  -- ---- a goal that a word stands for

  -- a word that comes first is a goal
  pub word_at : (e : Engine S W M) (s : State) (word : W) (place : Option Rest)
      → e.now ≡ now.Running (next.Goal word place) → IsEngine g (framed atom_word) e s
      → IsAtGoal g (framed atom_word) e word place s
  word_at e s word place doing is =
      let p = g.present e.store in
      let first = next_is g (framed atom_word) e s (now.Running (next.Goal word place)) doing is in
      let goal : Calls atom_word p (stack_of e.lists) word place s.list = first.0 in
      let pending = ap (now_pending (λ (n : Next W). first_pending e.lists.frames.items n)) doing in
      record {
        term = goal.goal;
        mark = goal.mark;
        at = record {
          behind = goal.behind;
          list = goal.is;
          ahead = record {
            world = is.world;
            steps = is.steps;
            base = is.base;
            choices = is.choices;
            room = is.room;
            fits = fits_fewer g p s {few = pending_at e.lists place} (omega (arith, pending)) is.fits;
            goes = goes_with goal.behind s.stack first.1;
            chain = whole_list atom_word e.lists goal.chain;
          };
        };
        holds = goal.stands.0;
        value = ap₂ (λ (r : Subst) (t : Tree). apply r t) (sym first.1.subst) goal.stands.1;
      }

  pub word_first : (e : Engine S W M) (word : W) (place : Option Rest)
      → e.now ≡ now.Running (next.Goal word place) → IsGoalFirst g (framed atom_word) e word place
  word_first e word place doing = record {
    first = next.Goal word place;
    running = doing;
    at = λ s is. word_at e s word place doing is;
    less = omega arith;
  }

  -- the arguments of a goal were read, which a word stands for
  pub word_put : (e : Engine S W M) (word : W) (behind : Option Rest) (arguments : Stacked W)
      (made : Vec W Global) (name : ℕ)
      → IsGoalFirst g (framed atom_word) e word behind
      → AreArguments (g.present e.store) arguments.items (meaning (g.present e.store) word)
      → is_term (meaning (g.present e.store) word) ≡ true → name < length (g.names e.store)
      → HasName (text_at (g.names e.store) name) (meaning (g.present e.store) word)
      → IsCallPut g atom_word e (record e { lists = record e.lists { arguments = arguments; made = made } }) name behind 0
  word_put e word behind arguments made name first are fits there named =
      let p = g.present e.store in
      let more : Framed S W M = record e.lists { arguments = arguments; made = made } in
      let value = goal_named p arguments.items (meaning p word) (text_at (g.names e.store) name) named fits are in
      record {
        at = λ s r.
            (let a = first.at r.own r.engine in
            record {
              own = r.own;
              same = r.same;
              term = a.term;
              mark = a.mark;
              at = record {
                behind = a.at.behind;
                list = a.at.list;
                ahead =
                    ahead_grown g (framed atom_word) e (record r.own { list = a.at.behind }) behind behind more
                    a.at.behind a.at.ahead (same_keeps e.lists more refl refl refl) a.at.ahead.chain (omega arith);
              };
              value = a.value ∙ value;
              fits = fits_fewer g p r.own {few = 0 + pending_at e.lists behind} (omega arith) a.at.ahead.fits;
            });
        there = there;
        few = goal_few p arguments.items (meaning p word) (text_at (g.names e.store) name) named fits are;
        hold = are.hold;
        steps = refl;
        less =
            (let doing = ap (λ (n : Now (Next W) (Option Rest)). kept_cost (framed atom_word) e
            + now_cost (λ (x : Next W). first_cost e.lists.frames.items x) n) first.running in
            let cheaper = first.less in
            omega (arith, doing, cheaper));
        stays = record {
          limit = refl;
          vocabulary = refl;
          names_kept = λ place text h. h;
          base = λ q stood. stood;
          within = λ within. within;
        };
      }

  -- and it is called
  pub word_called : (e : Engine S W M) (word : W) (behind : Option Rest) (arguments : Stacked W)
      (made : Vec W Global) (name clause : ℕ)
      (later : KeyedView) → IsGoalFirst g (framed atom_word) e word behind
      → AreArguments (g.present e.store) arguments.items (meaning (g.present e.store) word)
      → is_term (meaning (g.present e.store) word) ≡ true → name < length (g.names e.store)
      → HasName (text_at (g.names e.store) name) (meaning (g.present e.store) word) → e.steps ≢ 0
      → ((w : World) → IsWorld g (framed atom_word) e w
      → CallsAt (leaves_of g (framed atom_word) e) w (meaning (g.present e.store) word) clause later)
      → IsToCall g atom_word e (record e { lists = record e.lists { arguments = arguments; made = made } }) clause later name behind
  word_called e word behind arguments made name clause later first are fits there named more calls = record {
    put = word_put e word behind arguments made name first are fits there named;
    more = more;
    calls = λ w is. subst (λ (t : Tree). CallsAt (leaves_of g (framed atom_word) e) w t clause later)
        (goal_named (g.present e.store) arguments.items (meaning (g.present e.store) word)
        (text_at (g.names e.store) name) named fits are) (calls w is);
  }

  -- reading them was refused
  pub word_refused : (e : Engine S W M) (arguments : Stacked W) (made : Vec W Global) (s : State)
      → Represents g (framed atom_word) e s
      → Refused g (framed atom_word) (record e { lists = record e.lists { arguments = arguments; made = made } }) s
  word_refused e arguments made s r =
      let more : Framed S W M = record e.lists { arguments = arguments; made = made } in
      let left = remains_all g (framed atom_word) e r.own r.engine in
      refuses_here g (framed atom_word) (record e { lists = more }) r.own s r.same (
        keeps_lists g (framed atom_word) e more (r.own).world (r.own).stack left.0
            (same_keeps e.lists more refl refl refl),
        left.1,
      )

  -- ---- the arguments of a goal were put, at the instruction that calls it

  -- the list that begins there
  pub at_code : (e : Engine S W M) (rest : Rest) → e.now ≡ now.Running (next.Code rest) → {s : State}
      (r : Represents g (framed atom_word) e s)
      → Chain atom_word (g.present e.store) (stack_of e.lists) (Some rest) (r.own).list
  at_code e rest doing r = (next_is g (framed atom_word) e r.own (now.Running (next.Code rest)) doing r.engine).0.0

  module _ (e : Engine S W M) (rest : Rest) (doing : e.now ≡ now.Running (next.Code rest))
      (there : IsCallThere e.lists.frames.items rest) (store : S) (compounds : Vec W Global)
      (arguments : Stacked W) (made : Vec W Global) where
    abbrev more : Framed S W M
    more = record e.lists { compounds = compounds; arguments = arguments; made = made }

    pub put_grown : RetainsAll g e.store store
        → (CountsCells g → Grows (g.present e.store) (g.present store) (arguments_cells there.0) 0)
        → IsGrown g (framed atom_word) e store more (arguments_cells there.0)
    put_grown retains cells = record {
      names = retains.names;
      marks = retains.marks;
      lists = same_keeps e.lists more refl refl refl;
      cells = cells;
    }

    module _ (grown : IsGrown g (framed atom_word) e store more (arguments_cells there.0)) where
      -- they were refused
      pub put_refused : (s : State) → Represents g (framed atom_word) e s
          → arguments_cells there.0 ≤ pending_at e.lists (Some rest)
          → Refused g (framed atom_word) (record e { store = store; lists = more }) s
      put_refused s r room =
          let ahead = code_ahead g atom_word e r.own rest doing r.engine in
          refuses_here g (framed atom_word) (record e { store = store; lists = more }) r.own s r.same
          (remains_grown g (framed atom_word) grown r.own (keeps_all g (framed atom_word) e r.own r.engine)
          (fits_fewer g (g.present e.store) r.own room ahead.fits))

      pub put_call : (put : Put) → Adds (g.present e.store) (g.present store)
          → ((all : List Member) → Chain atom_word (g.present e.store) (stack_of e.lists) (Some rest) all
          → HasPut atom_word (g.names e.store) (g.present store) (stack_of e.lists) put arguments.items all)
          → IsBehind e.lists.frames.items rest there.0 (length arguments.items) put.behind
          → (s : State) → Represents g (framed atom_word) e s
          → IsCallPut g atom_word e (record e { store = store; lists = more }) put.name put.behind
          (compound_cells (length arguments.items))
      put_call put adds puts places t stands =
          let p = g.present e.store in
          let q = g.present store in
          let within = places.pending in
          let list = at_code e rest doing stands in
          let has = puts (stands.own).list list in
          record {
            at = λ s r.
                (let h = puts (r.own).list (at_code e rest doing r) in
                let ahead = code_ahead g atom_word e r.own rest doing r.engine in
                record {
                  own = opened r.own;
                  same = opened_alike r.own s r.same;
                  term = h.term;
                  mark = h.mark;
                  at = record {
                    behind = h.behind;
                    list = h.is;
                    ahead =
                        ahead_added g (framed atom_word) grown r.own (Some rest) put.behind
                        (pending_at e.lists put.behind) h.behind ahead adds
                        (fits_fewer g p r.own
                        {few = arguments_cells there.0 + pending_at e.lists put.behind} (omega (arith, within))
                        ahead.fits)
                        (omega arith) (whole_list atom_word more h.list);
                  };
                  value =
                      ap (λ (x : Subst). apply x h.term) (sym (adds.substitution ∙ ahead.goes.subst))
                      ∙ (h.value ∙ ap (λ (ns : List (List ℕ)). goal_of (text_at ns put.name)
                      (map (meaning q) arguments.items)) (sym grown.names));
                  fits =
                      fits_grown g (framed atom_word) grown r.own
                      (compound_cells (length arguments.items) + pending_at e.lists put.behind)
                      (fits_fewer g p r.own
                      {few = arguments_cells there.0
                      + (compound_cells (length arguments.items) + pending_at e.lists put.behind)}
                      (omega (arith, within)) ahead.fits);
                });
            there = subst (λ (ns : List (List ℕ)). put.name < length ns) (sym grown.names) has.name;
            few = put_few atom_word list there has;
            hold = has.hold;
            steps = refl;
            less =
                (let here = ap (λ (n : Now (Next W) (Option Rest)). kept_cost (framed atom_word) e
                + now_cost (λ (x : Next W). first_cost e.lists.frames.items x) n) doing in
                let cheaper = places.cost in
                omega (arith, here, cheaper));
            stays = stays_grown g (framed atom_word) grown;
          }

  -- ---- the goal whose arguments were put is shown as a word

  module _ {old e : Engine S W M} {name : ℕ} {behind : Option Rest} {room : ℕ}
      (put : IsCallPut g atom_word old e name behind room) {store : S}
      (grown : IsGrown g (framed atom_word) e store e.lists room) where
    -- the store refused its word
    pub show_refused : (s : State) → Represents g (framed atom_word) old s
        → Refused g (framed atom_word) (record e { store = store }) s
    show_refused s r =
        let a = put.at s r in
        refuses_here g (framed atom_word) (record e { store = store }) a.own s a.same
        (remains_grown g (framed atom_word) grown a.own
        (keeps_ahead g (framed atom_word) e (record a.own { list = a.at.behind }) behind a.at.ahead)
        (fits_fewer g (g.present e.store) a.own {few = room} (omega arith) a.fits))

    module _ (word : W) (made : Makes (g.present e.store) (g.present store) word
        (goal_of (text_at (g.names e.store) name) (map (g.present e.store).term e.lists.arguments.items)))
        (numbers : KeepsNumbers (g.present e.store) (g.present store)) where
      adds : Adds (g.present e.store) (g.present store)
      adds = record { words = made.words; substitution = made.substitution; numbers = numbers }

      means : meaning (g.present store) word ≡ goal_put g atom_word e name
      means =
          let f = text_at (g.names e.store) name in
          ap₂ (λ (s : Subst) (t : Tree). apply s t) made.substitution made.term
          ∙ goal_means (g.present e.store) f e.lists.arguments.items

      abbrev showing : Engine S W M
      showing = record e { store = store; now = now.Running (next.Goal word behind) }

      shown_engine : (s : State) → Represents g (framed atom_word) old s → Represents g (framed atom_word) showing s
      shown_engine s r =
          let q = g.present store in
          let a = put.at s r in
          let o = a.own in
          let ms = a.at.behind in
          let goal : Member = Goal (Run (q.term word)) a.mark in
          let ahead =
          ahead_added g (framed atom_word) grown (record o { list = ms }) behind behind (pending_at e.lists behind)
          ms a.at.ahead adds a.fits (omega arith)
          (list_words atom_word (g.present e.store) q e.lists (extent_of e.lists) behind ms adds.words
          a.at.ahead.chain) in
          let first : Calls atom_word q (stack_of e.lists) word behind (goal ∷ ms) = record {
            goal = q.term word;
            mark = a.mark;
            behind = ms;
            is = refl;
            stands = (made.holds, refl);
            chain = whole_chain atom_word e.lists ahead.chain;
          } in
          let engine =
          engine_next g (framed atom_word) (record e { store = store }) (record o { list = ms }) behind e.raised
          (now.Running (next.Goal word behind)) (goal ∷ ms) ahead (omega arith)
          (first, goes_with (goal ∷ ms) o.stack ahead.goes) in
          let value : apply o.subst (q.term word) ≡ apply o.subst a.term =
          ap (λ (x : Subst). apply x (q.term word)) (sym ahead.goes.subst) ∙ (means ∙ sym a.value) in
          let same : Same (record o { list = goal ∷ ms }) o =
          subst (λ (xs : List Member). Same (record o { list = goal ∷ ms }) (record o { list = xs }))
          (sym a.at.list)
          (same_first o (Run (q.term word)) (Run a.term) a.mark ms (ap Run value)
          (around_own o s (Run a.term) a.mark ms a.at.list a.same)) in
          record {
            own = record o { list = goal ∷ ms };
            engine = engine;
            same = alike_on (record o { list = goal ∷ ms }) o s same a.same;
          }

      pub shown : IsShown g atom_word old showing word behind (goal_put g atom_word e name)
      shown = record {
        stands = shown_engine;
        first = word_first showing word behind refl;
        means = means;
        less = weight_less (framed atom_word) old showing put.steps (let cheaper = put.less in omega (arith, cheaper));
        stays = stays_on g put.stays
            (stays_next g (now.Running (next.Goal word behind)) (stays_grown g (framed atom_word) grown));
      }

  -- ---- the goal is called

  -- no cell comes for a word
  pub put_called : {old e : Engine S W M} {name : ℕ} {behind : Option Rest} {room : ℕ} (clause : ℕ) (later : KeyedView)
      → IsCallPut g atom_word old e name behind room → e.steps ≢ 0
      → ((w : World) → IsWorld g (framed atom_word) e w
      → CallsAt (leaves_of g (framed atom_word) e) w (goal_put g atom_word e name) clause later)
      → IsToCall g atom_word old e clause later name behind
  put_called {e = e} {behind = behind} clause later put more calls = record {
    put = record {
      at = λ s r.
          (let a = put.at s r in
          record {
            own = a.own;
            same = a.same;
            term = a.term;
            mark = a.mark;
            at = a.at;
            value = a.value;
            fits = fits_fewer g (g.present e.store) a.own {few = 0 + pending_at e.lists behind} (omega arith) a.fits;
          });
      there = put.there;
      few = put.few;
      hold = put.hold;
      steps = put.steps;
      less = put.less;
      stays = put.stays;
    };
    more = more;
    calls = calls;
  }
