-- What calling the procedure of the goal that comes first comes to.
use Rattle.std.proofs.Common.{◌≡◌, ◌≢◌, ◌<◌, ◌≤◌, ◌-◌, ℕ, List, ◌∷◌, length, refl, ap, sym, subst, arith, inl, inr}
use Rattle.iso_model.specs.Terms.Trees.{Tree}
use Rattle.iso_model.proofs.Search.RunLaws.Likeness.{Alike, alike_fewer}
use Rattle.iso_model.proofs.Search.CallLemmas.{clause_keeps}
use Rattle.iso_model.specs.Search.Walker.{State, Member, tried, with_others}
use Rattle.iso_model.specs.Search.Engines.{IsAwake}
use Rattle.iso_model.specs.Search.Runs.{Quiet}
use Rattle.iso_search.specs.Limits.{ComesFull}
use Rattle.iso_search.proofs.OverLemmas.{comes_beyond}
use Rattle.iso_model.specs.declared.limit.Limit.TheVariants as limit
use Rattle.iso_store_core.specs.Presents.{meaning}
use Rattle.iso_store_core.specs.declared.stores.Store.{Ghosts}
use Rattle.iso_db.specs.declared.keyed.KeyedView.{KeyedView}
use Rattle.iso_search_core.specs.declared.lists.Lists as lists
use Rattle.iso_search_core.specs.declared.nows.Now.{Now}
use Rattle.iso_search_core.specs.declared.nows.Now.TheVariants as now
use Rattle.iso_search_core.specs.Standing.{HaveRoom}
use Rattle.iso_search_core.proofs.StandingLemmas.{choices_length}
use Rattle.iso_search.specs.declared.search.Move.{Move}
use Rattle.iso_search.specs.declared.search.Move.TheVariants as move
use Rattle.iso_search.specs.declared.search.Search.{Search}
use Rattle.iso_search.specs.Called.{CallsAt}
use Rattle.iso_search.specs.EngineStates.{Calls, Moves, Refused, Represents, StandsBy, StandsFor, WasRefused, WasTried, leaves_of, phase_of}
use Rattle.iso_search.specs.Nexts.{IsAtGoal}
use Rattle.iso_search.proofs.BackLemmas.{room_less}
use Rattle.iso_search.proofs.Moves.Engine.{spent_stands}
use Rattle.iso_search.proofs.RunLemmas.{one_less}
use Rattle.iso_search.proofs.Moves.Search.{goes_to, refuses_at, refuses_here, stops_here}
use Rattle.iso_search.proofs.Moves.Value.{IsAtValue, value_of, value_tries}
use Rattle.iso_search.proofs.SearchSteps.{one_more}

module _ {S L W M K P C N B O : Type 0} (g : Ghosts S W M) (l : lists.Ghosts L S K P C N B O W M) where
  -- the engine is awake
  pub running_stands : (e : Search S L W M K P C N B O) (s : State) (first : N) → e.now ≡ now.Running first
      → Represents g l e s → StandsFor g l e s × IsAwake (phase_of e.now)
  running_stands e s first doing r =
      subst (λ (n : Now N P). StandsBy g l n e s × IsAwake (phase_of n)) (sym doing) (r, tt)

  -- A goal of this value comes first.
  module _ (e : Search S L W M K P C N B O) (own s : State) (call : Tree) (rest : P) (same : Alike own s)
      (a : IsAtValue g l e call rest own) (more : e.steps ≢ 0) where
    abbrev behind : List Member
    behind = a.at.behind

    -- with the step taken
    abbrev taken : State
    taken = record own { steps = e.steps - 1 }

    -- ---- a call of a procedure of which these clauses are left

    module _ (clause : ℕ) (later : KeyedView) (user : CallsAt (leaves_of g l e) own.world call clause later) where
      abbrev tries : State
      tries = tried call (user.first ∷ user.others) behind taken

      on : (u : State) × Quiet s u × Alike tries u
      on = value_tries g l e own s call rest same a more user.key (user.first ∷ user.others) user.user user.clauses

      tries_stack : tries.stack ≡ (with_others call user.others behind taken).stack
      tries_stack =
          (clause_keeps call user.first (length own.stack) behind (with_others call user.others behind taken)).0

      pub value_calls : (x : C) → l.call (g.present e.store) e.lists (l.whole e.lists) x call
          → Calls g l (record e { steps = e.steps - 1 }) (record { clause = clause; later = later; call = x }) rest taken
          call user.first user.others behind
      value_calls x is_for =
          let ahead = a.at.ahead in
          let many = one_less e.steps more in
          record {
            ahead = record {
              world = ahead.world;
              steps = refl;
              base = ahead.base;
              choices = ahead.choices;
              room = room_less (e.steps - 1) own.stack (subst (λ (k : ℕ). HaveRoom k own.stack) many ahead.room);
              fits = ahead.fits;
              goes = record {
                subst = ahead.goes.subst;
                next = ahead.goes.next;
                room = (let room = ahead.goes.room in let all = ahead.steps in omega (arith, room, all, many));
                words = ahead.goes.words;
              };
              chain = ahead.chain;
            };
            space = (let room = ahead.goes.room in let all = ahead.steps in omega (arith, room, all, many));
            is_for = is_for;
            clauses = user.left;
            enter = user.clauses.enter;
          }

      pub value_called : (new : Search S L W M K P C N B O) (m : Move) → WasTried g l m new taken tries
          → Moves g l m s new
      value_called new move.Goes was = goes_to g l new s tries on.0 on.1 on.2 was.0 was.1
      value_called new (move.Pauses p) was =
          let stopped = stops_here g l new own s same was.2 in
          rw was.0 (spent_stands g l limit.Frames new.now new s (ap phase_of was.1) stopped, ap phase_of was.1)

      -- the call was refused
      pub value_refused : (new : Search S L W M K P C N B O) → WasRefused g l new taken tries → Refused g l new s
      value_refused new (inl remains) = refuses_here g l new own s same remains
      value_refused new (inr remains) = refuses_at g l new s tries on.0 on.1 on.2 remains

      -- a call that may make no choice any more: the search comes to more alternatives than there may be, and spans
      -- more
      pub value_over : (e.limit ≤ length e.choices.items) × (0 < length user.others) → ComesFull e.limit s
      value_over full =
          let many = choices_length l a.at.ahead.choices in
          let stack = ap length tries_stack in
          let longer = one_more call user.others behind taken full.1 in
          let fewer = alike_fewer tries on.0 on.2 in
          let over = full.0 in (
            record { at = on.0; quiet = on.1; holds = omega (arith, many, stack, longer, fewer, over) },
            comes_beyond g l e own s e.limit a.at.ahead.choices same (omega (arith, many, over)),
          )

  -- the same of a goal that a word stands for
  module _ (e : Search S L W M K P C N B O) (s : State) (w : W) (rest : P) (r : Represents g l e s)
      (a : IsAtGoal g l e w rest r.own) (more : e.steps ≢ 0) where
    abbrev own : State
    own = r.own

    abbrev word_call : Tree
    word_call = meaning (g.present e.store) w

    -- with the step taken
    abbrev pub less : State
    less = record own { steps = e.steps - 1 }

    module _ (clause : ℕ) (later : KeyedView) (user : CallsAt (leaves_of g l e) own.world word_call clause later) where
      abbrev word_tries : State
      word_tries = tried word_call (user.first ∷ user.others) a.at.behind less

      pub next_calls : (x : C) → l.call (g.present e.store) e.lists (l.whole e.lists) x word_call
          → Calls g l (record e { steps = e.steps - 1 }) (record { clause = clause; later = later; call = x }) rest less
          word_call user.first user.others a.at.behind
      next_calls = value_calls e own s word_call rest r.same (value_of g l a) more clause later user

      pub next_called : (new : Search S L W M K P C N B O) (m : Move) → WasTried g l m new less word_tries
          → Moves g l m s new
      next_called = value_called e own s word_call rest r.same (value_of g l a) more clause later user

      pub next_refused : (new : Search S L W M K P C N B O) → WasRefused g l new less word_tries → Refused g l new s
      next_refused = value_refused e own s word_call rest r.same (value_of g l a) more clause later user

      pub next_over : (e.limit ≤ length e.choices.items) × (0 < length user.others) → ComesFull e.limit s
      next_over = value_over e own s word_call rest r.same (value_of g l a) more clause later user
