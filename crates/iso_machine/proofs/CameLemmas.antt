-- What calls come to: refused ones, and those behind a word that was shown.
use Rattle.std.proofs.Common.{Bool, true, false, refl, ap, ◌≡◌, ◌≢◌, ◌≤◌, ◌<◌, ℕ, List, Option, Some, Result, Ok, Err, IfOk, OnErr, sym, subst, ◌∙◌, arith}
use Rattle.std.specs.Result.{IsErr, IsErrAnd}
use Rattle.std.proofs.lemmas.Bool.{false≢true}
use Rattle.std.proofs.lemmas.Result.{IfOk-weaker}
use Rattle.iso_model.specs.Terms.Trees.{Tree}
use Rattle.iso_model.specs.Search.Engines.{IsAwake}
use Rattle.iso_model.specs.Search.Runs.{Quiet}
use Rattle.iso_model.specs.Search.RunLaws.Spans.{ComesBeyond}
use Rattle.iso_model.specs.Search.Walker.{State, World}
use Rattle.iso_model.specs.declared.pauses.Pause.TheVariants as pause
use Rattle.iso_model.proofs.Search.RunLaws.Quiets.{quiet_trans, reaches_behind}
use Rattle.iso_db.specs.declared.keyed.KeyedView.{KeyedView}
use Rattle.iso_store_core.specs.declared.shapes.StoreFault.{StoreFault}
use Rattle.iso_store_core.specs.declared.shapes.StoreFault.TheVariants as fault
use Rattle.iso_store_core.specs.declared.stores.Store.{Ghosts}
use Rattle.iso_program.specs.Leaving.{AreLeft}
use Rattle.iso_search_core.specs.Own.{own_of}
use Rattle.iso_search_core.proofs.FittingLemmas.{fits_behind}
use Rattle.iso_frames.specs.declared.frames.Rest.{Rest}
use Rattle.iso_search.specs.declared.calls.Called.{Called}
use Rattle.iso_search.specs.declared.calls.Called.TheVariants as call
use Rattle.iso_search.specs.declared.calls.Next.{Next}
use Rattle.iso_search.specs.declared.calls.NextGoal.{NextGoal}
use Rattle.iso_search.specs.declared.calls.Next.TheVariants as calls
use Rattle.iso_search.specs.Called.{IsCalled}
use Rattle.iso_search.specs.EngineStates.{Represents, Refused, leaves_of, phase_of}
use Rattle.iso_search.specs.Nexts.{ComesNext, FallsNext}
use Rattle.iso_search.specs.Stays.{Stays}
use Rattle.iso_search.specs.Worlds.{IsWorld, KeepsWorld}
use Rattle.iso_search.proofs.LimitLemmas.{stays_on}
use Rattle.iso_search.proofs.Moves.Engine.{awake_stands, pauses_behind}
use Rattle.iso_search.proofs.Moves.Search.{stopped_behind}
use Rattle.iso_machine.specs.Came.{Came, CameLast, CameTo, IsBehindCalls}
use Rattle.iso_machine.specs.declared.calling.Gone.{Gone}
use Rattle.iso_machine.specs.Engines.{Engine, framed}
use Rattle.iso_machine.specs.GoalCalls.{IsCallPut, IsShown}
use Rattle.iso_machine.specs.Outcomes.{gone}
use Rattle.iso_machine.specs.Steps.{IsByStep}
use Rattle.iso_machine.proofs.FirstGoals.{came_left}

-- what the goal calls is the same where its word was made
pub still_called : {S W M : Type 0} (g : Ghosts S W M) (atom_word : ℕ → W) (e new : Engine S W M) (later : KeyedView)
    (t : Tree) (called : Called) → new ≡ record e { store = new.store; now = new.now }
    → g.names new.store ≡ g.names e.store
    → ((w : World) → IsWorld g (framed atom_word) e w
    → IsCalled (leaves_of g (framed atom_word) e) later w t called)
    → (w : World) → IsWorld g (framed atom_word) new w → IsCalled (leaves_of g (framed atom_word) new) later w t called
still_called {S = S} {W = W} {M = M} g atom_word e new later t called same names calling =
    subst (λ (x : Engine S W M). (w : World) → IsWorld g (framed atom_word) x w
    → IsCalled (leaves_of g (framed atom_word) x) later w t called) (sym same)
    (subst (λ (ns : List (List ℕ)). (w : World)
    → KeepsWorld (own_of (framed atom_word)) ns e.db e.callables.items e.vocabulary e.ops e.flags w
    → IsCalled (AreLeft (own_of (framed atom_word)) ns e.db) later w t called) (sym names) calling)

-- behind this refusal
pub full_behind : {T Fact : Type 0} (result : Result T StoreFault) (e : StoreFault) → IsErrAnd result (λ x. x ≡ e)
    → (e ≡ fault.Full → Fact) → result ≡ Err fault.Full → Fact
full_behind (Ok t) e is fact full = absurd is
full_behind (Err x) e is fact full = (let same : x ≡ fault.Full = cc in fact (sym is ∙ same))

-- a refusal is nothing else
pub error_else : {T Fact : Type 0} {t : T} (result : Result T StoreFault) → IsErr result → result ≡ Ok t → Fact
error_else (Ok t) is done = absurd (false≢true is)
error_else (Err e) is done = absurd (cc done)

-- a result that is this error
pub same_error : {T : Type 0} (result : Result T StoreFault) (e : StoreFault) → IsErr result
    → IsErrAnd result (λ x. x ≡ e) → Err e ≡ result
same_error (Ok t) e is that = absurd (false≢true is)
same_error (Err x) e is that = ap Err (sym that)

-- less falls to less
falls_before : (n : Next) (old mid new : ℕ) → mid ≤ old → FallsNext n mid new → FallsNext n old new
falls_before calls.Went old mid new less falls = omega arith
falls_before calls.Full old mid new less falls = tt
falls_before calls.Other old mid new less falls = omega arith

falls_on : (n : Next) (old mid new : ℕ) → mid < old → FallsNext n mid new
    → IfOk (gone (Ok n)) (λ m. FallsNext m old new)
falls_on calls.Went old mid new less falls = omega arith
falls_on calls.Full old mid new less falls = tt
falls_on calls.Other old mid new less falls = omega arith

gone_well : (Fact : Type 0) (n : Next) → OnErr (gone (Ok n)) Fact
gone_well Fact calls.Went = tt
gone_well Fact calls.Full = tt
gone_well Fact calls.Other = tt

pub gone_error : (result : Result Next StoreFault) → IsErr result → gone result ≡ result
gone_error (Ok n) is = absurd (false≢true is)
gone_error (Err e) is = refl

gone_heap : {Fact : Type 0} (n : Next) → gone (Ok n) ≡ Err fault.Full → Fact
gone_heap calls.Went full = absurd (cc)
gone_heap calls.Full full = absurd (cc)
gone_heap calls.Other full = absurd (cc)

module _ {S W M : Type 0} (g : Ghosts S W M) (atom_word : ℕ → W) (new : Engine S W M) where
  next_on : (n : Next) (asked : Option (NextGoal W (Option Rest))) (s t : State) → Quiet s t
      → ComesNext g (framed atom_word) ComesBeyond IsByStep n asked t new
      → IfOk (gone (Ok n)) (λ m. ComesNext g (framed atom_word) ComesBeyond IsByStep m asked s new)
  next_on calls.Went asked s t quiet h = (h.0, quiet_trans quiet h.1, h.2, h.3)
  next_on calls.Full asked s t quiet h = (
    pauses_behind g (framed atom_word) new s t pause.FramesFull quiet h.0,
    reaches_behind quiet h.1,
  )
  next_on calls.Other asked s t quiet h = (t, quiet, awake_stands g (framed atom_word) new.now new t h.1 h.0, h.1)

module _ {S W M : Type 0} (g : Ghosts S W M) (atom_word : ℕ → W) {old new : Engine S W M} where
  -- the call was refused
  pub came_not : {asked : Option (NextGoal W (Option Rest))} (result : Result Next StoreFault) → IsErr result
      → ((s : State) → Represents g (framed atom_word) old s → Refused g (framed atom_word) new s)
      → (result ≡ Err fault.Full → g.full new.store) → Stays g old new → Came g atom_word old result asked new
  came_not (Ok n) refused stopped full stays = absurd (false≢true refused)
  came_not (Err e) refused stopped full stays = record {
    next = λ s r. tt;
    stopped = stopped;
    falls = tt;
    full = full;
    stays = stays;
  }

  pub came_error : (e : StoreFault)
      → ((s : State) → Represents g (framed atom_word) old s → Refused g (framed atom_word) new s)
      → (e ≡ fault.Full → g.full new.store) → Stays g old new → CameTo g atom_word old (Err e) new
  came_error e stopped full stays asked =
      came_not (Err e) refl stopped (λ is. (let same : e ≡ fault.Full = cc in full same)) stays

  -- so where a clause may have no frame
  pub last_error : (clause : ℕ) (behind : Option Rest) (result : Result Gone StoreFault) (e : StoreFault)
      → IsErr result → IsErrAnd result (λ x. x ≡ e) → CameTo g atom_word old (Err e) new
      → CameLast g atom_word old result new clause behind
  last_error clause behind (Ok x) e is that came = absurd (false≢true is)
  last_error clause behind (Err x) e is that came =
      subst (λ (y : StoreFault). CameTo g atom_word old (Err y) new) (sym that) came

  -- behind a word that was shown
  pub came_shown : {asked : Option (NextGoal W (Option Rest))} {mid : Engine S W M} {word : W} {behind : Option Rest}
      {t : Tree} (result : Result Next StoreFault)
      → IsShown g atom_word old mid word behind t → Came g atom_word mid result asked new
      → Came g atom_word old result asked new
  came_shown result shown came = record {
    next = λ s r. came.next s (shown.stands s r);
    stopped = λ s r. came.stopped s (shown.stands s r);
    falls = IfOk-weaker result _ _ (λ n. falls_before n _ _ _ shown.less) came.falls;
    full = came.full;
    stays = stays_on g shown.stays came.stays;
  }

  -- behind a call that went on
  pub came_on : {asked : Option (NextGoal W (Option Rest))} {mid : Engine S W M} (result : Result Next StoreFault)
      → CameTo g atom_word old (Ok calls.Went) mid → Came g atom_word mid result asked new
      → Came g atom_word old (gone result) asked new
  came_on {asked = asked} (Ok n) to came = (
      let first = to asked in
      record {
        next = λ s r. (let on = first.next s r in next_on g atom_word new n asked s on.0 on.1 (came.next on.0 on.2));
        stopped = λ s r. gone_well (Refused g (framed atom_word) new s) n;
        falls = falls_on n _ _ _ first.falls came.falls;
        full = λ none. gone_heap n none;
        stays = stays_on g first.stays came.stays;
      }
      )
  came_on {asked = asked} (Err e) to came = (
      let first = to asked in
      record {
        next = λ s r. tt;
        stopped = λ s r.
            (let on = first.next s r in
            let there = came.stopped on.0 on.2 in
            record {
              stopped = stopped_behind g (framed atom_word) new s on.0 on.1 there.stopped;
              fits = fits_behind g (g.present new.store) s on.0 on.1 there.fits;
            });
        falls = tt;
        full = came.full;
        stays = stays_on g first.stays came.stays;
      }
      )

  -- the call is refused by the same error
  pub came_same : {asked : Option (NextGoal W (Option Rest))} (result : Result Next StoreFault) (e : StoreFault)
      → IsErr result → IsErrAnd result (λ x. x ≡ e) → CameTo g atom_word old (Err e) new
      → Came g atom_word old result asked new
  came_same {asked = asked} result e is that came =
      subst (λ (r : Result Next StoreFault). Came g atom_word old r asked new) (same_error result e is that) (came asked)

  -- a call behind others, or behind none
  pub came_behind : {asked : Option (NextGoal W (Option Rest))} {mid : Engine S W M} (went : Bool)
      (result : Result Next StoreFault)
      → IsBehindCalls g atom_word old mid went → Came g atom_word mid result asked new
      → (went ≡ true → gone result ≡ result) → Came g atom_word old result asked new
  came_behind {asked = asked} false result same came kept =
      subst (λ (e : Engine S W M). Came g atom_word e result asked new) same came
  came_behind {asked = asked} true result first came kept =
      subst (λ (r : Result Next StoreFault). Came g atom_word old r asked new) (kept refl)
      (came_on result first came)

  -- so where no goal is left
  pub came_to_behind : {mid : Engine S W M} (went : Bool) (result : Result Next StoreFault)
      → IsBehindCalls g atom_word old mid went → CameTo g atom_word mid result new
      → (went ≡ true → gone result ≡ result) → CameTo g atom_word old result new
  came_to_behind went result first came kept asked = came_behind went result first (came asked) kept

  -- behind a call that went on the word of the next goal was shown
  pub came_word : {asked : Option (NextGoal W (Option Rest))} {mid : Engine S W M} {word : W} {behind : Option Rest}
      {t : Tree} → CameTo g atom_word old (Ok calls.Went) mid → IsShown g atom_word mid new word behind t
      → Came g atom_word old (Ok calls.Went) asked new
  came_word {asked = asked} to shown = (
      let first = to asked in
      record {
        next = λ s r.
            (let on = first.next s r in (
              on.0,
              on.1,
              shown.stands on.0 on.2,
              subst (λ (n : _). IsAwake (phase_of n)) (sym shown.first.running) tt,
            ));
        stopped = λ s r. tt;
        falls = (let less = shown.less in let falls = first.falls in omega (arith, less, falls));
        full = λ none. absurd (cc);
        stays = stays_on g first.stays shown.stays;
      }
      )

  -- the word was refused
  pub shown_not : {asked : Option (NextGoal W (Option Rest))} {mid : Engine S W M} {name : ℕ} {behind : Option Rest}
      {room : ℕ} (result : Result Next StoreFault) → IsErr result
      → IsCallPut g atom_word old mid name behind room
      → ((s : State) → Represents g (framed atom_word) old s → Refused g (framed atom_word) new s)
      → (result ≡ Err fault.Full → g.full new.store) → Stays g mid new → Came g atom_word old result asked new
  shown_not result refused put stopped full stays = came_not result refused stopped full (stays_on g put.stays stays)

  -- it is left, with what it calls
  pub shown_left : {word : W} {behind : Option Rest} {t : Tree} (called : Called)
      → IsShown g atom_word old new word behind t → (later : KeyedView)
      → ((w : World) → IsWorld g (framed atom_word) new w
      → IsCalled (leaves_of g (framed atom_word) new) later w t called)
      → (new.steps ≢ 0 → (clause : ℕ) → called ≢ call.User clause)
      → Came g atom_word old (Ok calls.Other) (Some (record { goal = word; rest = behind; called = called })) new
  shown_left {word = word} {behind = behind} called shown later calling other =
      came_shown (Ok calls.Other) shown
      (came_left g atom_word new shown.first.first (Some (record { goal = word; rest = behind; called = called }))
      shown.first.running
      (record {
        is = shown.first;
        later = later;
        called = λ w is. subst (λ (x : Tree). IsCalled (leaves_of g (framed atom_word) new) later w x called)
            (sym shown.means) (calling w is);
        other = other;
      }))
