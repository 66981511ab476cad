-- Moves that go on, as calls that went on.
use Rattle.std.proofs.Common.{◌≡◌, ◌≤◌, ℕ, ap, sym, subst, arith, None, Result, Ok, Err}
use Rattle.std.specs.Result.{IsErr, IsErrAnd}
use Rattle.std.proofs.lemmas.Bool.{false≢true}
use Rattle.iso_model.specs.Search.Walker.{State}
use Rattle.iso_store_core.specs.declared.shapes.StoreFault.{StoreFault}
use Rattle.iso_store_core.specs.declared.shapes.StoreFault.TheVariants as fault
use Rattle.iso_store_core.specs.declared.stores.Store.{Ghosts}
use Rattle.iso_search.specs.declared.calls.Next.{Next}
use Rattle.iso_search.specs.declared.calls.Next.TheVariants as calls
use Rattle.iso_search.specs.declared.search.Move.{Move}
use Rattle.iso_search.specs.declared.search.Move.TheVariants as move
use Rattle.iso_search.specs.EngineStates.{Represents}
use Rattle.iso_search.specs.Limits.{ResultMet}
use Rattle.iso_search.specs.Moved.{Moved}
use Rattle.iso_search.proofs.MovedLemmas.{met_behind, moved_not, moved_on}
use Rattle.iso_machine.specs.Came.{CameTo, IsBehindMoves, went_on}
use Rattle.iso_machine.specs.Engines.{Engine, framed}
use Rattle.iso_machine.proofs.CameLemmas.{came_error, came_on}

-- behind this refusal the store is full
full_met : {S W M : Type 0} (g : Ghosts S W M) (new : Engine S W M) (e : StoreFault)
    → ResultMet g (Err e) new → e ≡ fault.Full → g.full new.store
full_met g new fault.Full met is = met
full_met g new fault.NoMemory met is = absurd (cc)

module _ {S W M : Type 0} (g : Ghosts S W M) (atom_word : ℕ → W) where
  module _ {old new : Engine S W M} where
    -- a move that goes on is a call that went on, and the other way round
    pub came_moved : {Over : State → Type 0} → Moved g (framed atom_word) Over old (Ok move.Goes) new
        → CameTo g atom_word old (Ok calls.Went) new
    came_moved moved asked = record {
      next = λ s r. moved.moves s r;
      stopped = λ s r. tt;
      falls = moved.falls;
      full = λ none. absurd (cc);
      stays = moved.stays;
    }

    pub moved_came : {Over : State → Type 0} → CameTo g atom_word old (Ok calls.Went) new
        → Moved g (framed atom_word) Over old (Ok move.Goes) new
    moved_came came =
        let c = came None in
        moved_on g (framed atom_word) (λ s r. c.next s r) c.falls c.stays

    -- so a refused one
    pub came_refused : {Over : State → Type 0} (e : StoreFault) → Moved g (framed atom_word) Over old (Err e) new
        → CameTo g atom_word old (Err e) new
    came_refused e moved =
        came_error g atom_word e (λ s r. moved.stopped s r) (full_met g new e moved.met) moved.stays

    pub moved_refused : {Over : State → Type 0} (result : Result Move StoreFault) (e : StoreFault) → IsErr result
        → IsErrAnd result (λ x. x ≡ e) → CameTo g atom_word old (Err e) new
        → Moved g (framed atom_word) Over old result new
    moved_refused result e is that came =
        let c = came None in
        moved_not g (framed atom_word) result is (λ s r. c.stopped s r)
        (met_behind g (framed atom_word) result e new that (λ full. c.full (ap Err full))) c.stays

    -- what is refused by this error
    pub went_not : {T : Type 0} (result : Result T StoreFault) (e : StoreFault) → IsErr result
        → IsErrAnd result (λ x. x ≡ e) → CameTo g atom_word old (Err e) new
        → CameTo g atom_word old (went_on result) new
    went_not (Ok t) e is that came = absurd (false≢true is)
    went_not (Err x) e is that came =
        subst (λ (y : StoreFault). CameTo g atom_word old (Err y) new) (sym that) came

    -- the same, of what a call comes to
    pub call_not : (result : Result Next StoreFault) (e : StoreFault) → IsErr result → IsErrAnd result (λ x. x ≡ e)
        → CameTo g atom_word old (Err e) new → CameTo g atom_word old result new
    call_not (Ok n) e is that came = absurd (false≢true is)
    call_not (Err x) e is that came =
        subst (λ (y : StoreFault). CameTo g atom_word old (Err y) new) (sym that) came

    -- so behind what went on
    pub refused_behind : {mid : Engine S W M} (e : StoreFault) → CameTo g atom_word old (Ok calls.Went) mid
        → CameTo g atom_word mid (Err e) new → CameTo g atom_word old (Err e) new
    refused_behind e first came asked = came_on g atom_word (Err e) first (came asked)

  -- the engine itself
  pub behind_none : (e : Engine S W M) (s : State) → Represents g (framed atom_word) e s
      → IsBehindMoves g atom_word e e
  behind_none e s stands = record {
    behind = λ first came. came;
    state = s;
    stands = stands;
    few = omega arith;
  }

  -- behind a further move
  pub behind_more : {old mid new : Engine S W M} → IsBehindMoves g atom_word old mid
      → CameTo g atom_word mid (Ok calls.Went) new → new.steps ≤ mid.steps → IsBehindMoves g atom_word old new
  behind_more {mid = mid} {new = new} h came fewer =
      let on = (came None).next h.state h.stands in
      record {
        behind = λ first to asked. came_on g atom_word (Ok calls.Went) (h.behind first to) (came asked);
        state = on.0;
        stands = on.2;
        few = (let few = h.few in omega (arith, few, fewer));
      }
