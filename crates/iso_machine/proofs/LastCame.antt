-- Goals that are called one behind another: what the calls come to together.
use Rattle.std.proofs.Common.{◌≡◌, ℕ, Bool, true, false, Option, None, Result, Ok, Err, refl, sym, subst}
use Rattle.std.specs.Result.{IsErr, IsErrAnd}
use Rattle.iso_model.specs.Search.Walker.{State}
use Rattle.iso_store_core.specs.declared.shapes.StoreFault.{StoreFault}
use Rattle.iso_store_core.specs.declared.shapes.StoreFault.TheVariants as fault
use Rattle.iso_store_core.specs.declared.stores.Store.{Ghosts}
use Rattle.iso_search_core.specs.declared.nows.Now.TheVariants as now
use Rattle.iso_frames.specs.declared.frames.Next.TheVariants as next
use Rattle.iso_frames.specs.declared.frames.Rest.{Rest}
use Rattle.iso_environments.specs.Putting.{IsCallThere}
use Rattle.iso_search.specs.declared.calls.Next.{Next}
use Rattle.iso_search.specs.declared.calls.NextGoal.{NextGoal}
use Rattle.iso_search.specs.declared.calls.Next.TheVariants as calls
use Rattle.iso_search.specs.EngineStates.{Represents, Refused}
use Rattle.iso_search.specs.Stays.{Stays}
use Rattle.iso_machine.specs.declared.goal_places.GoalPlace.{GoalPlace}
use Rattle.iso_machine.specs.declared.goal_places.GoalPlace.TheVariants as standing
use Rattle.iso_machine.specs.Came.{Came, CameTo}
use Rattle.iso_machine.specs.Engines.{Engine, framed}
use Rattle.iso_machine.specs.GoalPlaces.{IsNextGoal}
use Rattle.iso_machine.specs.LastCalls.{GoesLast, with_frame}
use Rattle.iso_machine.proofs.CameLemmas.{came_behind, came_not, came_same, came_to_behind, gone_error}
use Rattle.iso_machine.proofs.Moves.Last.{framed_stays, same_engine}

module _ {S W M : Type 0} (g : Ghosts S W M) (atom_word : ℕ → W) where
  -- the goal of the instruction that comes first
  pub first_goal : (e : Engine S W M) (r : Rest) → e.now ≡ now.Running (next.Code r)
      → IsCallThere e.lists.frames.items r → (s : State) → Represents g (framed atom_word) e s
      → IsNextGoal g atom_word e e (standing.There r) false
  first_goal e r doing there s stands =
      let same = same_engine e {frames = e.lists.frames} {rest = r} refl doing in
      record {
        frames = e.lists.frames;
        rest = r;
        at = (refl, refl, doing, there);
        state = s;
        stands = subst (λ (x : Engine S W M). Represents g (framed atom_word) x s) (sym same) stands;
        from = same;
      }

  module _ {old e : Engine S W M} {place : GoalPlace} {went : Bool} (h : IsNextGoal g atom_word old e place went) where
    -- the engine with the frame of its instruction
    abbrev pub whole : Engine S W M
    whole = with_frame e h.frames h.rest

    module _ {new : Engine S W M} where
      -- its arguments were refused
      pub next_not : {asked : Option (NextGoal W (Option Rest))} (result : Result Next StoreFault) → IsErr result
          → ((s : State) → Represents g (framed atom_word) whole s → Refused g (framed atom_word) new s)
          → (result ≡ Err fault.Full → g.full new.store) → Stays g e new
          → Came g atom_word old result asked new
      next_not result is stopped full stays =
          came_behind g atom_word went result h.from
          (came_not g atom_word result is stopped full (framed_stays g stays)) (λ w. gone_error result is)

      -- its call was refused
      pub next_error : {asked : Option (NextGoal W (Option Rest))} (result : Result Next StoreFault) (x : StoreFault)
          → IsErr result → IsErrAnd result (λ y. y ≡ x) → CameTo g atom_word whole (Err x) new
          → Came g atom_word old result asked new
      next_error result x is that came =
          came_behind g atom_word went result h.from (came_same g atom_word result x is that came)
          (λ w. gone_error result is)

      -- its call went on, or the frames are full
      pub next_went : CameTo g atom_word whole (Ok calls.Went) new → CameTo g atom_word old (Ok calls.Went) new
      next_went came = came_to_behind g atom_word went (Ok calls.Went) h.from came (λ w. refl)

      pub next_full : CameTo g atom_word whole (Ok calls.Full) new → CameTo g atom_word old (Ok calls.Full) new
      next_full came = came_to_behind g atom_word went (Ok calls.Full) h.from came (λ w. refl)

      -- a clause was entered without a frame: its goal is next
      pub next_last : {clause : ℕ} {behind : Option Rest}
          → GoesLast new clause behind (CameTo g atom_word whole (Ok calls.Went))
          → IsNextGoal g atom_word old new (standing.Last clause behind) true
      next_last last =
          let on = (last.says None).next h.state h.stands in
          record {
            frames = last.frames;
            rest = last.rest;
            at = last.unframed;
            state = on.0;
            stands = on.2;
            from = came_to_behind g atom_word went (Ok calls.Went) h.from last.says (λ w. refl);
          }

      -- its call went on, and an instruction calls the goal that comes first
      pub next_there : (r : Rest) → new.now ≡ now.Running (next.Code r) → IsCallThere new.lists.frames.items r
          → CameTo g atom_word whole (Ok calls.Went) new → IsNextGoal g atom_word old new (standing.There r) true
      next_there r doing there came =
          let same = same_engine new {frames = new.lists.frames} {rest = r} refl doing in
          let on = (came None).next h.state h.stands in
          record {
            frames = new.lists.frames;
            rest = r;
            at = (refl, refl, doing, there);
            state = on.0;
            stands = subst (λ (x : Engine S W M). Represents g (framed atom_word) x on.0) (sym same) on.2;
            from =
                subst (λ (x : Engine S W M). CameTo g atom_word old (Ok calls.Went) x) (sym same) (next_went came);
          }
