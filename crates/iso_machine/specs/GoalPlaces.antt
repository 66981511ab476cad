-- Where the goal stands that is called next, and the engine of which it comes first.
use Rattle.std.specs.Prelude.{◌≡◌, ℕ, Bool, List, length, Option, Vec}
use Rattle.std.specs.Global.{Global}
use Rattle.std.specs.declared.rc.Rc.{Rc}
use Rattle.iso_model.specs.Search.Walker.{State}
use Rattle.iso_store_core.specs.declared.stores.Store.{Ghosts}
use Rattle.iso_db.specs.Presents.{Stands}
use Rattle.iso_db.specs.declared.db.Db.{Db}
use Rattle.iso_instructions.specs.declared.instructions.Code.{Code}
use Rattle.iso_frames.specs.declared.frames.Rest.{Rest}
use Rattle.iso_frames.specs.declared.frames.Frame.{Frame}
use Rattle.iso_frames.specs.declared.frames.Level.{Level}
use Rattle.iso_frames.specs.declared.frames.Next.TheVariants as next
use Rattle.iso_environments.specs.Leveled.{IsAtClause}
use Rattle.iso_environments.specs.Putting.{IsCallThere}
use Rattle.iso_search_core.specs.declared.nows.Now.TheVariants as now
use Rattle.iso_search.specs.EngineStates.{Represents}
use Rattle.iso_machine.specs.declared.goal_places.GoalPlace.{GoalPlace}
use Rattle.iso_machine.specs.declared.goal_places.GoalPlace.TheVariants as standing
use Rattle.iso_machine.specs.Came.{IsBehindCalls}
use Rattle.iso_machine.specs.Engines.{Engine, EngineClause, framed}
use Rattle.iso_machine.specs.LastCalls.{IsUnframed, with_frame}

-- The frame there is that of a clause with this code, for which so many words stand. Behind it the list begins at this
-- place.
pub record IsCodeThere (frames : List Frame) (r : Rest) (code : Code) (top : ℕ) (behind : Option Rest) : Type 0 where
  pub frame : Frame
  pub copy : Rc Code Global
  pub level : Option Level
  pub at : IsAtClause frames r frame copy level
  pub same : copy.value ≡ code
  pub top_is : frame.top ≡ top
  pub behind_is : frame.behind ≡ behind

module _ {S W M : Type 0} where
  -- there is a goal at the place
  abbrev pub IsReadable : List Frame → Db (EngineClause S W M) → GoalPlace → Type 0
  IsReadable frames db (standing.There r) = IsCallThere frames r
  IsReadable frames db (standing.Last clause behind) = (value : EngineClause S W M) × Stands db clause value

  -- This is the code that calls the goal, and goes on there. So many of these words stand for its clause, and the list
  -- behind it begins at the last place.
  abbrev pub IsCodeAt : List Frame → ℕ → Db (EngineClause S W M) → GoalPlace → Code → Rest → ℕ → Option Rest → Type 0
  IsCodeAt frames words db (standing.There r) code rest top behind = (rest ≡ r) × IsCodeThere frames r code top behind
  IsCodeAt frames words db (standing.Last clause last) code rest top behind =
      (rest ≡ record { frame = length frames; address = 1 }) × (top ≡ words) × (behind ≡ last)
      × ((value : EngineClause S W M) → Stands db clause value → code ≡ value.own.kept.value)

  -- the goal is at this place of the engine; with these frames its instruction is there
  abbrev pub IsGoalAt : Engine S W M → GoalPlace → Vec Frame Global → Rest → Type 0
  IsGoalAt e (standing.There r) frames rest =
      (frames ≡ e.lists.frames) × (rest ≡ r) × (e.now ≡ now.Running (next.Code r)) × IsCallThere e.lists.frames.items r
  IsGoalAt e (standing.Last clause behind) frames rest = IsUnframed e frames rest clause behind

-- The goal at this place comes first of the engine with these frames. The engine is the old one, or calls went on to
-- it from there.
pub record IsNextGoal {S W M : Type 0} (g : Ghosts S W M) (atom_word : ℕ → W) (old e : Engine S W M) (place : GoalPlace)
    (went : Bool) : Type 0 where
  pub frames : Vec Frame Global
  pub rest : Rest
  pub at : IsGoalAt e place frames rest
  pub state : State
  pub stands : Represents g (framed atom_word) (with_frame e frames rest) state
  pub from : IsBehindCalls g atom_word old (with_frame e frames rest) went
