-- Clauses whose body is one goal of a procedure, and the frames that would be theirs.
use Rattle.std.specs.Prelude.{◌≡◌, ◌≤◌, ◌-◌, ℕ, List, ◌++◌, [], ◌∷◌, length, take, Option, Some, None, Vec}
use Rattle.std.specs.Global.{Global}
use Rattle.std.specs.List.{slice_get}
use Rattle.std.specs.declared.rc.Rc.{Rc}
use Rattle.iso_instructions.specs.declared.instructions.Goal as instruction
use Rattle.iso_instructions.specs.declared.instructions.Code.{Code}
use Rattle.iso_instructions.specs.declared.instructions.Instruction.TheVariants.{Execute}
use Rattle.iso_frames.specs.declared.frames.Rest.{Rest}
use Rattle.iso_frames.specs.declared.frames.Frame.{Frame}
use Rattle.iso_frames.specs.Frames.{depth_of}
use Rattle.iso_frames.specs.declared.frames.Work.TheVariants.{Clause}
use Rattle.iso_machine.specs.declared.framed.Framed.{Framed}
use Rattle.iso_environments.specs.Leveled.{IsAtClause}
use Rattle.iso_db.specs.Presents.{Stands}
use Rattle.iso_search_core.specs.declared.choices.Choice as kept
use Rattle.iso_search_core.specs.declared.nows.Now.TheVariants as now
use Rattle.iso_frames.specs.declared.frames.Next.TheVariants as next
use Rattle.iso_machine.specs.declared.framed.Extent.{Extent}
use Rattle.iso_machine.specs.declared.framed.KeptCall.{KeptCall}
use Rattle.iso_machine.specs.Engines.{Engine, EngineClause}

-- the goal with which the code of a clause begins, and ends
abbrev pub IsOneCall : Code → instruction.Goal → Type 0
IsOneCall code g = slice_get code.body.items 1 ≡ Some (Execute g)

-- The frame there would be that of a clause that was entered before the list from this place on. It has this code, and
-- its environment is the last of so many words. It goes on at the first instruction, which calls the goal.
pub record IsLastFrame (frames : List Frame) (r : Rest) (code : Code) (many : ℕ) (behind : Option Rest)
    (g : instruction.Goal) : Type 0 where
  pub frame : Frame
  pub copy : Rc Code Global
  pub at : IsAtClause frames r frame copy None
  pub same : copy.value ≡ code
  pub top : frame.top ≡ many
  pub behind_is : frame.behind ≡ behind
  pub address : r.address ≡ 1
  pub called : IsOneCall code g

-- The code of a clause calls one goal of a procedure, and ends.
pub record CallsAlone (code : Code) : Type 0 where
  pub goal : instruction.Goal
  pub called : IsOneCall code goal
  pub two : length code.body.items ≡ 2

-- where the first instruction of such a clause stands, whose frame would come behind those of the lists
abbrev pub place_of : {S W M : Type 0} → Framed S W M → Rest
place_of l = record { frame = length l.frames.items; address = 1 }

-- the lists with these frames
abbrev pub with_frames : {S W M : Type 0} → Framed S W M → Vec Frame Global → Framed S W M
with_frames l frames = record l { frames = frames }

-- these are the frames of the lists, and that of a clause with this code, which was entered at this height, before the
-- list from the place on
abbrev pub HasFrame : {S W M : Type 0} → Framed S W M → Vec Frame Global → Rc Code Global → ℕ → Option Rest → Type 0
HasFrame l frames code height behind =
    frames.items ≡ l.frames.items
    ++ record { work = Clause code None; height = height; top = length l.words.items; behind = behind } ∷ []

module _ {S W M : Type 0} where
  -- the engine with these frames, which goes on at this place
  abbrev pub with_frame : Engine S W M → Vec Frame Global → Rest → Engine S W M
  with_frame e frames rest =
      record e { lists = record e.lists { frames = frames }; now = now.Running (next.Code rest) }

  -- The engine entered the clause before the list from the place on, and made no frame of it. These frames are its own
  -- and that of the clause. Its newest choice keeps so many frames and words.
  pub record IsUnframed (e : Engine S W M) (frames : Vec Frame Global) (rest : Rest) (clause : ℕ) (behind : Option Rest)
      : Type 0 where
    pub goal : instruction.Goal
    pub value : EngineClause S W M
    pub stands : Stands e.db clause value
    pub place : rest ≡ place_of e.lists
    pub last : IsLastFrame frames.items rest value.own.kept.value (length e.lists.words.items) behind goal
    pub front : e.lists.frames.items ≡ take (length e.lists.frames.items) frames.items
    pub kept_frames : ℕ
    pub kept_words : ℕ
    pub newest : (c : kept.Choice W M Extent (Option Rest) KeptCall)
        → slice_get e.choices.items (length e.choices.items - 1) ≡ Some c
        → (kept_frames ≡ c.kept.frames) × (kept_words ≡ c.kept.words)
    pub few : kept_frames ≤ length e.lists.frames.items
    pub before : depth_of behind ≤ length e.lists.frames.items

  -- The engine entered the clause before the list from the place on, and made no frame of it. With the frame it is as
  -- this says.
  pub record GoesLast (e : Engine S W M) (clause : ℕ) (behind : Option Rest) (Says : Engine S W M → Type 0)
      : Type 0 where
    pub frames : Vec Frame Global
    pub rest : Rest
    pub unframed : IsUnframed e frames rest clause behind
    pub says : Says (with_frame e frames rest)
