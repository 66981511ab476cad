-- The frame of a clause whose slot keeps another height.
use Rattle.std.specs.Prelude.{◌≡◌, ℕ, ◌-◌, List, [], ◌∷◌, ◌++◌, length, Option, Some}
use Rattle.std.specs.Global.{Global}
use Rattle.std.specs.List.{slice_get}
use Rattle.std.specs.declared.rc.Rc.{Rc}
use Rattle.iso_compile.specs.ControlLaws.{with_level}
use Rattle.iso_instructions.specs.declared.instructions.Code.{Code}
use Rattle.iso_frames.specs.declared.frames.Rest.{Rest}
use Rattle.iso_frames.specs.declared.frames.Level.{Level}
use Rattle.iso_frames.specs.declared.frames.Frame.{Frame}
use Rattle.iso_frames.specs.declared.frames.Work.TheVariants.{Clause}
use Rattle.iso_frames.specs.Frames.{Levels}

-- the frame at this place is that of a clause
pub record IsAtClause (frames : List Frame) (r : Rest) (f : Frame) (code : Rc Code Global) (level : Option Level)
    : Type 0 where
  pub at : slice_get frames r.frame ≡ Some f
  pub work : f.work ≡ Clause code level

-- the level of the slot
abbrev pub level_at : Rest → ℕ → ℕ → Level
level_at r slot height = record { slot = slot; height = height; frame = r.frame }

-- A frame came whose slot keeps this height, and all else is as in that one; it goes on at the address before.
-- - same: its code is a copy.
-- - levels: the other slots keep what they did.
pub record HasLeveled (old : List Frame) (r : Rest) (slot height : ℕ) (f : Frame) (code : Rc Code Global)
    (new : List Frame) (made : Rest) : Type 0 where
  pub copy : Rc Code Global
  pub same : copy.value ≡ code.value
  pub frames : new ≡ old ++ record {
    work = Clause copy (Some (level_at r slot height));
    height = f.height;
    top = f.top;
    behind = f.behind;
  } ∷ []
  pub frame : made.frame ≡ length old
  pub address : made.address ≡ r.address - 1
  pub levels : (level : Option Level) (kept : ℕ → ℕ) → f.work ≡ Clause code level → Levels old r.frame level kept
      → Levels new made.frame (Some (level_at r slot height)) (with_level slot height kept)
