-- Instructions that call no goal, where they stand, and what an engine splits into at one.
use Rattle.std.specs.Prelude.{◌≡◌, ℕ, ◌+◌, ◌-◌, ◌<◌, ◌≤◌, List, Option, Some}
use Rattle.std.specs.Global.{Global}
use Rattle.std.specs.List.{slice_get}
use Rattle.std.specs.declared.rc.Rc.{Rc}
use Rattle.iso_model.specs.Search.Runs.{Quiet}
use Rattle.iso_model.specs.Search.Walker.{State, Member, AsIs, pushed}
use Rattle.iso_model.proofs.Search.RunLaws.AlikeSpans.{Runs}
use Rattle.iso_model.proofs.Search.RunLaws.Likeness.{Alike}
use Rattle.iso_store_core.specs.declared.stores.Store.{Ghosts}
use Rattle.iso_instructions.specs.declared.instructions.Code.{Code}
use Rattle.iso_instructions.specs.declared.instructions.Instruction.{Instruction}
use Rattle.iso_instructions.specs.declared.instructions.Instruction.TheVariants.{Cut, GetLevel, TryElse}
use Rattle.iso_search_core.specs.Costs.{now_cost}
use Rattle.iso_frames.specs.declared.frames.Rest.{Rest}
use Rattle.iso_frames.specs.declared.frames.Level.{Level}
use Rattle.iso_frames.specs.declared.frames.Frame.{Frame}
use Rattle.iso_frames.specs.Costs.{first_cost}
use Rattle.iso_environments.specs.Leveled.{IsAtClause}
use Rattle.iso_search.specs.EngineStates.{IsAhead, Represents}
use Rattle.iso_machine.specs.Lists.{KeepsFrames, cost_at}
use Rattle.iso_machine.specs.Engines.{Engine, framed}

-- The frame there is a clause's, and this is the instruction of its code.
pub record IsInstructionThere (frames : List Frame) (r : Rest) (i : Instruction) : Type 0 where
  pub frame : Frame
  pub code : Rc Code Global
  pub level : Option Level
  pub clause : IsAtClause frames r frame code level
  pub item : slice_get code.value.body.items r.address ≡ Some i

-- the instruction calls no goal and does no arithmetic, but something
abbrev pub IsStep : Instruction → Type 0
IsStep (Cut mark) = Unit {0}
IsStep (GetLevel slot) = Unit {0}
IsStep (TryElse other) = Unit {0}
IsStep i = ⊥

-- Such an instruction is there.
pub record IsStepThere (frames : List Frame) (r : Rest) : Type 0 where
  pub instruction : Instruction
  pub step : IsStep instruction
  pub there : IsInstructionThere frames r instruction

-- to cut so many choices as a machine may have back to the first height is to cut them back to the second
abbrev pub CutsAs : ℕ → ℕ → Type 0
CutsAs height mark = (n : ℕ) → n < 18446744073709551616 → n - height ≡ n - mark

-- where the frame there goes on at this address
abbrev pub at_address : Rest → ℕ → Rest
at_address r a = record { frame = r.frame; address = a }

module _ {S W M : Type 0} (g : Ghosts S W M) (atom_word : ℕ → W) where
  -- From this state the search comes, without an event, to one that is alike the engine's own: there it goes on at the
  -- first place, with a goal, and an alternative is left at the second.
  pub record Splits (e : Engine S W M) (s : State) (on other : Rest) : Type 0 where
    pub own : State
    pub list : List Member
    pub others : List Member
    pub at : State
    pub quiet : Quiet s at
    pub same : Alike (record (pushed others AsIs own) { list = list }) at
    pub runs : Runs (record own { list = list })
    pub ahead : IsAhead g (framed atom_word) e (record own { list = list }) (Some on)
    pub left : IsAhead g (framed atom_word) e (record own { list = others }) (Some other)

  -- Frames came to an engine, which is to go on at the first place and to leave an alternative at the second. Less is
  -- to be done there.
  pub record IsSplit (old new : Engine S W M) (on other : Rest) : Type 0 where
    pub is : new ≡ record old { lists = new.lists }
    pub keeps : KeepsFrames atom_word (λ j. Unit {0}) old.lists new.lists
    pub splits : (s : State) → Represents g (framed atom_word) old s → Splits new s on other
    pub less : cost_at new.lists (Some on) + cost_at new.lists (Some other) + 2
        ≤ now_cost (λ next. first_cost old.lists.frames.items next) old.now
