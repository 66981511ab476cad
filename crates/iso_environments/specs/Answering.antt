-- The arithmetic at an address of code, and what it comes to.
use Rattle.std.specs.Prelude.{◌≡◌, ◌≤◌, ◌<◌, ◌-◌, ℕ, List, ◌∷◌, Some, Option, Result}
use Rattle.std.specs.Global.{Global}
use Rattle.std.specs.List.{slice_get}
use Rattle.std.specs.declared.rc.Rc.{Rc}
use Rattle.iso_model.specs.Terms.Trees.{Tree}
use Rattle.iso_model.specs.Terms.Substitutions.{apply}
use Rattle.iso_model.specs.Search.Bodies.{Run}
use Rattle.iso_model.specs.Search.Library.{library_answer}
use Rattle.iso_model.specs.Search.Walker.{Member, Goal}
use Rattle.iso_model.specs.Search.RunLaws.Sameness.{open_list}
use Rattle.iso_model.specs.declared.kinds.Library.{Library}
use Rattle.iso_model.specs.declared.built_ins.BuiltIn.TheVariants as built_in
use Rattle.iso_store_core.specs.Presents.{Present, KeepsWords}
use Rattle.iso_lib_core.specs.declared.outcomes.Reply.{Reply}
use Rattle.iso_lib_core.specs.declared.outcomes.Fault.{Fault}
use Rattle.iso_lib_core.specs.Replies.{IsReply}
use Rattle.iso_search_core.specs.GoalKinds.{IsBuiltIn}
use Rattle.iso_instructions.specs.declared.instructions.Code.{Code}
use Rattle.iso_instructions.specs.declared.instructions.Instruction.{Instruction}
use Rattle.iso_instructions.specs.declared.instructions.Instruction.TheVariants.{Is, Compare}
use Rattle.iso_frames.specs.declared.frames.Rest.{Rest}
use Rattle.iso_frames.specs.declared.frames.Level.{Level}
use Rattle.iso_frames.specs.declared.frames.Frame.{Frame}
use Rattle.iso_frames.specs.Frames.{Stack, Chain}
use Rattle.iso_frames.specs.Costs.{cost_of, pending_of}
use Rattle.iso_environments.specs.Leveled.{IsAtClause}

-- the instruction is arithmetic
abbrev pub IsArithmetic : Instruction → Type 0
IsArithmetic (Is left steps) = Unit {0}
IsArithmetic (Compare comparison steps) = Unit {0}
IsArithmetic i = ⊥

-- arithmetic is at this address
abbrev pub IsArithmeticAt : List Instruction → ℕ → Type 0
IsArithmeticAt code a = (i : Instruction) × (slice_get code a ≡ Some i) × IsArithmetic i

-- The frame at this place is that of a clause, whose instruction there is arithmetic.
pub record IsArithmeticThere (frames : List Frame) (r : Rest) : Type 0 where
  pub frame : Frame
  pub code : Rc Code Global
  pub level : Option Level
  pub clause : IsAtClause frames r frame code level
  pub arithmetic : IsArithmeticAt code.value.body.items r.address

-- the place one address below
abbrev pub below : Rest → Rest
below r = record { frame = r.frame; address = r.address - 1 }

-- Below the arithmetic less is to be done, and goals are to take no more cells.
pub record IsBelow (frames : List Frame) (r : Rest) : Type 0 where
  pub cost : cost_of frames (Some (below r)) < cost_of frames (Some r)
  pub pending : pending_of frames (Some (below r)) ≤ pending_of frames (Some r)

-- The goal that comes first of the list, conjunctions in front taken apart, is one of this row of the built-ins, and
-- this is what it comes to. The list behind it begins one address below, where words are kept.
pub record HasAnswered {W : Type 0} (atom_word : ℕ → W) (p q : Present W) (k : Stack W) (r : Rest) (all : List Member)
    (result : Result Reply Fault) : Type 0 where
  pub term : Tree
  pub mark : ℕ
  pub behind : List Member
  pub is : open_list all ≡ Goal (Run term) mark ∷ behind
  pub row : Library
  pub of_row : IsBuiltIn (apply p.substitution term) (built_in.Library row)
  pub replies : IsReply p q (library_answer row (apply p.substitution term)) result
  pub list : KeepsWords p q → Chain atom_word q k (Some (below r)) behind
