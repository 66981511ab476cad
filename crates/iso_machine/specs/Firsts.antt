-- What comes first of a frame, and the end of a catch.
use Rattle.std.specs.Prelude.{◌≡◌, ℕ, ◌≤◌, List, [], MatchOption, Option, Some, None}
use Rattle.iso_compile.specs.Control.{Member}
use Rattle.iso_plain_core.specs.declared.members.Todo.TheVariants as todo
use Rattle.iso_instructions.specs.declared.instructions.Code.{Code}
use Rattle.iso_frames.specs.declared.frames.Rest.{Rest}
use Rattle.iso_frames.specs.declared.frames.Frame.{Frame}
use Rattle.iso_frames.specs.declared.frames.Work.{Work}
use Rattle.iso_frames.specs.declared.frames.Work.TheVariants.{Clause, Member as OneMember}
use Rattle.iso_frames.specs.declared.frames.Next.{Next}
use Rattle.iso_frames.specs.declared.frames.Next.TheVariants as next
use Rattle.iso_frames.specs.Running.{IsBody, Remains, Stops}
use Rattle.iso_frames.specs.Costs.{cells_from}

-- the height of the catch whose end the frame is, where it is one
abbrev pub catch_of : Work → ℕ → Option ℕ
catch_of (OneMember todo.Leave) height = Some height
catch_of (OneMember (todo.Body i)) height = None
catch_of (OneMember todo.CutTo) height = None
catch_of (OneMember todo.Fail) height = None
catch_of (OneMember (todo.Gather i)) height = None
catch_of (Clause code level) height = None

-- There some of a clause's body is left, or nothing.
abbrev pub GoesOn : Work → ℕ → Type 0
GoesOn (Clause code level) address = (b : IsBody) × (ls : List Member) × Remains b code.value address ls
GoesOn (OneMember todo) address = Unit {0}

-- At a lower address, or this one, there is an instruction that does something, and the same members are left.
pub record ComesTo {W : Type 0} (code : Code) (r : Rest) (b : IsBody) (ls : List Member) (n : Next W) : Type 0 where
  pub address : ℕ
  pub is : n ≡ next.Code (record { frame = r.frame; address = address })
  pub remains : Remains b code address ls
  pub stops : Stops code address
  pub below : address ≤ r.address
  pub cells : cells_from code address ≡ cells_from code r.address

-- This comes first of the frame, where it goes on there; none where no member is left.
abbrev pub IsFirstOf : {W : Type 0} → Frame → Rest → Work → Option (Next W) → Type 0
IsFirstOf f r (OneMember todo) first =
    first ≡ Some (next.Member (record { todo = todo; height = f.height; behind = f.behind }))
IsFirstOf f r (Clause code level) first =
    (b : IsBody) (ls : List Member) → Remains b code.value r.address ls → MatchOption first (ls ≡ [])
    (ComesTo code.value r b ls)
