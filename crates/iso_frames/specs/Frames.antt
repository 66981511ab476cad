-- Frames that stand, and the lists of goals that begin at them.
use Rattle.std.specs.Prelude.{◌≡◌, ℕ, zero, suc, ◌≤◌, ◌<◌, ◌-◌, List, [], ◌∷◌, ◌++◌, length, take, drop, Option, Some, None}
use Rattle.iso_model.specs.Terms.Trees.{Tree}
use Rattle.iso_model.specs.Search.Bodies.{Run}
use Rattle.iso_model.specs.Search.Walker.{Member, Goal}
use Rattle.iso_store_core.specs.Presents.{Present}
use Rattle.iso_prep.specs.Trees.{At}
use Rattle.iso_prep.specs.declared.bodies.Node.{Node}
use Rattle.iso_plain_core.specs.declared.members.Todo.{Todo}
use Rattle.iso_plain_core.specs.declared.members.Link as plain
use Rattle.iso_plain_core.specs.Standing.{IsGoalWord, IsMember}
use Rattle.iso_compile.specs.ControlLaws.{with_level}
use Rattle.iso_instructions.specs.declared.instructions.Code.{Code}
use Rattle.iso_frames.specs.declared.frames.Rest.{Rest}
use Rattle.iso_frames.specs.declared.frames.Level.{Level}
use Rattle.iso_frames.specs.declared.frames.Link.{Link}
use Rattle.iso_frames.specs.declared.frames.Frame.{Frame}
use Rattle.iso_frames.specs.declared.frames.Work.TheVariants.{Clause, Member as OneMember}
use Rattle.iso_frames.specs.declared.frames.Next.{Next}
use Rattle.iso_frames.specs.declared.frames.Next.TheVariants as next
use Rattle.iso_frames.specs.Running.{Left, Stops}

-- The nodes of bodies, the frames and the words that stand.
pub record Stack (W : Type 0) : Type 0 where
  pub nodes : List (Node W)
  pub frames : List Frame
  pub words : List W

-- the place is that of a frame, or none
abbrev pub IsPlace : List Frame → Option Rest → Type 0
IsPlace frames None = Unit {0}
IsPlace frames (Some r) = r.frame < length frames

-- the frame is before the i-th, or none
abbrev pub IsBefore : Option Rest → ℕ → Type 0
IsBefore None i = Unit {0}
IsBefore (Some r) i = r.frame < i

-- how many words stand for the frame at this place and what is behind it
abbrev pub top_at : List Frame → ℕ → ℕ
top_at [] i = 0
top_at (f ∷ fs) zero = f.top
top_at (f ∷ fs) (suc i) = top_at fs i

abbrev pub top_of : List Frame → Option Rest → ℕ
top_of frames None = 0
top_of frames (Some r) = top_at frames r.frame

-- how many ends a thrown ball passes at most from a place on
abbrev pub depth_of : Option Rest → ℕ
depth_of None = 0
depth_of (Some r) = suc r.frame

-- The slots of a clause keep these heights, whose newest level this is; it is in a frame before the i-th.
pub data Levels (frames : List Frame) : ℕ → Option Level → (ℕ → ℕ) → Type 0 where
  no_level : {i : ℕ} → Levels frames i None (λ slot. 0)
  a_level : {i : ℕ} {v : Level} {f : Frame} {code : _} {level : Option Level} {kept : ℕ → ℕ} → v.frame < i
      → At frames v.frame f → f.work ≡ Clause code level
      → Levels frames v.frame level kept → Levels frames i (Some v) (with_level v.slot v.height kept)

-- the link as the plain engine has it
abbrev pub plain_link : Todo → ℕ → plain.Link
plain_link todo height = record { todo = todo; height = height; next = None }

-- the words of a clause's variables: the last ones below the top
abbrev pub environment : {W : Type 0} → List W → ℕ → Code → List W
environment words top code = drop (top - code.variables) (take top words)

module _ {W : Type 0} (atom_word : ℕ → W) where
  -- The list from this place on.
  pub data Chain (p : Present W) (k : Stack W) : Option Rest → List Member → Type 0 where
    ends : Chain p k None []
    a_member : {r : Rest} {f : Frame} {todo : Todo} {m : Member} {ms : List Member} → At k.frames r.frame f
        → IsBefore f.behind r.frame → f.work ≡ OneMember todo
        → IsMember p k.nodes (plain_link todo f.height) m → top_of k.frames f.behind ≤ f.top → f.top ≤ length k.words
        → Chain p k f.behind ms → Chain p k (Some r) (m ∷ ms)
    a_clause : {r : Rest} {f : Frame} {code : _} {level : Option Level} {kept : ℕ → ℕ} {ms behind all : List Member}
        → At k.frames r.frame f → IsBefore f.behind r.frame → f.work ≡ Clause code level
        → Levels k.frames r.frame level kept
        → Left atom_word p code.value (environment k.words f.top code.value) f.height kept r.address ms
        → top_of k.frames f.behind ≤ f.top - code.value.variables → f.top ≤ length k.words → Chain p k f.behind behind
        → all ≡ ms ++ behind → Chain p k (Some r) all

  -- The frame at this place has the code of a clause, at an instruction that does something.
  pub record StopsAt (k : Stack W) (r : Rest) : Type 0 where
    pub frame : Frame
    pub at : At k.frames r.frame frame
    pub code : _
    pub level : Option Level
    pub work : frame.work ≡ Clause code level
    pub stops : Stops code.value r.address

  -- A member comes first, and then a list.
  pub record Leads (p : Present W) (k : Stack W) (link : Link) (all : List Member) : Type 0 where
    pub member : Member
    pub behind : List Member
    pub is : all ≡ member ∷ behind
    pub stands : IsMember p k.nodes (plain_link link.todo link.height) member
    pub chain : Chain p k link.behind behind

  -- The goal that the word stands for comes first, and then a list.
  pub record Calls (p : Present W) (k : Stack W) (word : W) (place : Option Rest) (all : List Member) : Type 0 where
    pub goal : Tree
    pub mark : ℕ
    pub behind : List Member
    pub is : all ≡ Goal (Run goal) mark ∷ behind
    pub stands : IsGoalWord p word goal
    pub chain : Chain p k place behind

  -- what comes first of a list
  abbrev pub First : Present W → Stack W → Next W → List Member → Type 0
  First p k (next.Member link) all = Leads p k link all
  First p k (next.Goal word place) all = Calls p k word place all
  First p k (next.Code r) all = Chain p k (Some r) all × StopsAt k r
