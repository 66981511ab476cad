-- Members that come first of lists in frames.
use Rattle.std.specs.Prelude.{◌≡◌, ℕ, List, Option}
use Rattle.iso_prep.specs.declared.bodies.Node.{Node}
use Rattle.iso_plain_core.specs.declared.members.Todo.{Todo}
use Rattle.iso_frames.specs.declared.frames.Rest.{Rest}
use Rattle.iso_frames.specs.declared.frames.Next.{Next}
use Rattle.iso_frames.specs.declared.frames.Next.TheVariants as next
use Rattle.iso_machine.specs.declared.framed.Framed.{Framed}

-- A member with this height comes first, which asks for this, before the list from the place on.
abbrev pub IsMemberFirst : {W : Type 0} → Next W → Todo → ℕ → Option Rest → Type 0
IsMemberFirst first asked height behind =
    first ≡ next.Member (record { todo = asked; height = height; behind = behind })

-- the nodes of bodies
abbrev pub nodes_of : {S W M : Type 0} → Framed S W M → List (Node W)
nodes_of l = l.nodes.items
