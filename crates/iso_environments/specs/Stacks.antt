-- Stacks by their parts.
use Rattle.std.specs.Prelude.{List}
use Rattle.iso_prep.specs.declared.bodies.Node.{Node}
use Rattle.iso_frames.specs.declared.frames.Frame.{Frame}
use Rattle.iso_frames.specs.Frames.{Stack}

abbrev pub stack : {W : Type 0} → List (Node W) → List Frame → List W → Stack W
stack nodes frames words = record { nodes = nodes; frames = frames; words = words }
