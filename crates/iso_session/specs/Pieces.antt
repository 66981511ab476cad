-- Where frames may be full, for each engine.
use Rattle.std.specs.Prelude.{ℕ}
use Rattle.iso_model.specs.Search.Runs.{ComesOver}
use Rattle.iso_model.specs.Search.RunLaws.Spans.{ComesBeyond}
use Rattle.iso_model.specs.Search.Walker.{State}
use Rattle.iso_session_core.specs.declared.statuses.EngineName.{EngineName}
use Rattle.iso_session_core.specs.declared.statuses.EngineName.TheVariants.{Plain, Wam}

-- The pieces of a walk in which so many frames may be full: with the plain engine those that come to more alternatives,
-- with the machine those that come to a state that spans more.
abbrev pub frames_pieces : EngineName → ℕ → State → Type 0
frames_pieces Plain frames = ComesOver frames
frames_pieces Wam frames = ComesBeyond frames
