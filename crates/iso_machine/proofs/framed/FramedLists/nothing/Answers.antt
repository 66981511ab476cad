use Rattle.iso_frames.specs.Frames.{ends}
use Rattle.iso_machine.proofs.framed.FramedLists.nothing.Goals as goal

pub returns-clause-list : goal.returns-clause-list
returns-clause-list g c = λ p l k. ends
