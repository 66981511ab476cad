use Rattle.iso_logic.proofs.Worlds.{runs_keep_world}
use Rattle.iso_logic.proofs.laws_of_answers.runs_keep_the_world.Goals as goal

pub returns : goal.returns
returns c = runs_keep_world
