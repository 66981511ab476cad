-- With the choice that isn't pushed yet the engine came from the one that there was.
use Rattle.std.proofs.Common.{◌+◌}
use Rattle.iso_db.specs.Keyed.{remaining_keyed}
use Rattle.iso_machine.specs.Unpushed.{HoldsCall, IsOpen}
use Rattle.iso_machine.proofs.shallow.try_others.Given as goal

abbrev pub invariant-loop-rest : goal.invariant-loop-rest
invariant-loop-rest g l =
    IsOpen g.S.Store g.S.Cells.atom_word l.fn.search l.search l.fn.kept l.kept l.fn.later l.later l.fn.put.behind
    × HoldsCall l.search.lists l.kept

abbrev pub decreases-loop-rest : goal.decreases-loop-rest
decreases-loop-rest g l = l.search.steps + remaining_keyed l.later
