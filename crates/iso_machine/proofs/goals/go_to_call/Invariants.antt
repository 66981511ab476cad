-- The engine is the one that there was, or moves went on to it from there.
use Rattle.iso_search.specs.EngineStates.{weight}
use Rattle.iso_machine.specs.Came.{IsBehindMoves}
use Rattle.iso_machine.specs.Engines.{framed}
use Rattle.iso_machine.proofs.goals.go_to_call.Given as goal

abbrev pub invariant-loop-rest : goal.invariant-loop-rest
invariant-loop-rest g l = IsBehindMoves g.S.Store g.S.Cells.atom_word l.fn.search l.search

abbrev pub decreases-loop-rest : goal.decreases-loop-rest
decreases-loop-rest g l = weight (framed g.S.Cells.atom_word) l.search
