-- All clauses are definite where those that are left are.
use Rattle.std.proofs.Common.{◌≡◌, drop, map}
use Rattle.iso_model.specs.Terms.TermOf.{term_of}
use Rattle.iso_logic.proofs.programs.is_definite.Given as goal
use Rattle.iso_logic.specs.DefinitePrograms.{are_definite}

abbrev pub invariant-loop-clause : goal.invariant-loop-clause
invariant-loop-clause l = are_definite (map term_of (drop l.clause-index l.program.clauses.items)) ≡ are_definite (map term_of l.program.clauses.items)
