-- What is written of the equations, and what is left.
use Rattle.std.proofs.Common.{◌≡◌, [], ◌++◌, map, drop, codes}
use Rattle.iso_model.specs.Terms.TermOf.{term_of}
use Rattle.iso_model.specs.Session.Lines.{equations}
use Rattle.iso_session_core.specs.Named.{names_of}
use Rattle.iso_session_core.proofs.composed.append_solution.Given as goal

abbrev pub invariant-loop-name : goal.invariant-loop-name
invariant-loop-name l =
    l.line.items ++ equations l.ops l.before l.seen (names_of (drop l.name-index l.names)) (map term_of l.values) ≡ l.fn.line.items ++ equations l.ops (codes " ") [] (names_of l.names) (map term_of l.values)
