-- The parts from here on make the term of the last terms before, as many as are needed.
use Rattle.std.proofs.Common.{ℕ, List, ◌≤◌}
use Rattle.iso_store.proofs.StartLemmas.{Starts}
use Rattle.iso_store.proofs.reading.start_of.Given as goal

abbrev pub invariant-loop-needed : goal.invariant-loop-needed
invariant-loop-needed l = record {
  within : l.from ≤ l.past;
  few : l.needed ≤ l.from;
  starts : (names : List (List ℕ)) → Starts names l.head l.from l.past l.needed;
}

abbrev pub decreases-loop-needed : goal.decreases-loop-needed
decreases-loop-needed l = l.from
