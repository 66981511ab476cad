-- Steps without an event led to a state that the engine stands for.
use Rattle.std.proofs.Common.{◌≤◌}
use Rattle.iso_model.specs.Search.Engines.{IsAwake}
use Rattle.iso_search.specs.EngineStates.{phase_of, StandsFor, weight}
use Rattle.iso_model.specs.Search.Runs.{Quiet}
use Rattle.iso_model.specs.Search.Walker.{State}
use Rattle.iso_search.specs.Stays.{Stays}
use Rattle.iso_search.proofs.search.Search.run_on.Given as goal

abbrev pub invariant-loop-self : goal.invariant-loop-self
invariant-loop-self g l = record {
  awake : IsAwake (phase_of l.self.now);
  stands : (t : State) × StandsFor g.S.Store g.L.Lists l.self t;
  quiet : (s : State) → StandsFor g.S.Store g.L.Lists l.fn.self s
      → (t : State) × Quiet s t × StandsFor g.S.Store g.L.Lists l.self t;
  less : weight g.L.Lists l.self ≤ weight g.L.Lists l.fn.self;
  stays : Stays g.S.Store l.fn.self l.self;
}

abbrev pub decreases-loop-self : goal.decreases-loop-self
decreases-loop-self g l = weight g.L.Lists l.self
