-- The steps so far were loaded.
use Rattle.std.proofs.Common.{◌≡◌, take}
use Rattle.std.specs.List.{AllZip}
use Rattle.iso_store_core.specs.Retaining.{Retains}
use Rattle.iso_bodies.specs.Steps.{IsLoadedStep}
use Rattle.iso_bodies.proofs.steps.load_steps.Given as goal

abbrev pub invariant-loop-step : goal.invariant-loop-step
invariant-loop-step g l = record {
  loaded : AllZip (IsLoadedStep (g.S.Store.names l.store)) (take l.step-index l.steps) l.loaded.items;
  present : g.S.Store.present l.store ≡ g.S.Store.present l.fn.store;
  rest : Retains g.S.Store l.fn.store l.store;
}
