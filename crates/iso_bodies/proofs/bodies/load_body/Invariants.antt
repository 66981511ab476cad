-- The instructions so far were loaded.
use Rattle.std.proofs.Common.{◌≡◌, take}
use Rattle.std.specs.List.{AllZip}
use Rattle.iso_store_core.specs.Retaining.{Retains}
use Rattle.iso_bodies.specs.Instructions.{IsLoadedInstruction}
use Rattle.iso_bodies.proofs.bodies.load_body.Given as goal

abbrev pub invariant-loop-instruction : goal.invariant-loop-instruction
invariant-loop-instruction g l = record {
  loaded : AllZip (IsLoadedInstruction (g.S.Store.names l.store) l.low) (take l.instruction-index l.body) l.code.items;
  present : g.S.Store.present l.store ≡ g.S.Store.present l.fn.store;
  rest : Retains g.S.Store l.fn.store l.store;
}
