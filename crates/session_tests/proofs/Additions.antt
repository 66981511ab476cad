-- Adding a clause where memory is refused.
use Rattle.std.proofs.Common.{Err}
use Rattle.iso_model.specs.Search.Additions.{Addition, Adds, Refuses}
use Rattle.iso_model.specs.Search.Engines.{Consults}
use Rattle.iso_model.specs.Search.Walker.{State, idle}
use Rattle.iso_model.specs.declared.pauses.AddFault.TheVariants.{NoMemory}

-- whatever the clause is, the engine goes on over the same world
pub none_added : (a : Addition) (s : State) (Stands : State → Type 0) → Stands (idle s.world) → Consults a s (Err NoMemory) Stands
none_added (Adds db) s Stands stands = stands
none_added (Refuses error) s Stands stands = stands
