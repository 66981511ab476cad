-- What holds of the state that an engine stands for, where it stops there; and how an idle state ends.
use Rattle.std.proofs.Common.{◌≡◌, Bool, true, false, ap, if◌then◌else◌}
use Rattle.iso_model.specs.Search.Engines.{Ready, Spent, HoldsWhereItIs}
use Rattle.iso_model.specs.Search.Runs.{here}
use Rattle.iso_model.specs.Search.Walker.{State, NoMore, Ends, step, idle}
use Rattle.iso_model.specs.declared.limit.Limit.TheVariants.{Heap}

pub holds_there : (spent : Bool) (s : State) (P : State → Type 0) → P s → HoldsWhereItIs (if spent then Spent Heap else Ready) s P
holds_there true s P holds = record { at = s; quiet = here; holds = holds }
holds_there false s P holds = holds

-- an idle state is at its end
pub idle_ends : (s : State) → s ≡ idle s.world → step s ≡ Ends NoMore s.world
unfolding step
idle_ends s is = ap step is
