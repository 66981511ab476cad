-- What stands behind a fault of a built-in.
use Rattle.std.specs.Prelude.{◌≡◌, Result, Ok, Err}
use Rattle.iso_model.specs.Terms.TermOf.{term_of}
use Rattle.iso_model.specs.Search.Walker.{State}
use Rattle.iso_lib_core.specs.declared.outcomes.Fault.{Fault}
use Rattle.iso_lib_core.specs.declared.outcomes.Fault.TheVariants as fault
use Rattle.iso_store_core.specs.declared.shapes.StoreFault.{StoreFault}
use Rattle.iso_store_core.specs.declared.shapes.StoreFault.TheVariants as store_fault
use Rattle.iso_store_core.specs.declared.stores.Store.{Ghosts}
use Rattle.iso_search_core.specs.declared.lists.Lists as lists
use Rattle.iso_search_core.specs.declared.nows.Now.TheVariants as now
use Rattle.iso_search.specs.declared.search.Move.{Move}
use Rattle.iso_search.specs.declared.search.Move.TheVariants as move
use Rattle.iso_search.specs.declared.search.Search.{Search}
use Rattle.iso_search.specs.Catches.{throwing}
use Rattle.iso_search.specs.EngineStates.{IsAhead, IsEngine}

-- Its ball was thrown past the list from the place on; any other fault is said, and the engine is as it was.
abbrev pub Throws : {S L W M K P C N B O : Type 0} → Ghosts S W M → lists.Ghosts L S K P C N B O W M → Search S L W M K P C N B O → Fault → P → Result Move StoreFault → Search S L W M K P C N B O → Type 0
Throws g l old (fault.Raise ball) place result new =
    (result ≡ Ok move.Goes) × (new.now ≡ now.Raising place) × (new ≡ record old { raised = new.raised; now = new.now })
    × ((s : State) → IsAhead g l old s place → IsEngine g l new (throwing (term_of ball.term.value) s))
Throws g l old fault.Full place result new = (result ≡ Err store_fault.Full) × (new ≡ old)
Throws g l old fault.NoMemory place result new = (result ≡ Err store_fault.NoMemory) × (new ≡ old)
