-- What a move of the engine gives, as the contracts of the moves say it.
use Rattle.std.specs.Prelude.{ℕ, suc, ◌≤◌, Result, IfOk, OnErr}
use Rattle.iso_model.specs.Search.Walker.{State}
use Rattle.iso_store_core.specs.declared.shapes.StoreFault.{StoreFault}
use Rattle.iso_store_core.specs.declared.stores.Store.{Ghosts}
use Rattle.iso_search_core.specs.declared.lists.Lists as lists
use Rattle.iso_search_core.specs.Bodies.{whole_cost}
use Rattle.iso_search.specs.declared.search.Move.{Move}
use Rattle.iso_search.specs.declared.search.Search.{Search}
use Rattle.iso_search.specs.EngineStates.{Represents, Refused, Moves, Falls, weight}
use Rattle.iso_search.specs.Limits.{ResultMet, ResultFull}
use Rattle.iso_search.specs.Stays.{Stays}

module _ {S L W M K P C N B O : Type 0} (g : Ghosts S W M) (l : lists.Ghosts L S K P C N B O W M) where
  -- The engine moved. Of each state that it represented this is a move of the search, or the move was refused and the
  -- engine is stopped, and what is left falls. Its members are full only where this holds of the state, its heap only
  -- where its store is full.
  pub record Moved (Over : State → Type 0) (old : Search S L W M K P C N B O) (result : Result Move StoreFault) (new : Search S L W M K P C N B O) : Type 0 where
    pub moves : (s : State) → Represents g l old s → IfOk result (λ m. Moves g l m s new)
    pub stopped : (s : State) → Represents g l old s → OnErr result (Refused g l new s)
    pub falls : IfOk result (λ m. Falls m (weight l old) (weight l new))
    pub frames : (s : State) → Represents g l old s → ResultFull (Over s) result
    pub met : ResultMet g result new
    pub stays : Stays g old new

-- Behind a goal, which took the step, a move made what is left fall, if that is at most what was left before the goal.
abbrev pub FallsFrom : {S L W M K P C N B O : Type 0} → lists.Ghosts L S K P C N B O W M → Search S L W M K P C N B O → ℕ → Result Move StoreFault → Search S L W M K P C N B O → Type 0
FallsFrom l old spent result new = (w : ℕ) → spent ≤ w → IfOk result (λ m. Falls m (whole_cost (suc old.steps) w) (weight l new))
