-- Runs of the search: what it shows, in order, and how it ends (ISO/IEC 13211-1:1995, 7.7).
use Rattle.std.specs.Prelude.{◌≡◌, ◌<◌, ℕ, ◌+◌, ◌*◌, List}
use Rattle.iso_model.specs.Terms.Trees.{Tree}
use Rattle.iso_model.specs.Search.Walker.{State, World, Event, Ending, Answered, Wrote, Goes, Gives, Ends, step, idle, alternative_count, load}

-- events in order, each with the world behind it, and then the ending with what outlives the run
pub data Trace : Type 0 where
  Then : (event : Event) → (world : World) → (others : Trace) → Trace
  Stops : (ending : Ending) → (world : World) → Trace

-- Some number of steps from the state gives these events in this order and then this ending.
pub data Run : State → Trace → Type 0 where
  goes : {s t : State} {r : Trace} → step s ≡ Goes t → Run t r → Run s r
  gives : {s t : State} {e : Event} {r : Trace} → step s ≡ Gives e t → Run t r → Run s (Then e t.world r)
  ends : {s : State} {e : Ending} {w : World} → step s ≡ Ends e w → Run s (Stops e w)

-- some steps without an event lead from the first state to the second
pub data Quiet : State → State → Type 0 where
  here : {s : State} → Quiet s s
  onward : {s t u : State} → Quiet s t → step t ≡ Goes u → Quiet s u

-- Behind so many answers, and the outputs between them, the run of the first state stands at the second: it has just
-- begun, or just given one.
pub data HasGiven (s : State) : ℕ → State → Type 0 where
  begun : HasGiven s 0 s
  gave_answer : {k : ℕ} {t u v : State} {values : List Tree} → HasGiven s k t → Quiet t u → step u ≡ Gives (Answered values) v → HasGiven s (k + 1) v
  gave_output : {k : ℕ} {t u v : State} {bytes : List ℕ} → HasGiven s k t → Quiet t u → step u ≡ Gives (Wrote bytes) v → HasGiven s k v

-- Some steps without an event, and then this event, lead to a state that the relation holds of.
pub record Comes (old : State) (event : Event) (Stands : State → Type 0) : Type 0 where
  pub at : State
  pub new : State
  pub quiet : Quiet old at
  pub last : step at ≡ Gives event new
  pub stands : Stands new

-- Some steps without an event, and then this ending, lead to an idle state that the relation holds of.
pub record Finishes (old : State) (ending : Ending) (Stands : State → Type 0) : Type 0 where
  pub at : State
  pub world : World
  pub quiet : Quiet old at
  pub last : step at ≡ Ends ending world
  pub stands : Stands (idle world)

-- some steps without an event lead to a state of which P holds
pub record Reaches (old : State) (P : State → Type 0) : Type 0 where
  pub at : State
  pub quiet : Quiet old at
  pub holds : P at

-- Some steps without an event lead to a state with more alternatives than this.
abbrev pub ComesOver : ℕ → State → Type 0
ComesOver most s = Reaches s (λ t. most < alternative_count t)

-- Some steps without an event lead to a state twice whose load is above so many cells.
abbrev pub ComesAbove : ℕ → State → Type 0
ComesAbove cells s = Reaches s (λ t. cells < 2 * load t)
